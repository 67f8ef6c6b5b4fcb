use Rattle.theory_session.proofs.OneStepLaws.{question_adds_nothing, refused_question}
use Rattle.theory_session.proofs.laws_desk.questions_add_nothing.Goals as goal

pub returns-clause-same : goal.returns-clause-same
returns-clause-same g c = question_adds_nothing g.D.Meant.meanings

pub returns-clause-refused : goal.returns-clause-refused
returns-clause-refused g c = refused_question g.D.Meant.meanings
