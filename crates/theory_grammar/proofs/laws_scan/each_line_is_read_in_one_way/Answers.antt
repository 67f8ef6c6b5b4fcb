use Rattle.theory_grammar.proofs.ScanLaws.{one_reading}
use Rattle.theory_grammar.proofs.FrontLaws.{reading_of}
use Rattle.theory_grammar.proofs.laws_scan.each_line_is_read_in_one_way.Goals as goal

pub returns-clause-some : goal.returns-clause-some
returns-clause-some c = λ line. let r = reading_of line in (r.tokens, r.end, r.reads)

pub returns-clause-one : goal.returns-clause-one
returns-clause-one c = λ line ts us e f h k. one_reading 1 line ts us e f h k
