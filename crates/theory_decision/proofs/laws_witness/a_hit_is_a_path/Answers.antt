use Rattle.theory_decision.proofs.HitPaths.{search_path}
use Rattle.theory_decision.proofs.laws_witness.a_hit_is_a_path.Goals as goal

pub returns : goal.returns
returns c = search_path
