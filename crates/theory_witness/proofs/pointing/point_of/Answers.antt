use Rattle.std.proofs.Common.{map, rules}
use Rattle.theory_witness.specs.Path.{step_of}
use Rattle.theory_witness.specs.declared.pointing.Pointed.TheVariants as pointed
use Rattle.theory_witness.proofs.PointLemmas.{point_is_right}
use Rattle.theory_witness.proofs.pointing.point_of.Goals as goal

pub returns-in_ok-named_point-in-Ok-clause-written : goal.returns-in_ok-named_point-in-Ok-clause-written
returns-in_ok-named_point-in-Ok-clause-written c = search rules

pub returns-in_ok-named_point-in-Ok-clause-right : goal.returns-in_ok-named_point-in-Ok-clause-right
returns-in_ok-named_point-in-Ok-clause-right c =
    point_is_right c.args.symbols.now (map step_of c.args.path.now.items) (pointed.At c.in_ok-named_point-in-Ok.field-0) c.requires.distinct
    c.requires.hit (returns-in_ok-named_point-in-Ok-clause-written c)
