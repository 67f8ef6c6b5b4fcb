use Rattle.std.proofs.Common.{[], ◌∷◌, map, ap, ◌∙◌}
use Rattle.std.proofs.lemmas.List.{map-append}
use Rattle.theory_syntax.specs.Plain.{expr_of}
use Rattle.theory_signs.specs.Plain.{formula_of}
use Rattle.theory_lower.proofs.DivisorLemmas.{adds_one}
use Rattle.theory_lower.proofs.divisors.add_divisor.Goals as goal

pub returns-in_ok-keep-in-Ok-clause-written : goal.returns-in_ok-keep-in-Ok-clause-written
returns-in_ok-keep-in-Ok-clause-written c =
    let old = c.args.members.now.items in
    let F = c.in-Ok.formula in
    adds_one c.args.names.now (expr_of c.args.divisor.now) (formula_of F) (map formula_of old) (map formula_of c.keep.new.members.items)
    c.in-Ok.ensures.written (ap (map formula_of) c.in_ok-keep-in-Ok.ensures ∙ map-append formula_of old (F ∷ []))
