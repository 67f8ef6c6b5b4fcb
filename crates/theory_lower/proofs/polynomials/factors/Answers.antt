use Rattle.std.proofs.Common.{◌++◌, map, sym, ap, ◌∙◌, arith}
use Rattle.std.proofs.lemmas.List.{append-nil}
use Rattle.theory_syntax.specs.Plain.{expr_of}
use Rattle.theory_lower.proofs.WrittenLemmas.{no_factors_left}
use Rattle.theory_lower.proofs.polynomials.factors.Goals as goal

pub returns : goal.returns
returns c =
    let left = no_factors_left c.args.names.now c.args.powers.now c.loop-i.i (omega (arith, c.min-i-end.ensures, c.loop-i-test.false)) in
    let all = ap (λ fs. map expr_of c.loop-i.all.items ++ fs) left in
    sym (append-nil (map expr_of c.loop-i.all.items)) ∙ sym all ∙ c.loop-i.invariant
