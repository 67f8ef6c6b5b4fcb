use Rattle.std.proofs.Common.{◌≡◌, ◌≢◌, ◌^◌, pos, w64, sym, ap, ◌∙◌, subst, arith}
use mir.Val.{to_z, of_z}
use Rattle.std.proofs.lemmas.Int.{ints}
use Rattle.std.proofs.lemmas.Result.{IfOk-weaker}
use Rattle.theory_polynomial.specs.Polynomial.{scaled}
use Rattle.theory_poly.specs.Kept.{IsGathered}
use Rattle.theory_poly.proofs.ScaleLaws.{gathered_nothing, gathered_multiple}
use Rattle.theory_poly.proofs.merging.multiple.Goals as goal

pub returns-then-n-eq0 : goal.returns-then-n-eq0
returns-then-n-eq0 c =
    subst (IsGathered (scaled c.args.n c.args.terms.now) (2 ^ 116)) (sym c.new.ensures.items)
    (gathered_nothing c.args.n c.args.terms.now (2 ^ 116) (omega (arith, ints, c.if-n-eq0.true)))

pub returns : goal.returns
returns c =
    let some : c.args.n ≢ pos 0 = λ e. c.if-n-eq0.false (ap (of_z w64) e) in
    let n_is : to_z w64 (of_z w64 c.args.n) ≡ c.args.n = omega (arith, ints, c.ranges.n) in
    IfOk-weaker c.multiplied.result (λ r. r.items ≡ scaled (to_z w64 (of_z w64 c.args.n)) c.args.terms.now)
    (λ r. IsGathered (scaled c.args.n c.args.terms.now) (2 ^ 116) r.items)
    (λ r is. gathered_multiple c.args.n c.args.terms.now r.items some c.requires.factor c.requires.terms (is ∙ ap (λ z. scaled z c.args.terms.now) n_is))
    c.multiplied.ensures
