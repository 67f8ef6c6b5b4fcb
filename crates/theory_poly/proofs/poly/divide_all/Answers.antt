use Rattle.std.proofs.Common.{◌≡◌, ◌<◌, ◌≤◌, ◌*ℤ◌, pos, length, get_or, w64, unsigned_abs, sym, ◌∙◌, subst, arith}
use Prim.Native.Nat.{◌∣◌}
use Rattle.std.specs.Int.{w128}
use Rattle.std.proofs.lemmas.Int.{ints}
use mir.Val.{to_z, of_z}
use Rattle.theory_meaning.specs.Limits.{bound}
use Rattle.theory_polynomial.specs.Polynomial.{monomial}
use Rattle.theory_poly.proofs.HeightLaws.{height_at, nothing}
use Rattle.theory_poly.proofs.ContentLaws.{each_at, same_at, quotient_small, divided_more, left_more}
use Rattle.theory_poly.proofs.poly.divide_all.Goals as goal

pub quotient-requires-clause-divides : goal.quotient-requires-clause-divides
quotient-requires-clause-divides c =
    let i = c.loop-t.t-index in
    let here : i < length c.loop-t.terms = omega (arith, c.loop-t-test.true, c.loop-t.auto.terms) in
    let there : i < length c.args.terms.now = omega (arith, here, c.loop-t.auto.terms) in
    let same = same_at c.args.terms.now c.loop-t.terms i nothing there here c.loop-t.invariant.left in
    let x = (get_or c.loop-t.terms i nothing).coefficient in
    let small : unsigned_abs x ≤ bound = subst (λ t. unsigned_abs t.coefficient ≤ bound) (sym same)
    (let h = height_at c.args.terms.now i nothing there in omega (arith, h, c.requires.small)) in
    let cast : to_z w128 (of_z w128 (to_z w64 (of_z w64 x))) ≡ x = omega (arith, ints, small) in
    subst (λ z. c.args.divisor ∣ unsigned_abs z) (sym cast)
    (subst (λ t. c.args.divisor ∣ unsigned_abs t.coefficient) (sym same) (each_at c.args.divisor c.args.terms.now i nothing there c.requires.divides))

pub loop-t-preserved : goal.loop-t-preserved
loop-t-preserved c =
    let i = c.loop-t.t-index in
    let here : i < length c.loop-t.terms = omega (arith, c.loop-t-test.true, c.loop-t.auto.terms) in
    let there : i < length c.args.terms.now = omega (arith, here, c.loop-t.auto.terms) in
    let same = same_at c.args.terms.now c.loop-t.terms i nothing there here c.loop-t.invariant.left in
    let x = (get_or c.loop-t.terms i nothing).coefficient in
    let small : unsigned_abs x ≤ bound = subst (λ t. unsigned_abs t.coefficient ≤ bound) (sym same)
    (let h = height_at c.args.terms.now i nothing there in omega (arith, h, c.requires.small)) in
    let cast : to_z w128 (of_z w128 (to_z w64 (of_z w64 x))) ≡ x = omega (arith, ints, small) in
    let exact : pos c.args.divisor *ℤ c.quotient.result ≡ x = c.quotient.ensures ∙ cast in
    let less = quotient_small c.args.divisor c.quotient.result x c.requires.positive exact in
    let back : to_z w64 (of_z w64 (to_z w128 (of_z w128 c.quotient.result))) ≡ c.quotient.result = omega (arith, ints, less, small) in
    record {
      done = divided_more c.args.divisor c.args.terms.now c.loop-t.terms i nothing
          (to_z w64 (of_z w64 (to_z w128 (of_z w128 c.quotient.result)))) c.quotient.result
          there here c.loop-t.invariant.done c.loop-t.invariant.left back exact;
      left = left_more c.args.terms.now c.loop-t.terms i (monomial (to_z w64 (of_z w64 (to_z w128 (of_z w128 c.quotient.result))))
          (get_or c.loop-t.terms i nothing).powers)
          there here c.loop-t.invariant.left;
    }
