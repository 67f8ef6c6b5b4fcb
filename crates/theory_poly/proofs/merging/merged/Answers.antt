use Rattle.std.proofs.Common.{◌≡◌, ◌++◌, ◌+◌, drop, sym, ap, ap₂, ◌∙◌, subst, arith}
use Rattle.std.proofs.lemmas.List.{take_rest}
use Rattle.theory_polynomial.specs.Polynomial.{sum_of, height_of}
use Rattle.theory_poly.specs.Kept.{IsGathered}
use Rattle.theory_poly.proofs.HeightLaws.{height_at, nothing}
use Rattle.theory_poly.proofs.MergeLaws.{merged_of, step_first, step_second, step_both, finish_first, finish_second, merged_is_gathered}
use Rattle.theory_poly.proofs.merging.merged.Goals as goal
use Rattle.theory_poly.proofs.merging.merged.Goals.{then-loop-i-test+else-j-b, else-loop-i-test}

pub push_sum-requires : goal.push_sum-requires
push_sum-requires c =
    let h = height_at c.args.a.now c.loop-i.i nothing c.loop-i-test.true in
    let k = height_at c.args.b.now c.loop-i.j nothing c.if-j-b.true in
    record { small = omega (arith, h, k, c.requires.small) }

pub loop-i-preserved-in-Less : goal.loop-i-preserved-in-Less
loop-i-preserved-in-Less c = record {
  first = omega (arith, c.loop-i-test.true);
  second = c.loop-i.invariant.second;
  so_far = ap (λ all. all ++ merged_of (drop (c.loop-i.i + 1) c.args.a.now) (drop c.loop-i.j c.args.b.now)) c.in_ok-push-in-Less.ensures.items
      ∙ step_first c.loop-i.all.items c.args.a.now c.args.b.now c.loop-i.i c.loop-i.j nothing c.loop-i-test.true c.if-j-b.true (sym c.in-Less.ensures)
      c.loop-i.invariant.so_far;
}

pub loop-i-preserved-in-Equal : goal.loop-i-preserved-in-Equal
loop-i-preserved-in-Equal c = record {
  first = omega (arith, c.loop-i-test.true);
  second = omega (arith, c.if-j-b.true);
  so_far = ap (λ all. all ++ merged_of (drop (c.loop-i.i + 1) c.args.a.now) (drop (c.loop-i.j + 1) c.args.b.now)) c.in_ok-push_sum-in-Equal.ensures
      ∙ step_both c.loop-i.all.items c.args.a.now c.args.b.now c.loop-i.i c.loop-i.j nothing c.loop-i-test.true c.if-j-b.true (sym c.in-Equal.ensures)
      c.loop-i.invariant.so_far;
}

pub loop-i-preserved : goal.loop-i-preserved
loop-i-preserved c = record {
  first = c.loop-i.invariant.first;
  second = omega (arith, c.if-j-b.true);
  so_far = ap (λ all. all ++ merged_of (drop c.loop-i.i c.args.a.now) (drop (c.loop-i.j + 1) c.args.b.now)) c.in_ok-push-in-Greater.ensures.items
      ∙ step_second c.loop-i.all.items c.args.a.now c.args.b.now c.loop-i.i c.loop-i.j nothing c.loop-i-test.true c.if-j-b.true (sym c.in-Greater.ensures)
      c.loop-i.invariant.so_far;
}

pub returns : goal.returns
returns c =
    let whole : c.loop-i.all.items ++ drop c.loop-i.i c.args.a.now ++ drop c.loop-i.j c.args.b.now ≡ merged_of c.args.a.now c.args.b.now = elim
    c.loop-i-test.branch [
      | then-loop-i-test+else-j-b w ↦ finish_second c.loop-i.all.items c.args.a.now c.args.b.now c.loop-i.i c.loop-i.j w.if-j-b.false c.loop-i.invariant.so_far
      | else-loop-i-test w ↦ finish_first c.loop-i.all.items c.args.a.now c.args.b.now c.loop-i.i c.loop-i.j w.loop-i-test.false c.loop-i.invariant.so_far
    ] in
    subst (IsGathered (sum_of c.args.a.now c.args.b.now) (height_of c.args.a.now + height_of c.args.b.now))
    (sym (c.in_ok-extend_from_slice-2.ensures.items
    ∙ ap₂ ◌++◌ (c.in_ok-extend_from_slice.ensures.items ∙ ap (λ r. c.loop-i.all.items ++ r) (take_rest c.args.a.now c.loop-i.i))
    (take_rest c.args.b.now c.loop-i.j)
    ∙ whole))
    (merged_is_gathered c.args.a.now c.args.b.now c.requires.first c.requires.second)
