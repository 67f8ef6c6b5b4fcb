use Rattle.std.proofs.Common.{◌<◌, length, ℤ, [], ◌∷◌, ◌++◌, ap, ◌∙◌, arith, rules}
use Rattle.std.proofs.lemmas.Int.{to_z-of_z}
use mir.Syntax.{w64}
use mir.Val.{SFits}
use Rattle.theory_meaning.specs.Fraction.{Fraction, whole}
use Rattle.theory_witness.proofs.TriedLemmas.{ends_added}
use Rattle.theory_witness.proofs.candidates.add_ends.Goals as goal

pub returns : goal.returns
returns c =
    let some : 0 < length c.args.roots.now = grind arith in
    let low : SFits w64 c.whole_below.result = search rules in
    let high : SFits w64 c.whole_above.result = search rules in
    ends_added c.args.roots.now _ c.push.new.self.items _ c.index-roots-0.result c.index-roots-roots.result c.whole_below.result c.whole_above.result some
    c.index-roots-0.is c.index-roots-roots.is c.whole_below.ensures.value c.whole_above.ensures.value
    (c.in_ok-push.ensures.items ∙ ap (λ (q : Fraction). c.args.tried.now.items ++ q ∷ []) c.of_whole.ensures
    ∙ ap (λ (n : ℤ). c.args.tried.now.items ++ whole n ∷ []) (to_z-of_z w64 c.whole_below.result low))
    (c.in_ok-push-2.ensures.items ∙ ap (λ (q : Fraction). c.push.new.self.items ++ q ∷ []) c.of_whole-2.ensures
    ∙ ap (λ (n : ℤ). c.push.new.self.items ++ whole n ∷ []) (to_z-of_z w64 c.whole_above.result high))
