use Rattle.std.proofs.Common.{◌≡◌, ◌≢◌, pos, MatchOption, subst₂, arith}
use Rattle.std.proofs.lemmas.Int.{to_z-of_z}
use mir.Val.{to_z, of_z}
use mir.Syntax.{w128}
use Rattle.theory_meaning.specs.Fraction.{cross}
use Rattle.theory_points.specs.Parts.{IsQuotient, IsWideQuotient}
use Rattle.theory_syntax.proofs.QuotientLemmas.{quotient_found}
use Rattle.theory_syntax.proofs.truth.quotient.Goals as goal

pub returns : goal.returns
returns c =
    let q = c.args.q in
    let r = c.args.r in
    let some : r.num ≢ pos 0 = λ e. grind (arith, c.if-num-eq0.false, c.num.ensures.value, e) in
    let top : to_z w128 (of_z w128 c.crossed.result) ≡ cross q r = grind (arith, to_z-of_z, c.crossed.ensures) in
    let bottom : to_z w128 (of_z w128 c.crossed-2.result) ≡ cross r q = grind (arith, to_z-of_z, c.crossed-2.ensures) in
    quotient_found q r c.new.result some
    (subst₂ (λ n d. MatchOption c.new.result (IsWideQuotient n d) (IsQuotient n d)) top bottom c.new.ensures.value) c.new.ensures.kept
