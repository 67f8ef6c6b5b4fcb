-- The simplified form of each kind has the formula's truth.
use Rattle.std.proofs.Common.{◌≡◌, [], refl, ◌∙◌}
use Rattle.theory_meaning.specs.declared.words.Kind.{Kind}
use Rattle.theory_meaning.specs.declared.words.Kind.TheVariants as kind
use Rattle.theory_polynomial.specs.PolynomialValue.{Values}
use Rattle.theory_formula.specs.Formula.{Formula, truth_at}
use Rattle.theory_elimination.proofs.SimplifiedTruth.{IsSound, by_known_is_sound, simplified_by_truth}
use Rattle.theory_signed.specs.Split.{IsOrdered}
use Rattle.theory_signed.specs.ByKind.{judging, prepared, simplified_for}
use Rattle.theory_signed.proofs.SignedTruth.{by_known_and_signs_is_sound}
use Rattle.theory_signed.proofs.SplitTruth.{split_truth}

is_sound : (p : Values) (k : Kind) → IsSound p (judging k)
is_sound p kind.Listed = by_known_is_sound p
is_sound p kind.Rare = by_known_is_sound p
is_sound p kind.Unit = by_known_is_sound p
is_sound p kind.Signed = by_known_and_signs_is_sound p

prepared_truth : (p : Values) (k : Kind) (F : Formula) → IsOrdered F → truth_at (prepared k F) p ≡ truth_at F p
prepared_truth p kind.Listed F h = refl
prepared_truth p kind.Rare F h = refl
prepared_truth p kind.Unit F h = refl
prepared_truth p kind.Signed F h = split_truth p F h

pub kind_truth : (p : Values) (k : Kind) (F : Formula) → IsOrdered F → truth_at (simplified_for k F) p ≡ truth_at F p
kind_truth p k F h = simplified_by_truth p (judging k) (is_sound p k) [] (prepared k F) tt ∙ prepared_truth p k F h
