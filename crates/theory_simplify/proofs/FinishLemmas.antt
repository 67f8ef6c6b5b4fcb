-- Which formulas were seen counts, and not their order.
use Rattle.std.proofs.Common.{◌≡◌, Bool, true, false, List, [], ◌∷◌, ◌++◌, map, refl, sym, ap, ap₂, ◌∙◌, if◌then◌else◌}
use Rattle.std.specs.Prelude.{◌||◌}
use Rattle.std.specs.List.{list_any}
use Rattle.std.proofs.lemmas.List.{append_assoc}
use Rattle.std.proofs.lemmas.List.Folds.{list_any-append}
use Rattle.theory_formula.specs.Formula.{Formula, always, never, atom, conjunction, disjunction}
use Rattle.theory_elimination.specs.SameFormula.{is_same}
use Rattle.theory_elimination.specs.Simplified.{as_part, as_formula, first_ones}
use Rattle.theory_simplify.specs.declared.drafts.Draft as lent
use Rattle.theory_simplify.specs.Drafts.{draft_of}
use Rattle.theory_simplify.specs.Parts.{parts_of}

same_seen : (xs ys Fs : List Formula) → ((F : Formula) → list_any (is_same F) xs ≡ list_any (is_same F) ys) → first_ones xs Fs ≡ first_ones ys Fs
same_seen xs ys [] h = refl
same_seen xs ys (F ∷ Fs) h =
    ap (λ (b : Bool). if b then first_ones xs Fs else F ∷ first_ones (F ∷ xs) Fs) (h F)
    ∙ ap₂ (λ (Gs Hs : List Formula). if list_any (is_same F) ys then Gs else F ∷ Hs) (same_seen xs ys Fs h)
    (same_seen (F ∷ xs) (F ∷ ys) Fs (λ G. ap (λ (b : Bool). is_same G F || b) (h G)))

turned : (a b : Bool) → a || b ≡ b || (a || false)
turned true true = refl
turned true false = refl
turned false true = refl
turned false false = refl

one_more : (xs : List Formula) (F : Formula) (Fs : List Formula) → first_ones (F ∷ xs) Fs ≡ first_ones (xs ++ F ∷ []) Fs
one_more xs F Fs =
    same_seen (F ∷ xs) (xs ++ F ∷ []) Fs (λ G. turned (is_same G F) (list_any (is_same G) xs) ∙ sym (list_any-append (is_same G) xs (F ∷ [])))

-- a formula that was not seen is kept
pub kept_one : (seen : List Formula) (F : Formula) (Fs : List Formula) → list_any (is_same F) seen ≡ false
    → (seen ++ F ∷ []) ++ first_ones (seen ++ F ∷ []) Fs ≡ seen ++ first_ones seen (F ∷ Fs)
kept_one seen F Fs fresh =
    append_assoc seen (F ∷ []) (first_ones (seen ++ F ∷ []) Fs)
    ∙ ap (λ (Gs : List Formula). seen ++ F ∷ Gs) (sym (one_more seen F Fs))
    ∙ ap (λ (b : Bool). seen ++ (if b then first_ones seen Fs else F ∷ first_ones (F ∷ seen) Fs)) (sym fresh)

-- a member is the formula that it was
as_before : (F : Formula) → as_formula (as_part F) ≡ F
as_before always = refl
as_before never = refl
as_before (atom P S) = refl
as_before (conjunction Fs) = refl
as_before (disjunction Fs) = refl

pub all_as_before : (Fs : List lent.Draft) → map as_formula (parts_of Fs) ≡ map draft_of Fs
all_as_before [] = refl
all_as_before (F ∷ Fs) = ap₂ (λ (G : Formula) (Gs : List Formula). G ∷ Gs) (as_before (draft_of F)) (all_as_before Fs)
