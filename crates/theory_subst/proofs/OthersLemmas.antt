-- The members but the one at a place, at a test point.
use Rattle.std.proofs.Common.{◌≡◌, ℕ, zero, suc, ◌+◌, ◌<◌, ◌≤◌, List, [], ◌∷◌, ◌++◌, length, map, get_or, take, drop, Vec, Global, refl, sym, ap, ◌∙◌, subst, subst₂, arith, inl, Err}
use Rattle.std.proofs.lemmas.List.{map-append, append_assoc, take_all}
use Rattle.theory_points.specs.declared.limit.Limit.{Limit}
use Rattle.theory_points.specs.declared.limit.Limit.TheVariants.{Wide, Memory}
use Rattle.theory_formula.specs.Formula as plain
use Rattle.theory_formula.specs.Formula.{formulas_from, formulas_list}
use Rattle.theory_elimination.specs.TestPoint.{TestPoint, infinity, root, before}
use Rattle.theory_elimination.specs.Branches.{others_of}
use Rattle.theory_elimination.specs.Substituted.{IsFormulaAt, AreFormulasAt}
use Rattle.theory_elimination.specs.Widths.{IsWideAt}
use Rattle.theory_poly.specs.Answers.{WideWhere}
use Rattle.theory_signs.specs.declared.formula.Formula.{Formula}
use Rattle.theory_signs.specs.declared.formula.Formula.TheVariants as made
use Rattle.theory_signs.specs.Plain.{formula_of}
use Rattle.theory_signs.proofs.PlainLemmas.{formula_of-And}
use Rattle.theory_subst.specs.Equations.{without}
use Rattle.theory_subst.specs.Lines.{IsWideAmong}
use Rattle.theory_subst.specs.Plans.{left_of}
use Rattle.theory_subst.proofs.EndLemmas.{AreLinear, rest_from}
use Rattle.theory_subst.proofs.ListLemmas.{wide_others, wide_behind}
use Rattle.theory_subst.proofs.EquationLemmas.{without-kept, without-left}
use Rattle.theory_subst.proofs.MemberLemmas.{taken_more, taken_length}

-- the members of a conjunction
pub listed_from : (Fs : List plain.Formula) → formulas_list (formulas_from Fs) ≡ Fs
listed_from [] = refl
listed_from (F ∷ Fs) = ap (λ Gs. F ∷ Gs) (listed_from Fs)

pub left_of_members : (place : ℕ) (F : Formula) (Fs : Vec Formula Global) (xs : List Formula) → F ≡ made.And Fs → xs ≡ Fs.items
    → others_of (without place (map formula_of xs)) ≡ left_of place (formula_of F)
left_of_members place F Fs xs is same =
    ap (λ ms. others_of (without place (map formula_of ms))) same ∙ sym (ap (λ ms. others_of (without place ms)) (listed_from (map formula_of Fs.items)))
    ∙ ap (left_of place) (sym (ap formula_of is ∙ formula_of-And Fs))

-- some member of a list is wide
no_member : (x : ℕ) (p : TestPoint) → IsWideAmong x p plain.none → ⊥
no_member x infinity h = h
no_member x (root a b s) h = h
no_member x (before a b s) h = h

wide_first : (x : ℕ) (p : TestPoint) (F : plain.Formula) (Fs : plain.Formulas) → IsWideAt x p F → IsWideAmong x p (plain.more F Fs)
wide_first x infinity F Fs h = h
wide_first x (root a b s) F Fs h = inl h
wide_first x (before a b s) F Fs h = inl h

none_more : (x : ℕ) (p : TestPoint) (Fs : List plain.Formula) (F : plain.Formula) → ¬ IsWideAmong x p (formulas_from Fs) → ¬ IsWideAt x p F
    → ¬ IsWideAmong x p (formulas_from (Fs ++ F ∷ []))
none_more x p [] F fit own = λ w. no_member x p (wide_behind x p F plain.none own w)
none_more x p (E ∷ Fs) F fit own = λ w.
    none_more x p Fs F (λ v. fit (wide_others x p E (formulas_from Fs) v)) own
    (wide_behind x p E (formulas_from (Fs ++ F ∷ [])) (λ v. fit (wide_first x p E (formulas_from Fs) v)) w)

wide_in : (x i : ℕ) (p : TestPoint) (ms : List Formula) (m : Formula) → i < length ms → m ≡ get_or ms i m → IsWideAt x p (formula_of m)
    → IsWideAmong x p (formulas_from (map formula_of ms))
wide_in x i p [] m h is w = absurd (omega (arith, h))
wide_in x zero p (n ∷ ms) m h is w =
    wide_first x p (formula_of n) (formulas_from (map formula_of ms)) (subst (λ k. IsWideAt x p (formula_of k)) is w)
wide_in x (suc i) p (n ∷ ms) m h is w =
    wide_others x p (formula_of n) (formulas_from (map formula_of ms)) (wide_in x i p ms m (omega (arith, h)) is w)

wide_left : (x place i : ℕ) (p : TestPoint) (ms : List Formula) (m : Formula) → i < length ms → m ≡ get_or ms i m → (i ≡ place → ⊥)
    → IsWideAt x p (formula_of m) → IsWideAmong x p (formulas_from (without place (map formula_of ms)))
wide_left x place i p [] m h is apart w = absurd (omega (arith, h))
wide_left x zero zero p (n ∷ ms) m h is apart w = absurd (apart refl)
wide_left x zero (suc i) p (n ∷ ms) m h is apart w = wide_in x i p ms m (omega (arith, h)) is w
wide_left x (suc place) zero p (n ∷ ms) m h is apart w =
    wide_first x p (formula_of n) (formulas_from (without place (map formula_of ms))) (subst (λ k. IsWideAt x p (formula_of k)) is w)
wide_left x (suc place) (suc i) p (n ∷ ms) m h is apart w =
    wide_others x p (formula_of n) (formulas_from (without place (map formula_of ms)))
    (wide_left x place i p ms m (omega (arith, h)) is (λ e. apart (ap suc e)) w)

pub left_is_wide : (x place i : ℕ) (p : TestPoint) (ms : List Formula) (m : Formula) (e : Limit) → i < length ms → m ≡ get_or ms i m → (i ≡ place → ⊥)
    → WideWhere {T = Formula} (IsWideAt x p (formula_of m)) (Err e)
    → WideWhere {T = Vec Formula Global} (IsWideAmong x p (formulas_from (without place (map formula_of ms)))) (Err e)
left_is_wide x place i p ms m Wide h is apart w = wide_left x place i p ms m h is apart w
left_is_wide x place i p ms m Memory h is apart w = tt

-- what is made of the members before a place, but of the one that is left out
pub record IsMade (x place : ℕ) (p : TestPoint) (ms : List Formula) (i : ℕ) (made : List plain.Formula) : Type 0 where
  pub linear : AreLinear x (drop i ms)
  pub written : (Fs Gs : List plain.Formula) → AreFormulasAt x p (formulas_from Fs) (formulas_from Gs)
      → AreFormulasAt x p (formulas_from (without place (map formula_of (take i ms)) ++ Fs)) (formulas_from (made ++ Gs))
  pub fits : ¬ IsWideAmong x p (formulas_from (without place (map formula_of (take i ms))))

nothing_left : (place : ℕ) → without place [] ≡ []
nothing_left zero = refl
nothing_left (suc place) = refl

pub made_first : (x place : ℕ) (p : TestPoint) (ms : List Formula) → AreLinear x ms → IsMade x place p ms 0 []
made_first x place p ms linear = record {
  linear = linear;
  written = λ Fs Gs h. subst (λ none. AreFormulasAt x p (formulas_from (none ++ Fs)) (formulas_from Gs)) (sym (nothing_left place)) h;
  fits = subst (λ none. ¬ IsWideAmong x p (formulas_from none)) (sym (nothing_left place)) (no_member x p);
}

pub made_more : (x place i : ℕ) (p : TestPoint) (ms : List Formula) (m G : Formula) (old new : List Formula) → i < length ms → m ≡ get_or ms i m
    → (i ≡ place → ⊥) → new ≡ old ++ G ∷ [] → IsFormulaAt x p (formula_of m) (formula_of G) → ¬ IsWideAt x p (formula_of m)
    → IsMade x place p ms i (map formula_of old) → IsMade x place p ms (i + 1) (map formula_of new)
made_more x place i p ms m G old new h is apart grown written fits so_far =
    let F = formula_of m in
    let seen : List plain.Formula = without place (map formula_of (take i ms)) in
    let more : without place (map formula_of (take (i + 1) ms)) ≡ seen ++ F ∷ [] =
    ap (without place) (taken_more i ms m h is)
    ∙ without-kept place (map formula_of (take i ms)) F (λ e. apart (sym (taken_length i ms h) ∙ e))
    in
    let news : map formula_of new ≡ map formula_of old ++ formula_of G ∷ [] = ap (map formula_of) grown ∙ map-append formula_of old (G ∷ []) in
    record {
      linear = (subst (AreLinear x) (rest_from i ms m h is) so_far.linear).1;
      written = λ Fs Gs k.
          subst₂ (λ Ms Ns. AreFormulasAt x p (formulas_from Ms) (formulas_from Ns))
          (sym (ap (λ Ms. Ms ++ Fs) more ∙ append_assoc seen (F ∷ []) Fs))
          (sym (ap (λ Ns. Ns ++ Gs) news ∙ append_assoc (map formula_of old) (formula_of G ∷ []) Gs))
          (so_far.written (F ∷ Fs) (formula_of G ∷ Gs) (formula_of G, formulas_from Gs, written, k, refl));
      fits = subst (λ Ms. ¬ IsWideAmong x p (formulas_from Ms)) (sym more) (none_more x p seen F so_far.fits fits);
    }

pub made_past : (x place i : ℕ) (p : TestPoint) (ms : List Formula) (m : Formula) (made : List plain.Formula) → i < length ms → m ≡ get_or ms i m
    → i ≡ place → IsMade x place p ms i made → IsMade x place p ms (i + 1) made
made_past x place i p ms m made h is own so_far =
    let same : without place (map formula_of (take i ms)) ≡ without place (map formula_of (take (i + 1) ms)) =
    sym (without-left place (map formula_of (take i ms)) (formula_of m) (taken_length i ms h ∙ own))
    ∙ ap (without place) (sym (taken_more i ms m h is))
    in
    record {
      linear = (subst (AreLinear x) (rest_from i ms m h is) so_far.linear).1;
      written = λ Fs Gs k. subst (λ Ms. AreFormulasAt x p (formulas_from (Ms ++ Fs)) (formulas_from (made ++ Gs))) same (so_far.written Fs Gs k);
      fits = subst (λ Ms. ¬ IsWideAmong x p (formulas_from Ms)) same so_far.fits;
    }

nothing_more : (Fs : List plain.Formula) → Fs ++ [] ≡ Fs
nothing_more [] = refl
nothing_more (F ∷ Fs) = ap (λ Gs. F ∷ Gs) (nothing_more Fs)

pub all_made : (x place i : ℕ) (p : TestPoint) (ms : List Formula) (made : List plain.Formula) → length ms ≤ i → IsMade x place p ms i made
    → AreFormulasAt x p (formulas_from (without place (map formula_of ms))) (formulas_from made)
all_made x place i p ms made h so_far =
    subst₂ (λ Ms Ns. AreFormulasAt x p (formulas_from Ms) (formulas_from Ns))
    (nothing_more (without place (map formula_of (take i ms))) ∙ ap (λ ns. without place (map formula_of ns)) (take_all i ms h)) (nothing_more made)
    (so_far.written [] [] refl)

pub all_fit : (x place i : ℕ) (p : TestPoint) (ms : List Formula) (made : List plain.Formula) → length ms ≤ i → IsMade x place p ms i made
    → ¬ IsWideAmong x p (formulas_from (without place (map formula_of ms)))
all_fit x place i p ms made h so_far =
    subst (λ ns. ¬ IsWideAmong x p (formulas_from (without place (map formula_of ns)))) (take_all i ms h) so_far.fits

-- the members together
others_written : (x : ℕ) (p : TestPoint) (Fs Gs : List plain.Formula) → AreFormulasAt x p (formulas_from Fs) (formulas_from Gs)
    → IsFormulaAt x p (others_of Fs) (others_of Gs)
others_written x p [] [] h = refl
others_written x p [] (G ∷ Gs) h = absurd cc
others_written x p (F ∷ Fs) [] h = let e = h.4 in absurd cc
others_written x p (F ∷ Fs) (G ∷ Gs) h = (formulas_from (G ∷ Gs), h, refl)

wide_together : (x : ℕ) (p : TestPoint) (Fs : List plain.Formula) → IsWideAmong x p (formulas_from Fs) → IsWideAt x p (others_of Fs)
wide_together x infinity Fs h = absurd h
wide_together x (root a b s) [] h = h
wide_together x (root a b s) (F ∷ Fs) h = h
wide_together x (before a b s) [] h = h
wide_together x (before a b s) (F ∷ Fs) h = h

wide_apart : (x : ℕ) (p : TestPoint) (Fs : List plain.Formula) → IsWideAt x p (others_of Fs) → IsWideAmong x p (formulas_from Fs)
wide_apart x infinity Fs h = absurd h
wide_apart x (root a b s) [] h = h
wide_apart x (root a b s) (F ∷ Fs) h = h
wide_apart x (before a b s) [] h = h
wide_apart x (before a b s) (F ∷ Fs) h = h

pub left_written : (x place : ℕ) (p : TestPoint) (F : Formula) (Fs : Vec Formula Global) (xs others : List Formula) (G : Formula) → F ≡ made.And Fs
    → xs ≡ Fs.items → AreFormulasAt x p (formulas_from (without place (map formula_of xs))) (formulas_from (map formula_of others))
    → formula_of G ≡ others_of (map formula_of others) → IsFormulaAt x p (left_of place (formula_of F)) (formula_of G)
left_written x place p F Fs xs others G is same are together =
    subst₂ (IsFormulaAt x p) (left_of_members place F Fs xs is same) (sym together)
    (others_written x p (without place (map formula_of xs)) (map formula_of others) are)

pub left_fits : (x place : ℕ) (p : TestPoint) (F : Formula) (Fs : Vec Formula Global) (xs : List Formula) → F ≡ made.And Fs → xs ≡ Fs.items
    → ¬ IsWideAmong x p (formulas_from (without place (map formula_of xs))) → ¬ IsWideAt x p (left_of place (formula_of F))
left_fits x place p F Fs xs is same fits = λ w.
    fits (wide_apart x p (without place (map formula_of xs)) (subst (IsWideAt x p) (sym (left_of_members place F Fs xs is same)) w))

pub left_wide : (x place : ℕ) (p : TestPoint) (F : Formula) (Fs : Vec Formula Global) (xs : List Formula) (e : Limit) → F ≡ made.And Fs → xs ≡ Fs.items
    → WideWhere {T = Vec Formula Global} (IsWideAmong x p (formulas_from (without place (map formula_of xs)))) (Err e)
    → WideWhere {T = Formula} (IsWideAt x p (left_of place (formula_of F))) (Err e)
left_wide x place p F Fs xs Wide is same w =
    subst (IsWideAt x p) (left_of_members place F Fs xs is same) (wide_together x p (without place (map formula_of xs)) w)
left_wide x place p F Fs xs Memory is same w = tt
