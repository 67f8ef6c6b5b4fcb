-- The least end at which a true atom of a formula turns false: there the formula is true.
use Rattle.std.proofs.Common.{◌≡◌, ℕ, Bool, true, false, List, [], ◌∷◌, ◌++◌, Option, refl, sym, ap, ap₂, ◌∙◌, subst, ◌⊎◌, inl, inr}
use Rattle.std.specs.Prelude.{IsTrue, if◌then◌else◌}
use Rattle.theory_meaning.specs.declared.words.Sign.{Sign}
use Rattle.theory_meaning.specs.declared.words.Sign.TheVariants.{Minus, Zero, Plus}
use Rattle.theory_meaning.specs.Fraction.{Fraction}
use Rattle.theory_formula.specs.declared.signs.Signs.{Signs}
use Rattle.theory_polynomial.specs.Polynomial.{Monomial, IsPolynomial}
use Rattle.theory_polynomial.specs.PolynomialValue.{Values, slope_in, base_in}
use Rattle.theory_formula.specs.Formula.{Formula, sign_at, truth_by, StaysTrue}
use Rattle.theory_formula.specs.FormulaAtoms.{atoms_of}
use Rattle.theory_formula.proofs.FormulaLaws.{kept}
use Rattle.theory_elimination.specs.TestPoint.{TestPoint, root, before, holds_symbol, end_of, listed, is_constant, ends_by_slope, ends_of_atom, ends_of_atoms}
use Rattle.theory_elimination.specs.Substituted.{along_slope}
use Rattle.theory_elimination.specs.Elimination.{IsLinearAtom, IsLinear}
use Rattle.theory_elimination.proofs.Lines.{slope_sign, root_of}
use Rattle.theory_elimination.proofs.Cuts.{Cut, top, on, IsAtMost, total_order, at_most_along}
use Rattle.theory_elimination.proofs.Ends.{Kind, open_end, at_root, before_root, kind_of, point_by, end_is, cut_by, Stays, stays_true}
use Rattle.theory_elimination.proofs.PartLaws.{part_is_polynomial, no_slope, constant_sign_is}
use Rattle.theory_elimination.proofs.LineSigns.{line_of, slope_sign_is}
use Rattle.theory_elimination.proofs.SubstitutedTruth.{cut_of, HasGuard, reading_cut}
use Rattle.theory_elimination.proofs.AtomLists.{Row, EachRow, rows_of_atoms, atoms_of_rows, each_follows}
use Rattle.theory_elimination.proofs.PointLists.{SomePoint, some_first, some_rest}

root_is_not_open : at_root ≡ open_end → ⊥
root_is_not_open e = cc

before_is_not_open : before_root ≡ open_end → ⊥
before_is_not_open e = cc

true_is_false : ◌≡◌ {A = Bool} true false → ⊥
true_is_false e = cc

module _ (x : ℕ) (p : Values) (v : Fraction) where
  -- the test point's guard is true, and it is at this cut
  abbrev pub IsAtEnd : Cut → TestPoint → Type 0
  IsAtEnd e point = HasGuard p point × (cut_of p point ≡ e)

  -- an atom that is true at the value is true up to this cut
  abbrev pub StaysUpTo : Cut → List Monomial → Signs → Type 0
  StaysUpTo e P S = reading_cut x p (on v) P S ≡ true → (c : Cut) → IsAtMost (on v) c → IsAtMost c e → reading_cut x p c P S ≡ true

  -- a cut up to which true atoms stay true: the top, or that of one of these test points
  pub record EndOf (IsStaying : Cut → Type 0) (points : List TestPoint) : Type 0 where
    pub cut : Cut
    pub above : IsAtMost (on v) cut
    pub at : (cut ≡ top) ⊎ SomePoint (IsAtEnd cut) points
    pub stays : IsStaying cut

  point_at : (k : Kind) (a b : List Monomial) (s : Sign) (P : List Monomial) → a ≡ slope_in x P → b ≡ base_in x P → sign_at a p ≡ s → (s ≡ Zero → ⊥)
      → (k ≡ open_end → ⊥) → SomePoint (IsAtEnd (cut_by k (root_of (line_of x p P)))) (listed (point_by k a b s))
  point_at open_end a b s P e f g h n = absurd (n refl)
  point_at at_root a b s P e f g h n = inl ((g, h), ap₂ (λ (c d : List Monomial). cut_of p (root c d s)) e f)
  point_at before_root a b s P e f g h n = inl ((g, h), ap₂ (λ (c d : List Monomial). cut_of p (before c d s)) e f)

  -- the end of an atom among those of its slope
  by_sign : (Q : TestPoint → Type 0) (S : Signs) (s : Sign) (a b : List Monomial) → (s ≡ Zero → ⊥) → SomePoint Q (listed (end_of S s a b))
      → SomePoint Q (listed (end_of S Plus a b) ++ listed (end_of S Minus a b))
  by_sign Q S Zero a b h k = absurd (h refl)
  by_sign Q S Plus a b h k = some_first Q (listed (end_of S Plus a b)) (listed (end_of S Minus a b)) k
  by_sign Q S Minus a b h k = some_rest Q (listed (end_of S Plus a b)) (listed (end_of S Minus a b)) k

  among_ends : (Q : TestPoint → Type 0) (S : Signs) (s : Sign) (a b : List Monomial) → IsPolynomial a → sign_at a p ≡ s → (s ≡ Zero → ⊥)
      → SomePoint Q (listed (end_of S s a b)) → SomePoint Q (ends_by_slope (is_constant a) S a b)
  among_ends Q S s a b h e n k =
      elim (is_constant a) as (λ c. is_constant a ≡ c → SomePoint Q (ends_by_slope c S a b)) [
        | true ↦ λ c. subst (λ (t : Sign). SomePoint Q (listed (end_of S t a b))) (sym e ∙ constant_sign_is a p h c) k
        | false ↦ λ c. by_sign Q S s a b n k
      ] refl

  sloped_holds : (P : List Monomial) (s : Sign) → sign_at (slope_in x P) p ≡ s → (s ≡ Zero → ⊥) → holds_symbol x P ≡ true
  sloped_holds P s e h =
      elim (holds_symbol x P) as (λ b. holds_symbol x P ≡ b → b ≡ true) [
        | true ↦ λ k. refl
        | false ↦ λ k. absurd (h (sym e ∙ ap (λ (a : List Monomial). sign_at a p) (no_slope x P k)))
      ] refl

  sloped_end : (P : List Monomial) (S : Signs) (k : Kind) → IsLinearAtom x P S → (slope_sign (line_of x p P) ≡ Zero → ⊥)
      → k ≡ kind_of (along_slope (slope_sign (line_of x p P)) S) → (k ≡ open_end → ⊥)
      → SomePoint (IsAtEnd (cut_by k (root_of (line_of x p P)))) (ends_of_atom x P S)
  sloped_end P S k h n e o =
      let a = slope_in x P in
      let b = base_in x P in
      let s = slope_sign (line_of x p P) in
      let sign : sign_at a p ≡ s = sym (slope_sign_is p a b) in
      let Q = IsAtEnd (cut_by k (root_of (line_of x p P))) in
      let found : SomePoint Q (listed (end_of S s a b)) =
      subst (λ (m : Option TestPoint). SomePoint Q (listed m)) (sym (end_is S s a b n ∙ ap (λ (j : Kind). point_by j a b s) (sym e)))
      (point_at k a b s P refl refl sign n o) in
      subst (λ (c : Bool). SomePoint Q (if c then ends_by_slope (is_constant a) S a b else [])) (sym (sloped_holds P s sign n))
      (among_ends Q S s a b (part_is_polynomial x 1 P h.poly.canonical.ordered) sign n found)

  open_or_not : (k : Kind) → (k ≡ open_end) ⊎ (k ≡ open_end → ⊥)
  open_or_not open_end = inl refl
  open_or_not at_root = inr (λ e. root_is_not_open e)
  open_or_not before_root = inr (λ e. before_is_not_open e)

  atom_end : (P : List Monomial) (S : Signs) → IsLinearAtom x P S → EndOf (λ e. StaysUpTo e P S) (ends_of_atom x P S)
  atom_end P S h =
      let l = line_of x p P in
      elim (reading_cut x p (on v) P S) as (λ t. reading_cut x p (on v) P S ≡ t → EndOf (λ e. StaysUpTo e P S) (ends_of_atom x P S)) [
        | true ↦ λ t.
            let st : Stays l S v = stays_true l S v t in
            record {
              cut = cut_by st.kind (root_of l);
              above = st.above;
              at = elim (open_or_not st.kind) [
                | inl o ↦ inl (ap (λ (k : Kind). cut_by k (root_of l)) o)
                | inr n ↦ elim st.own [
                  | inl o ↦ absurd (n o)
                  | inr e ↦ inr (sloped_end P S st.kind h e.0 e.1 n)
                ]
              ];
              stays = λ u c m n. st.stays c m n;
            }
        | false ↦ λ t. record { cut = top; above = tt; at = inl refl; stays = λ u c m n. absurd (true_is_false (sym u ∙ t)) }
      ] refl

  -- the lesser of two ends
  closer : (e d : Cut) (P : List Monomial) (S : Signs) → IsAtMost d e → StaysUpTo e P S → StaysUpTo d P S
  closer e d P S h k u c m n = k u c m (at_most_along c d e n h)

  all_closer : (e d : Cut) (rows : List Row) → IsAtMost d e → EachRow (StaysUpTo e) rows → EachRow (StaysUpTo d) rows
  all_closer e d [] h k = tt
  all_closer e d (a ∷ rows) h k = (closer e d a.0 a.1 h k.0, all_closer e d rows h k.1)

  lesser : (a : Row) (rows : List Row) → EndOf (λ e. StaysUpTo e a.0 a.1) (ends_of_atom x a.0 a.1) →
      EndOf (λ e. EachRow (StaysUpTo e) rows) (ends_of_atoms x rows)
      → EndOf (λ e. EachRow (StaysUpTo e) (a ∷ rows)) (ends_of_atoms x (a ∷ rows))
  lesser a rows first rest =
      elim (total_order first.cut rest.cut) [
        | inl h ↦ record {
          cut = first.cut;
          above = first.above;
          at = elim first.at [
            | inl e ↦ inl e
            | inr e ↦ inr (some_first (IsAtEnd first.cut) (ends_of_atom x a.0 a.1) (ends_of_atoms x rows) e)
          ];
          stays = (first.stays, all_closer rest.cut first.cut rows h rest.stays);
        }
        | inr h ↦ record {
          cut = rest.cut;
          above = rest.above;
          at = elim rest.at [
            | inl e ↦ inl e
            | inr e ↦ inr (some_rest (IsAtEnd rest.cut) (ends_of_atom x a.0 a.1) (ends_of_atoms x rows) e)
          ];
          stays = (closer first.cut rest.cut a.0 a.1 h first.stays, rest.stays);
        }
      ]

  least_end : (rows : List Row) → EachRow (IsLinearAtom x) rows → EndOf (λ e. EachRow (StaysUpTo e) rows) (ends_of_atoms x rows)
  least_end [] h = record { cut = top; above = tt; at = inl refl; stays = tt }
  least_end (a ∷ rows) h = lesser a rows (atom_end a.0 a.1 h.0) (least_end rows h.1)

  -- a formula that is true at the value is true at the least end
  pub record TrueEnd (F : Formula) : Type 0 where
    pub cut : Cut
    pub at : (cut ≡ top) ⊎ SomePoint (IsAtEnd cut) (ends_of_atoms x (atoms_of F))
    pub holds : IsTrue (truth_by (reading_cut x p cut) F)

  itself : (e : Cut) → IsAtMost e e
  itself e = elim (total_order e e) [
    | inl h ↦ h
    | inr h ↦ h
  ]

  pub true_at_end : (F : Formula) → IsLinear x F → IsTrue (truth_by (reading_cut x p (on v)) F) → TrueEnd F
  true_at_end F h t =
      let e = least_end (atoms_of F) (rows_of_atoms (IsLinearAtom x) F h) in
      record {
        cut = e.cut;
        at = e.at;
        holds = kept F (reading_cut x p (on v)) (reading_cut x p e.cut)
            (each_follows (StaysUpTo e.cut) (StaysTrue (reading_cut x p (on v)) (reading_cut x p e.cut)) F
            (λ P S k u. k u e.cut e.above (itself e.cut)) (atoms_of_rows (StaysUpTo e.cut) F e.stays)) t;
      }
