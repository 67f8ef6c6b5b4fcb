-- The equations of `draft_of`, and hashes that tell formulas apart.
use Rattle.std.proofs.Common.{◌≡◌, ℕ, true, false, nat_eq, map, Vec, Global, refl, sym, ap, ◌∙◌}
use Rattle.std.proofs.lemmas.Bool.{eqb-true}
use Rattle.std.specs.List.{fold}
use Rattle.std.specs.Hash as hashed
use Rattle.std.specs.Hash.FoldHasher as folding
use Rattle.std.specs.declared.hash.FoldHasher.{FoldHasher}
use Rattle.theory_formula.specs.Formula as plain
use Rattle.theory_formula.specs.Formula.{always, never, atom, conjunction, disjunction, none, more}
use Rattle.theory_elimination.specs.SameFormula.{is_same_poly, is_same_set, is_same, are_same}
use Rattle.theory_elimination.proofs.SameLaws.{same_poly, first_true, second_true}
use Rattle.theory_simplify.specs.declared.drafts.Draft.{Draft, Draft-F, fold-roll-Draft}
use Rattle.theory_simplify.specs.declared.drafts.Draft.TheVariants.{And, Or, rolls-And, rolls-Or}
use Rattle.theory_simplify.specs.Drafts.{draft_of, draft_step}
use Rattle.theory_poly.specs.Hashes.{hash_of}
use Rattle.theory_simplify.specs.Hashes.{head_of, with_head, with_heads, with_formula, hash_of_formula}

pub draft_of-And : (Ds : Vec Draft Global) → draft_of (And Ds) ≡ plain.conjunction (plain.formulas_from (map draft_of Ds.items))
draft_of-And Ds = ap draft_of (sym (rolls-And Ds)) ∙ fold-roll-Draft plain.Formula draft_step (Draft-F.And Ds)

pub draft_of-Or : (Ds : Vec Draft Global) → draft_of (Or Ds) ≡ plain.disjunction (plain.formulas_from (map draft_of Ds.items))
draft_of-Or Ds = ap draft_of (sym (rolls-Or Ds)) ∙ fold-roll-Draft plain.Formula draft_step (Draft-F.Or Ds)

-- the same formulas have the same heads
same_head : (F G : plain.Formula) → is_same F G ≡ true → head_of F ≡ head_of G
same_head always always e = refl
same_head never never e = refl
same_head (atom P S) (atom Q T) e = ap hash_of (same_poly P Q (first_true (is_same_poly P Q) (is_same_set S T) e))
same_head (conjunction Fs) (conjunction Gs) e = refl
same_head (disjunction Fs) (disjunction Gs) e = refl
same_head always never e = absurd cc
same_head always (atom Q T) e = absurd cc
same_head always (conjunction Gs) e = absurd cc
same_head always (disjunction Gs) e = absurd cc
same_head never always e = absurd cc
same_head never (atom Q T) e = absurd cc
same_head never (conjunction Gs) e = absurd cc
same_head never (disjunction Gs) e = absurd cc
same_head (atom P S) always e = absurd cc
same_head (atom P S) never e = absurd cc
same_head (atom P S) (conjunction Gs) e = absurd cc
same_head (atom P S) (disjunction Gs) e = absurd cc
same_head (conjunction Fs) always e = absurd cc
same_head (conjunction Fs) never e = absurd cc
same_head (conjunction Fs) (atom Q T) e = absurd cc
same_head (conjunction Fs) (disjunction Gs) e = absurd cc
same_head (disjunction Fs) always e = absurd cc
same_head (disjunction Fs) never e = absurd cc
same_head (disjunction Fs) (atom Q T) e = absurd cc
same_head (disjunction Fs) (conjunction Gs) e = absurd cc

same_heads : (Fs Gs : plain.Formulas) (h : FoldHasher) → are_same Fs Gs ≡ true → with_heads h Fs ≡ with_heads h Gs
same_heads none none h e = refl
same_heads (more F Fs) (more G Gs) h e =
    ap (λ (n : ℕ). with_heads (fold folding.write h (hashed.u64 n)) Fs) (same_head F G (first_true (is_same F G) (are_same Fs Gs) e))
    ∙ same_heads Fs Gs (with_head h G) (second_true (is_same F G) (are_same Fs Gs) e)
same_heads none (more G Gs) h e = absurd cc
same_heads (more F Fs) none h e = absurd cc

same_fed : (F G : plain.Formula) (h : FoldHasher) → is_same F G ≡ true → with_formula h F ≡ with_formula h G
same_fed always always h e = refl
same_fed never never h e = refl
same_fed (atom P S) (atom Q T) h e = ap (λ (n : ℕ). fold folding.write h (hashed.u64 n)) (same_head (atom P S) (atom Q T) e)
same_fed (conjunction Fs) (conjunction Gs) h e = same_heads Fs Gs (fold folding.write h (hashed.u64 2)) e
same_fed (disjunction Fs) (disjunction Gs) h e = same_heads Fs Gs (fold folding.write h (hashed.u64 3)) e
same_fed always never h e = absurd cc
same_fed always (atom Q T) h e = absurd cc
same_fed always (conjunction Gs) h e = absurd cc
same_fed always (disjunction Gs) h e = absurd cc
same_fed never always h e = absurd cc
same_fed never (atom Q T) h e = absurd cc
same_fed never (conjunction Gs) h e = absurd cc
same_fed never (disjunction Gs) h e = absurd cc
same_fed (atom P S) always h e = absurd cc
same_fed (atom P S) never h e = absurd cc
same_fed (atom P S) (conjunction Gs) h e = absurd cc
same_fed (atom P S) (disjunction Gs) h e = absurd cc
same_fed (conjunction Fs) always h e = absurd cc
same_fed (conjunction Fs) never h e = absurd cc
same_fed (conjunction Fs) (atom Q T) h e = absurd cc
same_fed (conjunction Fs) (disjunction Gs) h e = absurd cc
same_fed (disjunction Fs) always h e = absurd cc
same_fed (disjunction Fs) never h e = absurd cc
same_fed (disjunction Fs) (atom Q T) h e = absurd cc
same_fed (disjunction Fs) (conjunction Gs) h e = absurd cc

pub other_formula : (F G : plain.Formula) (h k : ℕ) → h ≡ hash_of_formula F → k ≡ hash_of_formula G → (h ≡ k → ⊥) → nat_eq h k ≡ is_same F G
other_formula F G h k of_F of_G differ =
    elim (is_same F G) as (λ b. is_same F G ≡ b → nat_eq h k ≡ b) [
      | true ↦ λ same. absurd (differ (of_F ∙ ap folding.finish (same_fed F G folding.initial same) ∙ sym of_G))
      | false ↦ λ same. elim (nat_eq h k) as (λ b. nat_eq h k ≡ b → b ≡ false) [
        | true ↦ λ equal. absurd (differ (eqb-true h k equal))
        | false ↦ λ equal. refl
      ] refl
    ] refl
