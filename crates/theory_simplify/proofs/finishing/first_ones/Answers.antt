use Rattle.std.proofs.Common.{ℕ, List, map, sym, ap, ◌∙◌, ◌++◌, ◌∷◌, []}
use Rattle.std.specs.List.{list_any}
use Rattle.std.proofs.lemmas.List.{map-append}
use Rattle.theory_formula.specs.Formula as plain
use Rattle.theory_elimination.specs.SameFormula.{is_same}
use Rattle.theory_elimination.specs.Simplified.{first_ones}
use Rattle.theory_simplify.specs.declared.drafts.Draft.{Draft}
use Rattle.theory_simplify.specs.Drafts.{draft_of}
use Rattle.theory_simplify.specs.Hashes.{hash_of_formula}
use Rattle.theory_simplify.proofs.FinishLemmas.{kept_one}
use Rattle.theory_simplify.proofs.finishing.first_ones.Goals as goal

pub loop-draft-preserved-in-Continue-branch-2 : goal.loop-draft-preserved-in-Continue-branch-2
loop-draft-preserved-in-Continue-branch-2 c =
    let F = draft_of c.in-Some.draft in
    let kept = c.loop-draft.kept.items in
    let rest = map draft_of c.next.new.self.rest.items in
    let grown = ap (map draft_of) c.in_ok-push-2.ensures.items ∙ map-append draft_of kept (c.in-Some.draft ∷ []) in
    record {
      written = ap (λ (Gs : List plain.Formula). Gs ++ first_ones Gs rest) grown
          ∙ kept_one (map draft_of kept) F rest
          (ap (λ (Gs : List Draft). list_any (is_same F) (map draft_of Gs)) (sym c.deref.ensures.value)
          ∙ sym c.stands_among.ensures ∙ c.if-not-stands_among.true)
          ∙ ap (λ (Gs : List Draft). map draft_of kept ++ first_ones (map draft_of kept) (map draft_of Gs)) (sym c.in-Some.ensures.steps.0)
          ∙ c.loop-draft.invariant.written;
      hashed = c.in_ok-push.ensures.items
          ∙ ap (λ (hashes : List ℕ). hashes ++ c.hash_of_draft-hash.result ∷ []) c.loop-draft.invariant.hashed
          ∙ ap (λ (n : ℕ). map hash_of_formula (map draft_of kept) ++ n ∷ []) c.hash_of_draft-hash.ensures
          ∙ sym (map-append hash_of_formula (map draft_of kept) (F ∷ []))
          ∙ ap (map hash_of_formula) (sym grown);
    }
