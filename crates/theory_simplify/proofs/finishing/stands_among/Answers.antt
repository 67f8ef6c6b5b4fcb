use Rattle.std.proofs.Common.{ℕ, List, map, sym, ap, ◌∙◌, arith}
use Rattle.std.proofs.Math.ListN.{get_or}
use Rattle.std.proofs.lemmas.List.{get_or-map, length-map}
use Rattle.theory_simplify.specs.declared.drafts.Draft.{Draft}
use Rattle.theory_simplify.specs.Drafts.{draft_of}
use Rattle.theory_simplify.specs.Hashes.{hash_of_formula}
use Rattle.theory_simplify.proofs.finishing.stands_among.Goals as goal

pub have_one_tree-requires-clause-other : goal.have_one_tree-requires-clause-other
have_one_tree-requires-clause-other c =
    let drafts = c.args.drafts.now in
    let place = c.loop-place.place in
    let other = c.index-drafts-place.result in
    let below = c.loop-place-test.true in
    ap (λ (hashes : List ℕ). get_or hashes place 0) c.requires.hashes
    ∙ get_or-map hash_of_formula (map draft_of drafts) place (draft_of other) 0 (omega (arith, below, length-map drafts draft_of))
    ∙ ap hash_of_formula (get_or-map draft_of drafts place other (draft_of other) below)
    ∙ ap (λ (D : Draft). hash_of_formula (draft_of D)) (sym c.index-drafts-place.is)
