use Rattle.std.proofs.Common.{◌≡◌, List, [], ◌∷◌, ◌++◌, length, refl, sym, ap, ◌∙◌, arith}
use Rattle.std.proofs.lemmas.List.{append-nil}
use Rattle.theory_simplify.specs.declared.drafts.Draft.{Draft}
use Rattle.theory_simplify.specs.Drafts.{draft_of}
use Rattle.theory_simplify.specs.Parts.{parts_of}
use Rattle.theory_simplify.proofs.FlatLemmas.{opened_spliced}
use Rattle.theory_simplify.proofs.flattening.splice.Goals as goal

no_more : (Fs : List Draft) → length Fs ≡ 0 → Fs ≡ []
no_more [] h = refl
no_more (F ∷ Fs) h = absurd (omega arith)

pub returns-in-None : goal.returns-in-None
returns-in-None c =
    let spliced_is = opened_spliced c.args.all (draft_of c.args.member) c.in-Ok.inner.items c.in-Ok.ensures in
    let none_left = no_more c.loop-member.member-iterator.rest.items (omega (arith, c.in-None.ensures.steps.0, c.loop-member.member-iterator.rest.ok.0)) in
    sym (append-nil (parts_of c.loop-member.into.items))
    ∙ ap (λ Fs. parts_of c.loop-member.into.items ++ parts_of Fs) (sym none_left)
    ∙ c.loop-member.invariant
    ∙ ap (λ Fs. parts_of c.args.into.now.items ++ parts_of Fs) c.into_iter-member-iterator.ensures.into_iter_gives.0
    ∙ ap (λ ps. parts_of c.args.into.now.items ++ ps) (sym spliced_is)
