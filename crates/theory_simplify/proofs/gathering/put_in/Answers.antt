use Rattle.std.proofs.Common.{Some, sym, ap, ◌∙◌, List, arith}
use Rattle.std.proofs.lemmas.List.{length-map}
use Rattle.theory_simplify.specs.declared.drafts.Draft.{Draft}
use Rattle.theory_simplify.specs.Parts.{part_of, parts_of, held_at}
use Rattle.theory_elimination.specs.Simplified.{put_together}
use Rattle.theory_simplify.proofs.PutLemmas.{held_within, put_met, put_decides, put_last}
use Rattle.theory_simplify.proofs.gathering.put_in.Goals as goal

pub index_mut-requires : goal.index_mut-requires
index_mut-requires c =
    let found = ap (λ (Fs : List Draft). held_at c.args.atom.poly (parts_of Fs)) (sym c.deref.ensures.value)
    ∙ sym c.held_at.ensures ∙ c.in-Some.is in
    let below = held_within c.args.atom.poly (parts_of c.args.done.now.items) c.in-Some.place c.in-Some.held found in
    omega (arith, below, length-map c.args.done.now.items part_of, c.args.done.now.ok.0)

pub returns-in-Some-put_together : goal.returns-in-Some-put_together
returns-in-Some-put_together c =
    let found = ap (λ (Fs : List Draft). held_at c.args.atom.poly (parts_of Fs)) (sym c.deref.ensures.value)
    ∙ sym c.held_at.ensures ∙ c.in-Some.is in
    put_met c.args.all c.args.atom.poly c.args.atom.signs c.args.done.now.items c.in-Some.place c.in-Some.held c.in-Some-put_together.signs
    _ found
    (ap (λ S. put_together c.args.all c.in-Some.held S) (sym c.signs.ensures) ∙ sym c.put_together.ensures ∙ c.in-Some-put_together.is)
    (c.with_signs.ensures)

pub returns-in-None-put_together : goal.returns-in-None-put_together
returns-in-None-put_together c =
    let found = ap (λ (Fs : List Draft). held_at c.args.atom.poly (parts_of Fs)) (sym c.deref.ensures.value)
    ∙ sym c.held_at.ensures ∙ c.in-Some.is in
    put_decides c.args.all c.args.atom.poly c.args.atom.signs c.args.done.now.items c.in-Some.place c.in-Some.held found
    (ap (λ S. put_together c.args.all c.in-Some.held S) (sym c.signs.ensures) ∙ sym c.put_together.ensures ∙ c.in-None-put_together.is)

pub returns-in_ok-push-in-None : goal.returns-in_ok-push-in-None
returns-in_ok-push-in-None c =
    let found = ap (λ (Fs : List Draft). held_at c.args.atom.poly (parts_of Fs)) (sym c.deref.ensures.value)
    ∙ sym c.held_at.ensures ∙ c.in-None.is in
    put_last c.args.all c.args.atom c.args.done.now.items found
    ∙ ap (λ Fs. Some (parts_of Fs)) (sym c.in_ok-push-in-None.ensures.items)
