use Rattle.std.proofs.Common.{◌≡◌, min, sym, ap, ◌∙◌, subst}
use Rattle.theory_lowering.specs.NormalForm.{normal_form, atom_count}
use Rattle.theory_syntax.specs.Plain.{claim_of}
use Rattle.theory_lower.proofs.CountLemmas.{negated_count, implication_count, equivalence_count}
use Rattle.theory_lower.proofs.TreeLemmas.{tree-Not, tree-Implies, tree-Iff}
use Rattle.theory_lower.proofs.counting.+size.Goals as goal

pub size-returns-in-Not : goal.size-returns-in-Not
size-returns-in-Not t c =
    let inner = claim_of c.deref.result.now in
    subst (λ d. c.size.result ≡ min 513 (atom_count (normal_form d))) (tree-Not c.args.claim.now c.in-Not.c c.deref.result.now c.in-Not.is c.deref.ensures)
    (c.size.ensures ∙ ap (min 513) (sym (negated_count inner)))

pub size-returns-in-Implies : goal.size-returns-in-Implies
size-returns-in-Implies t c =
    let a = c.deref-in-Implies.result.now in
    let b = c.deref-in-Implies-2.result.now in
    subst (λ d. c.total.result ≡ min 513 (atom_count (normal_form d)))
    (tree-Implies c.args.claim.now c.in-Implies.a c.in-Implies.b a b c.in-Implies.is c.deref-in-Implies.ensures c.deref-in-Implies-2.ensures)
    (implication_count (claim_of a) (claim_of b) c.size-in-Implies.result c.size-in-Implies-2.result c.total.result
    c.size-in-Implies.ensures c.size-in-Implies-2.ensures c.total.ensures)

pub size-returns-in-Iff : goal.size-returns-in-Iff
size-returns-in-Iff t c =
    let a = c.deref-in-Iff.result.now in
    let b = c.deref-in-Iff-2.result.now in
    subst (λ d. c.total-in-Iff.result ≡ min 513 (atom_count (normal_form d)))
    (tree-Iff c.args.claim.now c.in-Iff.a c.in-Iff.b a b c.in-Iff.is c.deref-in-Iff.ensures c.deref-in-Iff-2.ensures)
    (equivalence_count (claim_of a) (claim_of b) c.size-in-Iff.result c.size-in-Iff-2.result c.total-once.result c.total-in-Iff.result
    c.size-in-Iff.ensures c.size-in-Iff-2.ensures c.total-once.ensures c.total-in-Iff.ensures)
