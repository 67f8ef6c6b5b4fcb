use Rattle.std.proofs.Common.{sym, ap, ◌∙◌, List, arith}
use Rattle.std.proofs.lemmas.List.{length-map}
use Rattle.theory_formula.specs.Signs.{meet}
use Rattle.theory_formula.specs.declared.signs.Signs.{Signs}
use Rattle.theory_signs.specs.Condition.{Condition}
use Rattle.theory_simplify.specs.Parts.{fact_of, facts_of, known_at}
use Rattle.theory_simplify.proofs.PutLemmas.{known_within, fact_met, fact_unmet, fact_last}
use Rattle.theory_simplify.proofs.facts.add_fact.Goals as goal

pub index_mut-requires : goal.index_mut-requires
index_mut-requires c =
    let found = ap (λ (known : List Condition). known_at c.args.atom.now.poly (facts_of known)) (sym c.deref.ensures.value)
    ∙ sym c.known_at.ensures ∙ c.in-Some.is in
    let below = known_within c.args.atom.now.poly (facts_of c.args.facts.now.items) c.in-Some.place c.in-Some.known found in
    omega (arith, below, length-map c.args.facts.now.items fact_of, c.args.facts.now.ok.0)

pub returns-in-Some-meet : goal.returns-in-Some-meet
returns-in-Some-meet c =
    let found = ap (λ (known : List Condition). known_at c.args.atom.now.poly (facts_of known)) (sym c.deref.ensures.value)
    ∙ sym c.known_at.ensures ∙ c.in-Some.is in
    fact_met c.args.atom.now.poly c.args.atom.now.signs c.args.facts.now.items c.in-Some.place c.in-Some.known c.in-Some-meet.met
    _ found
    (ap (λ S. meet c.in-Some.known S) (sym c.signs.ensures) ∙ sym c.meet.ensures.value ∙ c.in-Some-meet.is)
    (c.with_signs.ensures)

pub returns-in_default : goal.returns-in_default
returns-in_default c =
    let found = ap (λ (known : List Condition). known_at c.args.atom.now.poly (facts_of known)) (sym c.deref.ensures.value)
    ∙ sym c.known_at.ensures ∙ c.in-Some.is in
    fact_unmet c.args.atom.now.poly c.args.atom.now.signs c.args.facts.now.items c.in-Some.place c.in-Some.known found
    (ap (λ S. meet c.in-Some.known S) (sym c.signs.ensures) ∙ sym c.meet.ensures.value ∙ c.in_default.is)

pub returns-in_ok-push-in-None : goal.returns-in_ok-push-in-None
returns-in_ok-push-in-None c =
    let found = ap (λ (known : List Condition). known_at c.args.atom.now.poly (facts_of known)) (sym c.deref.ensures.value)
    ∙ sym c.known_at.ensures ∙ c.in-None.is in
    ap facts_of c.in_ok-push-in-None.ensures.items
    ∙ fact_last c.args.atom.now.poly c.args.atom.now.signs c.args.facts.now.items _ found
    (c.with_signs-in-None.ensures ∙ ap (λ (S : Signs). record { poly = c.args.atom.now.poly; signs = S }) c.signs-in-None.ensures)
