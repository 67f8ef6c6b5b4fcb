use Rattle.std.proofs.Common.{◌≡◌, List, true, false, IfOk, option_map, map, ap, ◌++◌, sym, ◌∙◌, subst, arith}
use Rattle.theory_formula.specs.Formula.{formulas_from}
use Rattle.theory_elimination.specs.Simplified.{members_under, facts_within}
use Rattle.theory_simplify.specs.declared.drafts.Draft.{Draft}
use Rattle.theory_signs.specs.Condition.{Condition}
use Rattle.theory_simplify.specs.Drafts.{draft_of}
use Rattle.theory_simplify.proofs.DraftLemmas.{draft_of-And, draft_of-Or}
use Rattle.theory_simplify.specs.Parts.{parts_of, parts_in, facts_of, waiting, opened, AreParts}
use Rattle.theory_simplify.specs.Judged.{judging_of, open_for}
use Rattle.theory_simplify.proofs.Weights.{inner_weight, open_weight, weight_of_parts, parts_weight}
use Rattle.theory_simplify.proofs.FlatLemmas.{parts_are, member_step, simplified_from, decided_from}
use Rattle.theory_simplify.proofs.simplification.+simplified.Goals as goal

pub simplified_member-simplified_list-requires : goal.simplified_member-simplified_list-requires
simplified_member-simplified_list-requires t c =
    let is = ap draft_of c.in-And.is ∙ draft_of-And c.in-And.members in
    let inside = inner_weight true (draft_of c.args.member) c.in-And.members.items (ap (opened true) is) in
    (omega (arith, c.decreases, inside), tt)

pub simplified_member-simplified_list-requires-in-Or : goal.simplified_member-simplified_list-requires-in-Or
simplified_member-simplified_list-requires-in-Or t c =
    let is = ap draft_of c.in-Or.is ∙ draft_of-Or c.in-Or.members in
    let inside = inner_weight false (draft_of c.args.member) c.in-Or.members.items (ap (opened false) is) in
    (omega (arith, c.decreases, inside), tt)

pub members_under-simplified_member-requires : goal.members_under-simplified_member-requires
members_under-simplified_member-requires t c =
    let rest = ap (λ Fs. parts_weight (parts_of Fs)) c.in-Some.ensures.steps.0 in
    let most = c.loop-member.invariant.lighter in
    (omega (arith, c.decreases, rest, most), tt)

pub members_under-loop-member-preserved : goal.members_under-loop-member-preserved
members_under-loop-member-preserved t c =
    let K = facts_of c.args.facts.now in
    let done = parts_of c.loop-member.simple.items in
    let rest = ap (λ Fs. parts_weight (parts_of Fs)) c.in-Some.ensures.steps.0 in
    let most = c.loop-member.invariant.lighter in
    record {
      written = member_step (judging_of c.args.judgement) c.args.all K done _ c.in-Some.member c.next.new.self.rest.items (draft_of c.in_ok-form.form)
          c.in_ok-form.ensures c.in_ok-splice.ensures
          ∙ ap (λ (Fs : List Draft). done ++ members_under c.args.all K (waiting (judging_of c.args.judgement) (parts_of Fs))) (sym c.in-Some.ensures.steps.0)
          ∙ c.loop-member.invariant.written;
      lighter = omega (arith, rest, most);
    }

pub simplified_list-members_under-requires : goal.simplified_list-members_under-requires
simplified_list-members_under-requires t c =
    let Fs = c.args.members.items in
    let wanted = open_for c.args.judgement c.args.all (facts_of c.args.facts.now) (parts_of c.in_ok-flat.flat.items) in
    let leaves = subst (AreParts wanted) c.in-Some.is c.in_ok-left.ensures in
    let below = open_weight c.args.judgement c.args.all (facts_of c.args.facts.now) (formulas_from (map draft_of Fs)) (parts_of c.in_ok-flat.flat.items)
    (parts_of c.in-Some.left.items) c.in_ok-flat.ensures leaves in
    let same = weight_of_parts Fs in
    (omega (arith, c.decreases, below, same), tt)

pub simplified_list-returns-in_ok-together-in-Some : goal.simplified_list-returns-in_ok-together-in-Some
simplified_list-returns-in_ok-together-in-Some t c =
    let all = c.args.all in
    let K = facts_of c.args.facts.now in
    let left = c.in-Some.left.items in
    let leaves = subst (AreParts (open_for c.args.judgement all K (parts_of c.in_ok-flat.flat.items))) c.in-Some.is c.in_ok-left.ensures in
    subst (λ G. IfOk c.finished.result (λ F. draft_of F ≡ G))
    (simplified_from c.args.judgement all K (formulas_from (map draft_of c.args.members.items)) (parts_of c.in_ok-flat.flat.items) (parts_of left)
    (parts_of c.in_ok-simple-in-Some.simple.items) (facts_of c.in_ok-within-in-Some.within.items) (option_map parts_in c.in_ok-together-in-Some.together)
    c.in_ok-flat.ensures leaves
    (c.in_ok-within-in-Some.ensures ∙ ap (λ (Fs : List Draft). facts_within all (parts_of Fs) K) c.deref.ensures.value)
    (c.in_ok-simple-in-Some.ensures
    ∙ ap (λ (L : List Condition). members_under all (facts_of L) (waiting (judging_of c.args.judgement) (parts_of left))) c.deref-in-Some.ensures.value)
    (parts_are _ c.in_ok-together-in-Some.together c.in_ok-together-in-Some.ensures))
    c.finished.ensures

pub simplified_list-returns-in-None : goal.simplified_list-returns-in-None
simplified_list-returns-in-None t c =
    let all = c.args.all in
    let K = facts_of c.args.facts.now in
    let leaves = subst (AreParts (open_for c.args.judgement all K (parts_of c.in_ok-flat.flat.items))) c.in-None.is c.in_ok-left.ensures in
    c.decision.ensures
    ∙ decided_from c.args.judgement all K (formulas_from (map draft_of c.args.members.items)) (parts_of c.in_ok-flat.flat.items) c.in_ok-flat.ensures leaves
