use Rattle.std.proofs.Common.{◌≡◌, ◌∙◌, ◌≤◌, length, Some, None, sym, ap, false, arith}
use Rattle.std.specs.Prelude.{◌≢◌, []}
use Rattle.theory_signs.specs.Plain.{formula_of}
use Rattle.theory_decision.specs.Choice.{others, candidates, chosen}
use Rattle.theory_decision.specs.Finding.{is_large, fails, stuck}
use Rattle.theory_search.specs.Atoms.{rows_of}
use Rattle.theory_search.specs.Outcomes.{stuck_below}
use Rattle.theory_search.proofs.CandidateLemmas.{few_atoms}
use Rattle.theory_search.proofs.FindingLemmas.{found_leaf, found_stuck, found_symbol, has_none, has_some, stuck_all, not_large, branches_in}
use Rattle.theory_search.proofs.finding.chosen.Goals as goal

pub returns-then-not-has_others : goal.returns-then-not-has_others
returns-then-not-has_others g c =
    let keep = c.args.keep.now in
    let F = formula_of c.args.formula.now in
    let few : length c.in_ok-found.found.items ≤ 512 = omega (arith, c.len.ensures, c.in_ok-found.found.ok.0) in
    let small : is_large c.args.depth F ≡ false =
    not_large c.args.depth F c.if-depth-gt64.false (few_atoms F c.in_ok-found.found.items few c.in_ok-found.ensures.written)
    in
    let none : others keep F ≡ [] =
    has_none keep F (rows_of c.deref.result.now) (rows_of c.in_ok-found.found.items) c.has_others.result (ap rows_of c.deref.ensures.value)
    c.in_ok-found.ensures.written c.has_others.ensures c.if-not-has_others.true
    in
    found_leaf keep c.args.policy.now.kind c.args.depth F small none

pub returns : goal.returns
returns g c =
    let keep = c.args.keep.now in
    let F = formula_of c.args.formula.now in
    let k = c.args.policy.now.kind in
    let few : length c.in_ok-found.found.items ≤ 512 = omega (arith, c.len.ensures, c.in_ok-found.found.ok.0) in
    let small : is_large c.args.depth F ≡ false =
    not_large c.args.depth F c.if-depth-gt64.false (few_atoms F c.in_ok-found.found.items few c.in_ok-found.ensures.written)
    in
    let some : others keep F ≢ [] =
    has_some keep F (rows_of c.deref.result.now) (rows_of c.in_ok-found.found.items) c.has_others.result (ap rows_of c.deref.ensures.value)
    c.in_ok-found.ensures.written c.has_others.ensures c.if-not-has_others.false
    in
    let none : chosen k (candidates keep F) ≡ None =
    ap (chosen k) (sym c.in_ok-all.ensures.written) ∙ sym c.taken.ensures.value ∙ c.in-None.is
    in
    found_stuck keep k c.args.depth F small some none
    ∙ ap (λ found. fails (stuck found))
    (sym (c.in_ok-stuck_atoms-in-None.ensures ∙ ap (λ atoms. stuck_below keep (rows_of atoms) 32) c.deref-in-None.ensures.value
    ∙ ap (λ rows. stuck_below keep rows 32) c.in_ok-found.ensures.written ∙ stuck_all keep F))

pub returns-in-Some : goal.returns-in-Some
returns-in-Some g c =
    let keep = c.args.keep.now in
    let F = formula_of c.args.formula.now in
    let k = c.args.policy.now.kind in
    let few : length c.in_ok-found.found.items ≤ 512 = omega (arith, c.len.ensures, c.in_ok-found.found.ok.0) in
    let small : is_large c.args.depth F ≡ false =
    not_large c.args.depth F c.if-depth-gt64.false (few_atoms F c.in_ok-found.found.items few c.in_ok-found.ensures.written)
    in
    let some : others keep F ≢ [] =
    has_some keep F (rows_of c.deref.result.now) (rows_of c.in_ok-found.found.items) c.has_others.result (ap rows_of c.deref.ensures.value)
    c.in_ok-found.ensures.written c.has_others.ensures c.if-not-has_others.false
    in
    let taken : chosen k (candidates keep F) ≡ Some c.in-Some.x =
    ap (chosen k) (sym c.in_ok-all.ensures.written) ∙ sym c.taken.ensures.value ∙ c.in-Some.is
    in (
      found_symbol keep k c.args.depth F c.in-Some.x small some taken,
      branches_in keep k c.args.depth c.in-Some.x F c.if-depth-gt64.false c.in-Some.ensures.small c.in_ok-found.ensures.proper taken,
    )
