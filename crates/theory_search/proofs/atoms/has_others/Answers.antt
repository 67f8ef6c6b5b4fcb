use Rattle.std.proofs.Common.{◌≡◌, ◌∙◌, sym, ap, arith}
use Rattle.std.specs.Prelude.{◌||◌}
use Rattle.std.specs.List.{list_any}
use Rattle.theory_decision.specs.Choice.{symbols_from}
use Rattle.theory_search.specs.Atoms.{rows_of, is_other}
use Rattle.theory_search.proofs.FindingLemmas.{any_more, any_later}
use Rattle.theory_search.proofs.atoms.has_others.Goals as goal

pub returns-then-is_other : goal.returns-then-is_other
returns-then-is_other c =
    sym (any_later (is_other c.args.keep.now (rows_of c.args.atoms.now)) c.loop-x.x 32 c.loop-x-test.true (sym c.is_other.ensures ∙ c.if-is_other.true))

pub loop-x-preserved : goal.loop-x-preserved
loop-x-preserved c =
    let other = is_other c.args.keep.now (rows_of c.args.atoms.now) in
    any_more other c.loop-x.x ∙ ap (λ b. b || other c.loop-x.x) c.loop-x.invariant ∙ sym c.is_other.ensures ∙ c.if-is_other.false

pub returns : goal.returns
returns c =
    let all : 32 ≡ c.loop-x.x = omega arith in
    sym (ap (λ n. list_any (is_other c.args.keep.now (rows_of c.args.atoms.now)) (symbols_from 0 n)) all ∙ c.loop-x.invariant)
