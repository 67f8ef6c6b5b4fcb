use Rattle.std.proofs.Common.{sym, ◌∙◌}
use Rattle.theory_meaning.proofs.SlowLemmas.{value_at-found}
use Rattle.theory_meaning.proofs.slow.values.value_among.Goals as goal

pub returns-then-is_named : goal.returns-then-is_named
returns-then-is_named c =
    let named = sym c.is_named.ensures ∙ c.if-is_named.true in
    sym (value_at-found _ _ _ _ c.loop-entry-test.true c.entry-item.is named) ∙ c.loop-entry.invariant
