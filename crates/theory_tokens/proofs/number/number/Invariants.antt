use Rattle.std.proofs.Common.{◌≡◌, ◌≤◌, take}
use Rattle.theory_meaning.specs.Limits.{bound}
use Rattle.theory_grammar.specs.Lexeme.{number_of}
use Rattle.theory_tokens.proofs.number.number.Given as goal

abbrev pub invariant-loop-digit : goal.invariant-loop-digit
invariant-loop-digit l = (l.value ≡ number_of (take l.digit-index l.digits)) × (l.value ≤ bound)
