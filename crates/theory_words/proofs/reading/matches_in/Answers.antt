use Rattle.std.proofs.Common.{inl, inr, ◌∙◌}
use Rattle.clap.specs.Words.{app_of}
use Rattle.theory_words.proofs.Found.{found, found_none, simple}
use Rattle.theory_words.proofs.reading.matches_in.Goals as goal

pub returns-in-Ok : goal.returns-in-Ok
returns-in-Ok c = found (app_of c.args.arguments) _ _ (c.in-Ok.ensures.kinds c.requires) (c.in-Ok.ensures.matches (simple (app_of c.args.arguments) c.requires)).0

pub returns : goal.returns
returns c = elim (c.in-Err.ensures.kinds c.requires) [
  | inl h ↦ absurd (c.in_default.not-OutOfMemory (c.kind.ensures ∙ h))
  | inr h ↦ found_none (app_of c.args.arguments) _ _ h
]
