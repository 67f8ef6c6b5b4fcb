use Rattle.std.proofs.Common.{inl, inr, ap, ◌∙◌, ◌∷◌}
use Rattle.theory_grammar.specs.Scan.{over}
use Rattle.theory_tokens.proofs.next.next_token.Goals as goal

pub returns-in-None : goal.returns-in-None
returns-in-None c = λ n. over n c.args.bytes.now (inl c.in-None.ensures)

pub returns-then-first-eq35 : goal.returns-then-first-eq35
returns-then-first-eq35 c =
    λ n. over n c.args.bytes.now (inr (c.in-Some.behind.now, c.in-Some.ensures ∙ ap (λ b. b ∷ c.in-Some.behind.now) c.if-first-eq35.true))
