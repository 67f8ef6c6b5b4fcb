use Rattle.std.proofs.Common.{refl}
use Rattle.theory_meaning.specs.declared.words.Rel.TheVariants.{Eq, Ne, Lt, Le, Gt, Ge}
use Rattle.theory_tokens.proofs.NextLemmas.{one_byte_takes, two_bytes_take, bang_next, no_comparison, other_next}
use Rattle.theory_tokens.proofs.next.comparison_first.Goals as goal
use Rattle.theory_tokens.proofs.next.comparison_first.Goals.{in_default-via-in-33+in-None, in_default-via-in_default}

pub returns-in-61-default : goal.returns-in-61-default
returns-in-61-default c = one_byte_takes Eq 61 _ _ refl c.in-61-default.is-0 tt

pub returns-in-33-Some : goal.returns-in-33-Some
returns-in-33-Some c = two_bytes_take Ne 33 _ _ _ refl c.in-33-Some.is-0 c.in-33-Some.ensures.some tt

pub returns-in-60-Some : goal.returns-in-60-Some
returns-in-60-Some c = two_bytes_take Le 60 _ _ _ refl c.in-60-Some.is-0 c.in-60-Some.ensures.some tt

pub returns-in-60-None : goal.returns-in-60-None
returns-in-60-None c = one_byte_takes Lt 60 _ _ refl c.in-60-None.is-0 (c.behind_equals.ensures.none c.in-60-None.is-1)

pub returns-in-62-Some : goal.returns-in-62-Some
returns-in-62-Some c = two_bytes_take Ge 62 _ _ _ refl c.in-62-Some.is-0 c.in-62-Some.ensures.some tt

pub returns-in-62-None : goal.returns-in-62-None
returns-in-62-None c = one_byte_takes Gt 62 _ _ refl c.in-62-None.is-0 (c.behind_equals.ensures.none c.in-62-None.is-1)

pub returns-in_default : goal.returns-in_default
returns-in_default c =
    elim c.in_default.branch [
      | in_default-via-in-33+in-None w ↦ λ n. bang_next _ n _ c.requires.word w.in_default.is-0 (c.behind_equals.ensures.none w.in_default.is-1)
      | in_default-via-in_default w ↦ let h = w.in_default.is-0 in
          λ n. other_next _ n _ c.requires.word c.requires.mark (no_comparison _ h.0.0.0.1 h.0.0.1 h.0.1 h.1)
    ]
