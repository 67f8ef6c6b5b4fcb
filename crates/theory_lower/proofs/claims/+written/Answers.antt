use Rattle.theory_lower.proofs.WrittenLemmas.{written-And, written-Or}
use Rattle.theory_syntax.specs.Plain.{claim_of}
use Rattle.std.proofs.Common.{map}
use Rattle.theory_lower.proofs.claims.+written.Goals as goal

pub written-returns-in_ok-all_written-in-And : goal.written-returns-in_ok-all_written-in-And
written-returns-in_ok-all_written-in-And t c =
    written-And c.args.names.now c.args.formula.now c.in-And.members c.deref.result.now (map claim_of c.in_ok-all_written-in-And.field-0.items)
    (claim_of c.both.result) c.in-And.is c.deref.ensures.value c.in_ok-all_written-in-And.ensures c.both.ensures

pub written-returns-in_ok-all_written-in-Or : goal.written-returns-in_ok-all_written-in-Or
written-returns-in_ok-all_written-in-Or t c =
    written-Or c.args.names.now c.args.formula.now c.in-Or.members c.deref-in-Or.result.now (map claim_of c.in_ok-all_written-in-Or.field-0.items)
    (claim_of c.either.result) c.in-Or.is c.deref-in-Or.ensures.value c.in_ok-all_written-in-Or.ensures c.either.ensures
