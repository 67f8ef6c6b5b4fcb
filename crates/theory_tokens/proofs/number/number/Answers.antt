use Rattle.std.proofs.Common.{◌+◌, arith}
use Rattle.std.proofs.lemmas.List.Sums.{fold_more}
use Rattle.theory_tokens.proofs.NumberLemmas.{front_at_most}
use Rattle.theory_tokens.proofs.number.number.Goals as goal

pub returns-then-value-gt-GREATEST : goal.returns-then-value-gt-GREATEST
returns-then-value-gt-GREATEST c =
    let front = front_at_most c.args.digits.now (c.loop-digit.digit-index + 1) in
    grind (arith, fold_more)
