use Rattle.std.proofs.Common.{ℕ, ◌++◌, List, [], ap, ◌∙◌, arith}
use Rattle.std.specs.Prelude.{codes, decimal}
use Rattle.std.proofs.lemmas.Fmt.{decimal_digit}
use Rattle.theory_grammar.proofs.laws_worked.quotients_are_printed_as_written.Goals as goal

pub returns-clause-digit : goal.returns-clause-digit
returns-clause-digit c =
    ap (λ (ds : List ℕ). (((ds ++ []) ++ []) ++ codes "/") ++ ((codes "(" ++ (decimal 3 ++ [])) ++ codes ")")) (decimal_digit 2 (omega arith))
    ∙ ap (λ (ds : List ℕ). codes "2/" ++ ((codes "(" ++ (ds ++ [])) ++ codes ")")) (decimal_digit 3 (omega arith))

pub returns-clause-power_of_digit : goal.returns-clause-power_of_digit
returns-clause-power_of_digit c =
    ap (λ (ds : List ℕ). codes "x/" ++ ((codes "(" ++ ((((ds ++ []) ++ []) ++ codes "^") ++ decimal 2)) ++ codes ")")) (decimal_digit 3 (omega arith))
    ∙ ap (λ (ds : List ℕ). codes "x/" ++ ((codes "(" ++ (codes "3^" ++ ds)) ++ codes ")")) (decimal_digit 2 (omega arith))
