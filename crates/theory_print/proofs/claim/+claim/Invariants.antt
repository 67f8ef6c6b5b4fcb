use Rattle.std.proofs.Common.{◌≡◌, ◌++◌, drop, codes}
use Rattle.theory_grammar.specs.Printed.{further, conjuncts, disjuncts}
use Rattle.theory_meaning.specs.Tree.{claims_from}
use Rattle.theory_syntax.specs.Plain.{claims_of}
use Rattle.theory_print.proofs.claim.+claim.Given as goal

abbrev pub invariant-add_conjunction-loop-other : goal.invariant-add_conjunction-loop-other
invariant-add_conjunction-loop-other l =
    l.text ++ further (codes " and ") (conjuncts (claims_from (claims_of (drop l.other-index l.others))))
    ≡ l.initial.text ++ further (codes " and ") (conjuncts (claims_from (claims_of l.others)))

abbrev pub invariant-add_disjunction-loop-other : goal.invariant-add_disjunction-loop-other
invariant-add_disjunction-loop-other l =
    l.text ++ further (codes " or ") (disjuncts (claims_from (claims_of (drop l.other-index l.others))))
    ≡ l.initial.text ++ further (codes " or ") (disjuncts (claims_from (claims_of l.others)))
