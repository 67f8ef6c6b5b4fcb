-- What an error tells its reader.
use Rattle.std.specs.Prelude.{ℕ, List, codes}
use Rattle.theory_lower.specs.declared.fault.LowerFault.{LowerFault}
use Rattle.theory_lower.specs.declared.fault.LowerFault.TheVariants.{Large, Wide, Memory}

-- what is told by each fault of a lowering
abbrev pub message_of : LowerFault → List ℕ
message_of Large = codes "more than 512 atoms"
message_of Wide = codes "a polynomial passes a limit"
message_of Memory = codes "no memory"
