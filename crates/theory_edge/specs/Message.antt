-- What an error tells its reader.
use Rattle.std.specs.Prelude.{ℕ, List, codes}
use Rattle.theory_edge.specs.declared.files.EndFault.{EndFault}
use Rattle.theory_edge.specs.declared.files.EndFault.TheVariants.{Failed, NoMemory}

-- what is told by each fault of an end
abbrev pub message_of : EndFault → List ℕ
message_of Failed = codes "the outside failed"
message_of NoMemory = codes "no memory"
