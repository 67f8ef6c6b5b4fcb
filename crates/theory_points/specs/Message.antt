-- What an error tells its reader.
use Rattle.std.specs.Prelude.{ℕ, List, codes}
use Rattle.theory_points.specs.declared.limit.Limit.{Limit}
use Rattle.theory_points.specs.declared.limit.Limit.TheVariants.{Wide, Memory}

-- want of memory
abbrev pub memory_message : List ℕ
memory_message = codes "no memory"

-- a number that passes the bound, or a polynomial a limit
abbrev pub limit_message : List ℕ
limit_message = codes "a result passes the limit"

-- what is told by each limit
abbrev pub message_of : Limit → List ℕ
message_of Wide = limit_message
message_of Memory = memory_message
