-- The end of a program, from the words that it was started with.
use Rattle.std.proofs.Common.{◌≡◌, List, map, String, string_bytes, Result, Ok, inl, sym, subst}
use Rattle.std.specs.declared.vec.Vec.{Vec}
use Rattle.std.specs.Global.{Global}
use Rattle.theory_decision.specs.Engine.{engine}
use Rattle.theory_cli.specs.declared.entry.NoWords.{NoWords}
use Rattle.theory_session.specs.Run.{Reply}
use Rattle.theory_cli.specs.declared.status.Status.{Status}
use Rattle.theory_cli.specs.Run.{Ends, IsRun}
use Rattle.theory_cli.specs.Program.{EndsProgram}

-- words that could be read
pub ended_run : (words : Result (Vec (String Global) Global) NoWords) (named : Vec (String Global) Global) (lent : List (String Global))
    (before now : Ends) (status : Status) (replies : List Reply) → words ≡ Ok named → lent ≡ named.items →
    IsRun engine (map string_bytes lent) before now status replies → EndsProgram words before now status
ended_run words named lent before now status replies is same run =
    subst (λ (w : Result (Vec (String Global) Global) NoWords). EndsProgram w before now status) (sym is)
    (inl (replies, subst (λ (l : List (String Global)). IsRun engine (map string_bytes l) before now status replies) same run))
