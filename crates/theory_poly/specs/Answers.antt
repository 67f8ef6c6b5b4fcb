-- What a call that may pass a limit answers.
use Rattle.std.specs.Prelude.{Result, Ok, Err}
use Rattle.theory_points.specs.declared.limit.Limit.{Limit}
use Rattle.theory_points.specs.declared.limit.Limit.TheVariants.{Wide, Memory}

-- Wide exactly where the limit is passed, unless memory runs out
abbrev pub WideWhere : {T : Type 0} → Type 0 → Result T Limit → Type 0
WideWhere Passes (Ok x) = ¬ Passes
WideWhere Passes (Err Wide) = Passes
WideWhere Passes (Err Memory) = Unit {0}
