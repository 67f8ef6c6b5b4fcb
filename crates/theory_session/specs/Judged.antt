-- What the checks of a change come to.
use Rattle.theory_session.specs.Row.{Entry}

-- a refusal, the version that the same request made earlier, or a version more
pub data Judged (R : Type 0) : Type 0 where
  refusal : R → Judged R
  repetition : Entry → Judged R
  addition : Entry → Judged R
