pub mod PlaceLemmas
pub mod IndexLemmas
pub mod RequestLemmas
pub mod BookLemmas
pub mod KeepingLemmas
pub mod StopLemmas
pub mod StepLemmas
pub mod LedgerLemmas
mod EditLemmas
mod JudgingLemmas
mod DividingLemmas
mod RowLemmas
mod BeginLemmas
