pub mod WholeLaws
pub mod OrderLaws
pub mod ValueLaws
pub mod FractionLaws
pub mod AnswerLaws
pub mod SymbolLaws
pub mod SlowLemmas
