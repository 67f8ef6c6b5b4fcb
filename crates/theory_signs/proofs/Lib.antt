pub mod FormulaLemmas
pub mod PlainLemmas
