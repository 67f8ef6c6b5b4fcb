pub mod FormulaLaws
pub mod ConditionLaws
pub mod FreeTerms
pub mod ReadSymbols
pub mod ProperFormulas
