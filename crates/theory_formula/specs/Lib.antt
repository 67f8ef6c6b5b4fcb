pub mod Signs
pub mod Formula
pub mod FormulaAtoms
pub mod SignCondition
pub mod Symbols
