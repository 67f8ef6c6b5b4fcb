pub use Rattle.theory_formula.specs.Signs
pub use Rattle.theory_formula.specs.Formula
pub use Rattle.theory_formula.specs.SignCondition
pub mod Condition
pub mod Plain
