pub use Rattle.theory_derivative.specs.Derivative
pub use Rattle.theory_derivative.specs.Differentiated
pub use Rattle.theory_derivative.specs.Sentence
pub mod Plain
pub mod Asked
