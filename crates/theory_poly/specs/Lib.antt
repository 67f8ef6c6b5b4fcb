pub use Rattle.theory_polynomial.specs.Polynomial
pub use Rattle.theory_polynomial.specs.PolynomialValue
pub use Rattle.theory_polynomial.specs.RationalPolynomial
pub mod Answers
pub mod Hashes
pub mod Kept
