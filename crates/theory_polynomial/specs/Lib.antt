pub mod Terms
pub mod Polynomial
pub mod PolynomialValue
pub mod RationalPolynomial
