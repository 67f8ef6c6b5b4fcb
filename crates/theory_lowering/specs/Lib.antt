pub mod NormalForm
pub mod RationalFunction
pub mod Lowered
pub mod LoweringLimits
pub mod WrittenClaim
