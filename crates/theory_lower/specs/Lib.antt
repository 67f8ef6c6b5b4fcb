pub use Rattle.theory_lowering.specs.NormalForm
pub use Rattle.theory_lowering.specs.RationalFunction
pub use Rattle.theory_lowering.specs.Lowered
pub use Rattle.theory_lowering.specs.LoweringLimits
pub use Rattle.theory_lowering.specs.WrittenClaim
pub mod Combined
pub mod Lowering
pub mod Message
