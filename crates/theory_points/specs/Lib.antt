pub use Rattle.theory_meaning.specs.Fraction
pub use Rattle.theory_meaning.specs.Limits
pub use Rattle.theory_meaning.specs.Point
pub use Rattle.theory_meaning.specs.Between
pub mod Parts
pub mod Changes
pub mod Simplest
pub mod Message
