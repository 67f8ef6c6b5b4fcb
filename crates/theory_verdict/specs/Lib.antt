pub use Rattle.theory_meaning.specs.Half
pub use Rattle.theory_meaning.specs.Verdict
pub use Rattle.theory_meaning.specs.Region
pub use Rattle.theory_meaning.specs.Deciding
pub mod Plain
