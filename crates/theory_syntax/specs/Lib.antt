pub use Rattle.theory_meaning.specs.Tree
pub mod Plain
pub mod Valued
