pub use Rattle.theory_elimination.specs.Simplified
pub mod Hashes
pub mod Drafts
pub mod Parts
pub mod Judged
