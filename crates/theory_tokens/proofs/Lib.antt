pub mod NextLemmas
pub mod NumberLemmas
pub mod LineLemmas
