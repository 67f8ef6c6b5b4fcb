pub mod NumberLemmas
pub mod SlopeLemmas
pub mod SentenceLemmas
pub mod ReadyLemmas
