pub mod DivisorLemmas
pub mod PowerLemmas
pub mod QuotientLemmas
pub mod TreeLemmas
pub mod TruthLemmas
