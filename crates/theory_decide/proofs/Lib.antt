pub mod HalfLemmas
pub mod CauseLemmas
pub mod RegionLemmas
