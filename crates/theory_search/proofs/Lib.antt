pub mod AtomLemmas
pub mod CandidateLemmas
pub mod FindingLemmas
pub mod LeafLemmas
pub mod VisitLemmas
pub mod OutcomeLemmas
