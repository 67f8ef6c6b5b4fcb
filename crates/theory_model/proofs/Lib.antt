pub mod KeyedLemmas
pub mod FaultLemmas
pub mod ChangeLemmas
pub mod CarriedLemmas
pub mod EditLemmas
