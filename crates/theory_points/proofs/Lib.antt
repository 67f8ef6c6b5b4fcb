pub mod PointLemmas
pub mod SimplestLemmas
pub mod SimplestLemmasSigned
pub mod CoprimeLemmas
pub mod SignLemmas
pub mod KeptLemmas
pub mod QuotientLemmas
pub mod WholeLemmas
