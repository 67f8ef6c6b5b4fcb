pub mod PlaceLemmas
pub mod CutLemmas
pub mod LineLemmas
pub mod TextLemmas
pub mod IdentifierLemmas
pub mod OneLineLemmas
