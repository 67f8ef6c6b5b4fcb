pub mod SignRules
pub mod PossibleSigns
pub mod CommonPowers
pub mod Split
pub mod Signed
pub mod ByKind
pub mod Reduced
pub mod WorkedSplits
