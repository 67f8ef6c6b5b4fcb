pub mod Atoms
pub mod Asked
pub mod Candidacy
pub mod Outcomes
pub mod Right
pub mod LeafLists
pub mod Runs
pub mod Entered
