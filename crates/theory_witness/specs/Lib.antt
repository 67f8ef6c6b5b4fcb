pub mod Lines
pub mod Roots
pub mod Tried
pub mod Picked
pub mod Restriction
pub mod Values
pub mod Path
pub mod Pointed
