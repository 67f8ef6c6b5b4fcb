pub mod Parsed
pub mod Reading
pub mod Behind
pub mod Exprs
pub mod First
pub mod Claims
pub mod Lines
pub mod Message
