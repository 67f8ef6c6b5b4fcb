pub mod Arguments
pub mod Commands
pub mod Message
pub mod Plain
pub mod Reading
