pub mod Plain
pub mod Next
pub mod Scanned
