pub mod BothOptions
pub mod Found
pub mod FoundRows
pub mod Parts
pub mod PlainWords
pub mod Refusals
pub mod SameNames
pub mod SomeCommand
