pub mod Derivative
pub mod Differentiated
pub mod Sentence
pub mod Meaning
pub mod Worked
pub mod WorkedModels
