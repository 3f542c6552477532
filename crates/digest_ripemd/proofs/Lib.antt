pub mod BlockWords
pub mod Chaining
pub mod DigestFacts
pub mod Feeding
pub mod Steps
