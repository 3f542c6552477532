pub mod Order
pub mod Traced
pub mod Licences
pub mod Sound
pub mod Laws
pub mod Addressed
pub mod Ends
