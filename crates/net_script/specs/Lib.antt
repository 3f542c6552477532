pub mod Flights
pub mod Network
