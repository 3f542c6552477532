pub mod Flights
pub mod NetworkLaws
