pub mod Counts
pub mod Fits
pub mod Plans
pub mod Rooms
pub mod Settlings
pub mod Transactions
pub mod Views
pub mod Writes
