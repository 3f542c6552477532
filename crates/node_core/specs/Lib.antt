pub mod Nodes
pub mod Peers
pub mod Requests
pub mod Rooms
