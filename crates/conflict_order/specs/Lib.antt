pub mod Action
pub mod Contents
pub mod Join
pub mod Next
pub mod Order
pub mod ValueFault
