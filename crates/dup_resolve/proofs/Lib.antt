pub mod ClosingLaws
pub mod CountLaws
pub mod IndexLaws
pub mod SlotLaws
