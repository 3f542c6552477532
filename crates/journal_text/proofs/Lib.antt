pub mod DigitLaws
pub mod Joins
pub mod LengthLaws
pub mod PieceLaws
