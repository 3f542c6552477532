pub mod StreamLaws
pub mod TextLaws
pub mod RunsOnce
pub mod EmptyClaims
pub mod PlayLaws
pub mod Endings
