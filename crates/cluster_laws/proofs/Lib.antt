pub mod At
mod Allowed
mod Apart
mod Step
mod Keys
mod Stays
mod Own
mod Txns
mod Grows
mod Predicates
mod Inside
pub mod Lists
mod Said
mod Below
mod Cross
mod Moving
mod Folds
pub mod GroundLaws
mod Heard
mod Fine
mod Counts
mod Copies
mod Stamps
mod Kept
pub mod All
pub mod Settled
mod Answering
mod Resolved
mod TooWeak
mod LoneRun
mod PairRun
mod SidesRun
pub mod ReadingFrames
pub mod ReadingLines
pub mod ReadingSteps
pub mod ReadingViews
pub mod ReadingTies
pub mod ReadingClaims
mod ReadingStamps
pub mod ReadingMaps
mod PartRun
mod ReadingNumbers
mod ReadingHeard
pub mod ReadingClasses
mod BitRows
mod LateRun
mod LoneJournal
