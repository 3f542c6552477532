pub mod AckLaws
mod AgainLaws
pub mod BatchMessageLaws
pub mod CandidateLaws
pub mod MemberLaws
pub mod OpeningLaws
mod ProgressLaws
pub mod RangeLaws
pub mod ReplLaws
pub mod ResolveLaws
pub mod RowMessageLaws
pub mod SeenLaws
pub mod SettledLaws
pub mod SpelledLaws
pub mod StepRanges
pub mod StoreRanges
pub mod TableLaws
mod TargetRanges
mod TickLaws
pub mod TickingLaws
mod TransactionLaws
pub mod ViewLaws
pub mod WritingLaws
