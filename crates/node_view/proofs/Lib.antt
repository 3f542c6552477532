mod AnewLaws
mod ByNumberLaws
mod CacheLaws
mod DueLaws
mod DueSettlingLaws
mod EmptyLaws
mod EntryLaws
mod FinishLaws
mod FirstLaws
mod HandingLaws
mod HeardLaws
mod HeldLaws
mod HereLaws
mod LiveLaws
mod MergeLaws
mod MissingLaws
mod NodeLaws
mod NoteLaws
mod OutcomeLaws
mod PlanLaws
mod ReadyLaws
mod ResolveLaws
pub mod RowLaws
mod SeenLaws
mod SendLaws
pub mod SettleLaws
pub mod SettledLaws
mod ShownLaws
mod SightLaws
mod SpoilLaws
mod StageLaws
mod StampLaws
mod StepLaws
mod TableLaws
mod TakeLaws
mod TargetLaws
mod TxnLaws
pub mod UnsettledLaws
mod WaitingLaws
mod WakeLaws
mod WatchLaws
mod WriteLaws
