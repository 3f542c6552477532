mod ChangeLaws
mod LeavingLaws
mod LineLaws
mod ListLaws
mod StepLaws
