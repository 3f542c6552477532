pub mod BoxesLaws
pub mod BoxesSteps
pub mod FrontLaws
pub mod LinkLaws
pub mod MarkLaws
pub mod NodeLaws
pub mod PlaceLaws
pub mod RawBoxSteps
