pub mod Words
pub mod Generating
pub mod Transcripts
pub mod Replays
pub mod Auditing
pub mod Outcomes
