pub mod Rows
pub mod WakesMore
pub mod WakesTaking
pub mod SpeltWorkload
pub mod OneWorkload
pub mod OneReleases
mod FileExamples
pub mod LeafMore
pub mod ReleasesTaking
