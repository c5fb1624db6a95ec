pub mod FewTasks
pub mod Moments
pub mod Dues
pub mod FewJobs
pub mod Prompt
