pub mod Responses
pub mod Interface
pub mod Choose
pub mod Slack
