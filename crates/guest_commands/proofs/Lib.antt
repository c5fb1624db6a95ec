mod OneResponses
mod RespondLeaf
mod TreeResponses
mod TreeExamples
pub mod Laws
mod Examples
