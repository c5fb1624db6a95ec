pub mod LevelRuns
pub mod Decide
pub mod Budgets
mod Testing
pub mod Gathered
pub mod Shortfalls
mod Rate
mod Between
mod Cuts
mod ByTask
mod CommonHit
pub mod OneAnswer
mod AnswerExamples
