mod ChildNames
pub mod OneCounts
mod Examples
mod SimulateExamples
pub mod AnswerLines
mod SessionExamples
