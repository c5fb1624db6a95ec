pub mod Laws
mod Taking
mod WordExamples
mod CommandExamples
