pub mod Elements
pub mod Along
pub mod Faultless
pub mod Named
pub mod Fits
pub mod WrittenKinds
pub mod Laws
mod ListedKeys
mod ManyNames
pub mod Systems
pub mod Texts
pub mod Found
pub mod Nodes
pub mod Rules
pub mod Places
pub mod PrintedMembers
pub mod PrintedKeys
pub mod PrintedTask
pub mod PrintedCore
pub mod PrintedNames
pub mod PrintedWalk
mod Examples
mod FaultExamples
pub mod PrintedPart
pub mod PrintedSystem
pub mod PrintedShape
pub mod PrintedText
pub mod PrintedPut
pub mod OneText
pub mod AtEnd
pub mod OneWalk
pub mod ToldLines
pub mod WithTasks
