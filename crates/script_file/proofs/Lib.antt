pub mod CutPieces
pub mod RowsTaking
pub mod OneScript
mod GuestsAdded
pub mod OneGuests
mod ScriptExamples
mod AllThere
mod FileExamples
