pub mod Defeat
pub mod Replay
pub mod inner
