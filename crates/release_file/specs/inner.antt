-- What only private functions promise each other.
pub mod ReleasesTaken
pub mod WakeSpelt
pub mod WakesTaken
