pub mod AskedBefore
pub mod OneCourse
pub mod OneEntry
pub mod OneTranscript
pub mod OneVerdict
pub mod OwnEntries
pub mod RunFits
pub mod WorkedRuns
