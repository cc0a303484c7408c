pub mod ClassesTaken
pub mod TrialAt
pub mod TrialLine
