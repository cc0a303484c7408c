pub mod LineFound
pub mod Changes
pub mod AskingLaws
pub mod WalkerLaws
pub mod Trials
pub mod ImageCalls
pub mod WovenAsked
