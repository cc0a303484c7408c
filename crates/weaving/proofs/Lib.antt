pub mod DoubledPeriods
pub mod WovenRows
pub mod WovenLine
pub mod WovenSide
pub mod WovenRecord
pub mod WovenOutcome
pub mod WovenPlan
