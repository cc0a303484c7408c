-- Laws of orders, the round trips, and the proof of each function.
pub mod OrderLaws
pub mod PackingChecks
pub mod ReadingChecks
pub mod RoundTrip
