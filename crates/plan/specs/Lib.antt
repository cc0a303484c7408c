pub mod Meets
pub mod Lookup
pub mod Ask
pub mod Walker
pub mod Tried
pub mod RoundTrip
pub mod WovenAsked
