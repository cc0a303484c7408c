-- What a reader must believe: document 01 as definitions, in its own order, and the chosen candidate, turns, rests, trials, sheets, reasons, joining, images and weaving as document 02 has them. A mark such as (The tree, 6) names the sentence
-- that a definition renders, counted within that section of document 01, (Ask 1, 2) one of document 02; docs/RULES.md has the rules under these numbers,
-- docs/TRACE.md what renders and shows each.
pub mod Numbers
pub mod Search
pub mod Tree
pub mod Standing
pub mod Shape
pub mod Opening
pub mod Closing
pub mod Asking
pub mod Sheet
pub mod Reason
pub mod Refusals
pub mod Calls
pub mod Trial
pub mod Explained
pub mod Answered
pub mod Lists
pub mod Demand3
pub mod Record
pub mod Bits
pub mod Image
pub mod ImageReading
pub mod Weaving
pub mod Cases
