-- Tests of every number below a bound, and searches for the smallest
pub mod AllBelow
pub mod NoneBelow
-- An array filled from the front
pub mod Filled
-- Paths, read row by row
pub mod PathRest
pub mod PathRows
pub mod PathLength
pub mod PathsPart
pub mod SameNode
pub mod PathRange
pub mod UnusedRows
pub mod RowLaws
pub mod RangeLaws
-- The whole record
pub mod Blocks
pub mod ChangedLines
pub mod LegalLines
-- The path as 11 rows
pub mod ElevenRows
-- The lines passed by the check, in chains
mod ChainLaws
mod PassedLines
-- The product and the sum along a path
pub mod PathNumbers
-- The search over the paths
pub mod PickedSpots
-- Nodes joined on the paths
pub mod JoiningPaths
