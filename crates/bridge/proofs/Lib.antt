-- Paths and trees
pub mod NodePath
pub mod SameTree
-- Paths after closing and opening
pub mod Route
pub mod RouteClearing
pub mod RouteBooking
pub mod RouteOpening
-- Nodes joined, level by level
pub mod JoinLevels
-- The search over paths finds the chosen candidate of the tree
pub mod NodesOnPaths
pub mod ClassOnPaths
pub mod SearchOnPaths
-- A line's block of the record, and its path
pub mod WrittenPaths
pub mod BlockPaths
pub mod RecordBlocks
-- The tree of a record
pub mod Parting
pub mod Stand
pub mod StandLegal
pub mod Grown
pub mod TreeOfRecord
pub mod LegalPaths
-- The record of the tree that a call leaves
pub mod ClearedRecord
pub mod RecordRoundTrip
pub mod PlanGiven
pub mod BookedRecord
pub mod TrialOnPaths
pub mod ReasonOnPaths
pub mod FirstRecord
pub mod SpotFacts
pub mod CallsOnRecords
pub mod CarriedLegal
pub mod PeriodAsked
-- The walk over paths is the walk over the tree
pub mod WalkOnPaths
-- Asking a record
pub mod AskingRecords
-- Nodes joined
pub mod RouteAlong
pub mod JoinedPaths
pub mod WeightOnPaths
pub mod JoinedRecord
