-- The joint table
pub mod JointTable
-- Numbers and searches
pub mod Digits
pub mod Divisors
pub mod Searching
-- The line of a number
pub mod LineAsked
-- Where a line stands, and who owns a round
pub mod UnderEdge
pub mod Put
pub mod Proper
pub mod Standing
pub mod Ownership
pub mod LedRounds
-- Opening
pub mod Picking
pub mod Classes
pub mod CandidatePlaces
pub mod StartsDiffer
pub mod ChosenCandidate
pub mod Split
pub mod Booking
pub mod BookingAt
pub mod Opening
pub mod Options
-- Closing
pub mod Clearing
pub mod Joining
pub mod JoinedUp
pub mod JoinsEnd
pub mod SomeCandidate
pub mod JoinedCandidates
pub mod SplitJoined
pub mod Closing
pub mod ClosedCandidates
pub mod ClosedUnderEdge
pub mod FitGivenBack
pub mod OpensAgain
pub mod ClosedOwners
-- How large a tree can be
pub mod Totals
pub mod Depth
-- Trials
pub mod NodesAdded
pub mod SplitWeights
pub mod Trials
-- Which numbers and periods lines have
pub mod Numbering
-- The rest
pub mod Resting
-- The sheet
pub mod Sheets
-- Demand 3
pub mod Checks
pub mod Agreement
pub mod Demand3
-- Reasons
pub mod Reasons
pub mod ReasonBounds
-- Weaving
pub mod AlonePaths
pub mod WovenPaths
pub mod WovenLegal
pub mod WovenLines
pub mod WovenOwner
