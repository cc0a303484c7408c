-- The lines through a node, and one join written into the record
pub mod NodesInCommon
pub mod CommonNumbers
pub mod LinesThrough
pub mod WeightBelow
pub mod JoinPath
pub mod JoinNode
-- Nodes joined level by level
pub mod JoinedLevels
pub mod AllLevels
