pub mod RecordRows
pub mod SetLine
pub mod PathRows
pub mod SplitPath
pub mod SplitNode
pub mod PlacedPath
