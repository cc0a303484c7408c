pub mod CloseLine
pub mod SplitIfSmaller
pub mod OpenLine
