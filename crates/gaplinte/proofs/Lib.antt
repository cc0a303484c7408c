pub mod Answering
pub mod Serving
pub mod ValuesBelow
pub mod RowsWritten
pub mod RefusalsInRange
pub mod Told
