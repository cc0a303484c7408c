-- Bits and bytes
pub mod NumberAt
pub mod BitsOfBytes
pub mod FieldInWord
pub mod FieldPut
-- The lines of an image, their tree and its record
pub mod LineFits
pub mod LinesInTree
pub mod LinesPutIn
pub mod SameLines
pub mod LinesOfTree
pub mod RecordOfLines
-- The bits of lines
pub mod ImageBits
pub mod ImageLength
-- What is read
pub mod PartsRead
pub mod FieldsInOrder
pub mod PartsInOrder
pub mod PartsEnd
pub mod BitsStand
pub mod ReadBack
pub mod OutcomeOfLines
pub mod ReadsExactly
pub mod RowsRead
pub mod ImageInOrder
-- What is written
pub mod Adding
pub mod RowsWritten
pub mod LinesWritten
pub mod LinesCounted
pub mod ImageAdded
