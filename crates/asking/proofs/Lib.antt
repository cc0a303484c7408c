-- The walk
pub mod EdgeTaken
pub mod PathEnd
pub mod Walking
pub mod Visiting
-- Turns
pub mod TurnsByDivision
-- The figures of a sheet
pub mod SheetFigures
-- The rest of a round
pub mod NearestTurn
