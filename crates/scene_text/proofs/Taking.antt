-- How the lines of a text build a scene, one after the other.
-- Each line that is taken keeps the limits, and adds itself to the lines that stand.

pub mod LinesComplete
pub mod LedToEnd
pub mod EntryLines
pub mod Finished
pub mod TableNumbers
pub mod TableGrows
pub mod HeadLines
pub mod BuildCalls
pub mod StatesKept
pub mod TransactionLines
pub mod OperationLines
pub mod LinesInOrder
pub mod SectionLines
pub mod SessionLines
pub mod TransactionEnds
pub mod LinesTaken
pub mod TableRoom
pub mod WholeDrafts
pub mod WiderLimits
