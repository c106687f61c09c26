-- The first bad line of a text, and why it is bad.
-- A text has one, or is that of one scene.

pub mod RefusedLines
pub mod FirstBadLaws
pub mod FirstLine
pub mod ReaderKnows
pub mod FirstLines
