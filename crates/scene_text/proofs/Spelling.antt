-- How lines, words, numbers and names are spelled.
-- How a text parts into lines, and a line into words.

pub mod Arguments
pub mod NumbersFit
pub mod KeyWords
pub mod NumbersRead
pub mod Numerals
pub mod PartRows
pub mod LinesSpelled
pub mod PartedBytes
pub mod LinesSplit
pub mod NumberTests
pub mod TextsApart
pub mod FirstWords
pub mod TextParts
