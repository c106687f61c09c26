-- Scenes without a conflict, in which no transaction depends on another.

pub mod Empty
pub mod OnePut
pub mod FallingClock
pub mod BlindPuts
pub mod WriteSkew
pub mod GreatestReading
pub mod ByteValues
pub mod WrappingAndUnmetNeed
pub mod Transfer
pub mod MessageNotSent
pub mod WriteAndReadFromAfar
pub mod ParkedPrepare
