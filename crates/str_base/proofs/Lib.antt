pub mod DecimalLemmas
pub mod Lists
pub mod Members
pub mod SameNames
pub mod Order
pub mod Tests
