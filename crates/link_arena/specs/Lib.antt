pub mod HeadLists
pub mod NameOrders
pub mod Rows
pub mod Sides
pub mod OneSide
pub mod Arenas
