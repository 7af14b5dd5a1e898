pub mod ListParts
pub mod PartyNumbers
pub mod Seatings
