pub mod Budgets
pub mod ByteVectors
pub mod Slabs
pub mod Tenancies
