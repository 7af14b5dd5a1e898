pub mod Bump
pub mod SharedBump
pub mod SharedBumpRule
