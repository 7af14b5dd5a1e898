pub mod Alignments
pub mod Layouts
pub mod LentHandles
pub mod Makers
pub mod ManyCalls
pub mod OpenHandles
pub mod Repr
