mod Layouts
mod LineWords
mod Numbers
mod ScriptLines
pub mod Sending
mod Tables
pub mod Telling
mod WholeLines
