mod Layouts
mod Telling
