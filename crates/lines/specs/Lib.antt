-- A script's text: bytes, lines and rows, how they are read, and how numbers are written.
pub mod Text
pub mod Rows
pub mod Words
pub mod Reading
pub mod Writing
