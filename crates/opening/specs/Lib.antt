-- What opening a book answers and leaves.
pub mod Opened
