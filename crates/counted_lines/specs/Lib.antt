-- The rows that a head counts, and those of the book group, as lists.
pub mod Counted
pub mod BookLines
