-- Groups of rows: what they ask of a book, and what it answers to one.
pub mod Groups
pub mod Outcome
