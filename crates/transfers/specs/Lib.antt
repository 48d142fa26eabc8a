-- The columns of a book's figures, and which of them a migration moves.
pub mod Columns
pub mod Transfers
