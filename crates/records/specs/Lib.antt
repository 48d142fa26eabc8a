-- The opening that a book keeps, when calls can run, and the ledger's refusals and answers as code gives them.
pub mod Opening
pub mod OpeningNumbers
pub mod Calendar
pub mod Kinds
pub mod Refusals
pub mod Answers
