-- What a limit and evidence need of a book's arrays, and the sums that a limit is made of.
pub mod Inputs
pub mod PathSums
