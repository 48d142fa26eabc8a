-- What a source's usage and a nomination need of a book's arrays, and what contracts see of a nomination.
pub mod Inputs
pub mod Nominated
