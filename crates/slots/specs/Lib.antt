-- A book's figures, postings and evidence by holder, place and slot, and the ledger that stands in them.
pub mod Cells
pub mod Groups
pub mod Coverage
pub mod Layout
pub mod Months
pub mod Sums
pub mod Steps
pub mod TierCall
