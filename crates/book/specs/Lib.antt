-- The arrays and the ledger that stand in a book, what its calls return, the season theorem, and what number 19 left as it was.
pub mod BookArrays
pub mod Reading
pub mod Outcomes
pub mod Reachable
pub mod Opened
pub mod SeasonTheorem
pub mod UnchangedFigures
