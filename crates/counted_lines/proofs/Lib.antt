pub mod RowSteps
pub mod LineBytes
pub mod RowsMore
pub mod KeptLines
pub mod CountedLaws
pub mod SetLaws
pub mod BookLines
