pub mod ColumnLaws
pub mod ShareLaws
pub mod WhereLaws
pub mod MovingLaws
pub mod PathTransfers
