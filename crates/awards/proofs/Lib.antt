pub mod HoldingLaws
pub mod RowRoom
pub mod AwardLaws
pub mod ClearedGroups
pub mod OpenCloseLaws
