pub mod CarryLaws
pub mod PriorLaws
