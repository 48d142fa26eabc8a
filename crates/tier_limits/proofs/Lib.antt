pub mod PathSumLaws
pub mod LimitLaws
pub mod EvidenceSlots
pub mod TenYearLaws
