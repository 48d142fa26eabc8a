pub mod EvidenceBounds
pub mod EvidenceRange
