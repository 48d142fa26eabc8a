pub mod KeptOpening
pub mod LegalityLaws
