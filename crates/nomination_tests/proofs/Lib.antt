pub mod UsageLaws
pub mod VerifiedLaws
pub mod NominateCauses
pub mod StepCauses
