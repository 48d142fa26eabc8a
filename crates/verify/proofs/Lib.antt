pub mod TermLaws
pub mod VerifyLaws
