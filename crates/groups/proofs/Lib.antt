pub mod GroupLaws
pub mod HeadLaws
pub mod OutcomeLaws
