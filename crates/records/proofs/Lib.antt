pub mod CauseLaws
pub mod OpeningLaws
pub mod MetCauses
pub mod RefusalLaws
pub mod ToldRefusals
pub mod KindLaws
