pub mod RequestLaws
pub mod CaseOne
pub mod GroupTextLaws
pub mod AnswerLaws
pub mod WritableLaws
pub mod RunGroupLaws
pub mod RunLaws
pub mod ScriptLaws
