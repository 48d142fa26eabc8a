-- The script's format above its groups: answers, and a run over them.
pub mod Answers
pub mod Run
pub mod GroupTexts
pub mod Writing
