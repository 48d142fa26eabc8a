pub mod OutcomeBooks
pub mod EmptyBook
pub mod ReachableSteps
pub mod OpenedLaws
pub mod SeasonAnswers
pub mod SeasonTheorem
pub mod UnchangedFigures
pub mod NextBooks
