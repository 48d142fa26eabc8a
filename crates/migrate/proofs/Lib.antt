pub mod LineCauses
pub mod GroupTransfers
pub mod SlotTests
pub mod CoveredLaws
pub mod MigratedFigures
pub mod MigrateSteps
pub mod TakenApart
pub mod ColumnSteps
