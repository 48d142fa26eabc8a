-- How a nomination's causes are cut.
pub mod CauseOrder
