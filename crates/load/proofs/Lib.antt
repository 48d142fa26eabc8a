pub mod BlockLaws
pub mod LoadLaws
pub mod CountedColumns
