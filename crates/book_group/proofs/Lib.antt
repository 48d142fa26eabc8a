pub mod CutLists
pub mod BookGroupLaws
