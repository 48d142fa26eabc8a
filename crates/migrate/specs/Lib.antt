-- Class lines in slices.
pub mod Lines
pub mod ClassLines
