-- What the program has to know of its numbers before it shares out records.
pub mod Bounds
pub mod Tables
