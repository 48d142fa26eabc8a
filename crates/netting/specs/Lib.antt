-- What a migration moves, as document 01 condenses it. One rule to a definition.
pub mod Migration
pub mod ClassRanges
pub mod Netting
pub mod Columns
