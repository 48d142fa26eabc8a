-- The load metric, as document 01 condenses it. One rule to a definition.
pub mod Load
pub mod Metering
pub mod Levels
pub mod Columns
