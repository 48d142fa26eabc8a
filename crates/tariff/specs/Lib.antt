-- The tariff's rules on numbers, as document 01 condenses them. One rule to a definition.
pub mod Sizes
pub mod Numbers
pub mod Sum
pub mod Settings
pub mod Eligible
pub mod Terms
pub mod Limit
pub mod Ranges
