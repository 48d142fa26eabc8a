-- The load that a caller posts, and the test on its blocks.
pub mod Loads
