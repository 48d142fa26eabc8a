pub mod RuledOut
pub mod Transfers
pub mod Products
pub mod Pairs
pub mod FitLines
pub mod NettedLines
pub mod ShareCells
