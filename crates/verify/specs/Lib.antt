-- The verify that a filing asks for, and what is stored of an entry.
pub mod Asked
pub mod StoredEntry
