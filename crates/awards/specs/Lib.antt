-- What the queries on holdings need of a book's figures.
pub mod Holdings
