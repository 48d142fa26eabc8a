-- What the book group comes to: the opening of the book, or the refusal, and the bytes that it takes.
pub mod BookGroup
