-- Evidence of a holder's sources: what it gives, when it counts, and what verify's numbers come to.
pub mod Evidence
pub mod Filing
pub mod Kind
