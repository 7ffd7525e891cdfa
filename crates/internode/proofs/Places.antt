-- Laws of the place after the last that passes a test, passed on from the crate of the places.
pub use Rattle.internode_places.proofs.Places.{last_none, last-here, last-parts}
