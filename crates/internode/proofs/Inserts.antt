-- What stands where in a list with one more, passed on from the crate of the places.
pub use Rattle.internode_places.proofs.Inserts.{inserted-length, inserted-before, inserted-here, inserted-after}
