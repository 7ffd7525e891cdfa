-- Laws of strictly rising lists, passed on from the crate of the places.
pub use Rattle.internode_places.proofs.Rising.{is_true, is_false, rising-next, rising-all, rising-lt, rising-take, rising-drop}
