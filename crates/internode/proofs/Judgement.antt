-- Ikeys that rise up to a place, passed on from the crate of the places.
pub use Rattle.internode_places.proofs.Judgement.{RisesTo, rises-more}
