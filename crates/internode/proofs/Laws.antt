-- What the calls mean, passed on from the crates below: the place of an insertion, the child of a descent, and the lists of ikeys and of
-- children after an insertion.
pub use Rattle.internode_places.proofs.Laws.{first_below, first-not-below, fresh-rises, last-is-first}
pub use Rattle.internode_places.proofs.Laws.{position-most, position-before, position_at, child-most, child-left, child-right}
pub use Rattle.internode_inserts.proofs.Laws.{among-rest, inserted-keys, inserted-children, inserted-good, fresh-good}
