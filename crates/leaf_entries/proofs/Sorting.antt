-- Laws of a slot word that was inserted into, re-exported for the crates above.
pub use Rattle.permuter.proofs.History.{Fit, size-packed, slots-packed, valid-packed, fit-inserted}
