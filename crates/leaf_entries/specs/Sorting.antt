-- What calls on a slot word answer, re-exported for the crates above.
pub use Rattle.permuter.specs.Words.{changed, made_sorted}
