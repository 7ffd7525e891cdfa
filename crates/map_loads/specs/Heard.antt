-- The calls on the map and what they leave, re-exported for the crates above.
pub use Rattle.as_map.specs.Calls.{clear, left, answers, left_after}
