-- Keys by value, passed on from the crate of the layers: the numbers at a layer, when they fit, and what each call says.
pub use Rattle.key_layer.specs.Keys.{suffix_at, has_suffix, compare_said, shift_said, shift_by_said, unshift_said, IsTail}
unfoldable pub use Rattle.key_layer.specs.Keys.{numbers_at, reached, fits, asked, moved, new_said, allows, shiftable, suffix_from, data_from}
