-- An entry of a leaf, and what calls on its slot word answer, re-exported for the crates above.
pub use Rattle.leaf_entries.specs.declared.Entry.{Entry}
pub use Rattle.leaf_entries.specs.Sorting.{changed, made_sorted}
