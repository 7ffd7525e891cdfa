-- Lists and tests on their members, passed on from the crate of the entries.
unfoldable pub use Rattle.leaf_entries.specs.Lists.{every, first_where}
