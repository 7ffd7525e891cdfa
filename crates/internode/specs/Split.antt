-- The split of a full internode with one key more, passed on from the crate of the insertions.
pub use Rattle.internode_inserts.specs.Split.{shifted, node_of, cut_at, keys_with, children_with}
unfoldable pub use Rattle.internode_inserts.specs.Split.{split_of}
