-- Lists of ikeys and of children, passed on from the crates below: their order, places in them, and insertion.
pub use Rattle.internode_places.specs.Lists.{below, here_or_later, one_more_or}
unfoldable pub use Rattle.internode_places.specs.Lists.{rising, first, after_last, inserted_at}
unfoldable pub use Rattle.internode_inserts.specs.Insert.{inserted_among}
