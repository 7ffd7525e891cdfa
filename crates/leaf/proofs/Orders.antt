-- The order of entries as the order of numbers, passed on from the crate of the entries.
pub use Rattle.leaf_entries.proofs.Orders.{weight, weight_at, rank_lt, against-lt, against-eq, against-gt, lt-against, eq-against}
pub use Rattle.leaf_entries.proofs.Orders.{gt-against}
pub use Rattle.leaf_entries.proofs.Orders.{is-less, is-equal, less-weight, weight-less}
pub use Rattle.leaf_entries.proofs.Orders.{rising-weights, rising-if, rising-not, all_above, all-below}
