-- Laws of a put that is counted, re-exported for the crates above.
pub use Rattle.index_counted.proofs.Lent.{lent-is-put}
pub use Rattle.index_counted.proofs.Kept.{put-counted}
