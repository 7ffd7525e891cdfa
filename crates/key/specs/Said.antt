-- The answers of the calls on keys by document 01's numbers, passed on from the crate of the layers.
pub use Rattle.key_layer.specs.Said.{numbers_of, truth, said_made, said_moved, said_word, said_count, said_told, said_compared, said_judged}
