-- A key beside a refusal's number, passed on from the crates below: what a call that makes, moves or asks one says.
pub use Rattle.keys_moved_numbers.specs.Numbers.{numbers_in}
pub use Rattle.keys_held.specs.Held.{answer_of, holding, numbers_held, keyed_of, said_keyed}
