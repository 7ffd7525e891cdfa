-- What each case of an answer says by document 01's numbers, passed on from the crate of the answers.
pub use Rattle.slot_answers.specs.Answers.{said_changed, said_inserted, said_told, said_made}
