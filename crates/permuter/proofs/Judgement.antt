-- What a judgement of a word tells, passed on from the crate of the answers.
pub use Rattle.slot_answers.proofs.Judgement.{Good, good-valid, good}
