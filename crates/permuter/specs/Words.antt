-- What each call on a slot word answers, passed on from the crate of the answers.
pub use Rattle.slot_answers.specs.Words.{word_rules, changed, asked, made_sorted, made_empty}
