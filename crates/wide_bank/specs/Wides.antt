-- What each call on a wide bank answers, passed on from the crate of the answers.
pub use Rattle.wide_answers.specs.Wides.{wide_rules, changed, asked, made_sorted, made_empty}
