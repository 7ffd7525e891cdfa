-- What each answer of the index says, by document 01's numbers.
pub use Rattle.index_put.specs.Answers.{too_few_nodes, said_added}
pub use Rattle.index_questions.specs.Answers.{said_found, said_listed}
pub use Rattle.index_remove.specs.Answers.{said_removed}
