-- What the audit answers.
use Rattle.std.specs.Prelude.{[], Result, Ok, Err}
use Rattle.refusal.specs.declared.Refusal.{Refusal}
use Rattle.refusal.specs.Answer.{Answer, accepted, refused}
unfoldable pub use Rattle.audit_said.specs.Audited.{audited}

-- an audit: 0, or the refusal's number
abbrev pub said_audited : Result (Unit {0}) Refusal → Answer
said_audited (Ok _) = accepted []
said_audited (Err why) = refused why []
