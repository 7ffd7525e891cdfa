-- What a machine must be like that its numbers stay small.
use Rattle.std.specs.Prelude.{ℕ, ◌+◌, ◌*◌, ◌≤◌}
use Rattle.card_fields.specs.declared.Fields.{Fields}
use Rattle.card_fields.specs.declared.Stage.{Stage}
use Rattle.card_fields.specs.declared.Stage.TheVariants.{Counting, Measuring, Naming, Framing, Filling, Stopped}

-- how many bytes may still come from the present field on, but for the entries behind the present one and the zeros
abbrev pub reserve : Stage → ℕ → ℕ
reserve Counting need = 68400
reserve Measuring need = 770
reserve Naming need = need + 512
reserve Framing need = 512
reserve Filling need = 1
reserve Stopped need = 0

-- the place stays below 70,000, and fields and keys within what is lent
pub record Fits (s : Fields) : Type 0 where
  pub inside : s.held ≤ 255
  pub short : s.need ≤ 256
  pub named : s.last ≤ 257
  pub room : s.place + 266 * s.left + s.zeros + reserve s.stage s.need ≤ 70000
