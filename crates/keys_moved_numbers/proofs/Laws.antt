-- What the plain calls say of a key, as numbers alone: a law for each case of their answers. Assumes nothing.
use Prim.Native.Nat.{ℕ}
use mathlib.Core.Path.{◌≡◌, ap, ◌∙◌}
use Rattle.refusal.specs.declared.Refusal.{Refusal}
use Rattle.refusal.specs.Refusals.{number_of}
use Rattle.refusal.specs.Answer.{Answer}
use Rattle.key_layer.specs.declared.Layer.{Layer}
use Rattle.key_layer.specs.declared.Refused.{Refused}
use Rattle.std.specs.Prelude.{Result, Ok, Err}
use Rattle.key_layer.specs.Said.{said_made, said_moved}
use Rattle.keys_moved_numbers.specs.declared.Numbers.{Numbers}
use Rattle.keys_moved_numbers.specs.Numbers.{numbers_in}

-- a number beside a layer's
abbrev beside : ℕ → Layer → Numbers
beside n at = record { refusal = n; ikey = at.ikey; shift_count = at.shift_count; suffix_start = at.suffix_start }

module _ {answer : Result Layer Refused} where
  pub moved_at : {at : Layer} → answer ≡ Ok at → beside 0 at ≡ numbers_in (said_moved answer)
  moved_at e = rw e

  pub moved-refused : {w : Refused} {n : ℕ} → answer ≡ Err w → n ≡ number_of w.why → beside n w.layer ≡ numbers_in (said_moved answer)
  moved-refused e f = rw (e, f)

module _ {answer : Result Layer Refusal} where
  pub made_at : {at : Layer} → answer ≡ Ok at → beside 0 at ≡ numbers_in (said_made answer)
  made_at e = rw e

  pub made-refused : {why : Refusal} {n : ℕ} → answer ≡ Err why → n ≡ number_of why
      → record { refusal = n; ikey = 0; shift_count = 0; suffix_start = 0 } ≡ numbers_in (said_made answer)
  made-refused e f = rw (e, f)

-- numbers of an answer, and the answer is known
pub numbers-then : {r : Numbers} {a b : Answer} → r ≡ numbers_in a → a ≡ b → r ≡ numbers_in b
numbers-then h e = h ∙ ap numbers_in e

pub ruleset numbers = (moved_at, moved-refused, made_at, made-refused, numbers-then)
