-- What each case of an answer of the keys leaves for C: an accepted one its values, a refused one its number alone. Assumes nothing.
use Prim.Native.Nat.{ℕ}
use mathlib.Core.Path.{◌≡◌, refl, ap}
use mathlib.Core.List.{[], ◌∷◌}
use Rattle.refusal.specs.declared.Refusal.{Refusal}
use Rattle.refusal.specs.Refusals.{number_of}
use Rattle.std.specs.declared.cmp.Ordering.{Ordering}
use Rattle.std.specs.declared.cmp.Ordering.TheVariants as order_is
use Rattle.ikey.specs.Said.{place, order_of, said_whole}
use Rattle.key_layer.specs.declared.Layer.{Layer}
use Rattle.key_layer.specs.declared.Refused.{Refused}
use Rattle.std.specs.Prelude.{Result, Ok, Err}
use Rattle.key.specs.Said.{said_made, said_moved, said_compared, numbers_of}
use Rattle.crossing.specs.Crossing.{Crossed}
use Rattle.crossing.proofs.Crosses.{refusal-crosses}

module _ {order : Ordering} where
  pub less-0 : order ≡ order_is.Less → 0 ≡ place (order_of order)
  less-0 e = rw e refl

  pub equal-1 : order ≡ order_is.Equal → 1 ≡ place (order_of order)
  equal-1 e = rw e refl

  pub greater-2 : order ≡ order_is.Greater → 2 ≡ place (order_of order)
  greater-2 e = rw e refl

module _ {answer : Result Ordering Refusal} where
  pub whole-order : {o : Ordering} {new before : ℕ} → answer ≡ Ok o → new ≡ place (order_of o) →
      Crossed (said_whole answer) 0 (before ∷ []) (new ∷ [])
  whole-order e n = rw e (record { number = refl; lent = ap (λ (x : ℕ). x ∷ []) n })

  pub whole-refused : {why : Refusal} {before r : ℕ} → answer ≡ Err why → r ≡ number_of why →
      Crossed (said_whole answer) r (before ∷ []) (before ∷ [])
  whole-refused {why} {before} e n = rw e (refusal-crosses why [] (before ∷ []) n)

module _ {answer : Result Ordering Refused} where
  pub compared-order : {o : Ordering} {new before : ℕ} → answer ≡ Ok o → new ≡ place (order_of o) →
      Crossed (said_compared answer) 0 (before ∷ []) (new ∷ [])
  compared-order e n = rw e (record { number = refl; lent = ap (λ (x : ℕ). x ∷ []) n })

  pub compared-refused : {w : Refused} {before r : ℕ} → answer ≡ Err w →
      r ≡ number_of w.why → Crossed (said_compared answer) r (before ∷ []) (before ∷ [])
  compared-refused {w} {before} e n = rw e (refusal-crosses w.why (numbers_of w.layer) (before ∷ []) n)

module _ {answer : Result Layer Refusal} where
  pub made_at : {key : Layer} {a b c : ℕ} → answer ≡ Ok key →
      Crossed (said_made answer) 0 (a ∷ b ∷ c ∷ []) (key.ikey ∷ key.shift_count ∷ key.suffix_start ∷ [])
  made_at e = rw e (record { number = refl; lent = refl })

  pub made-refused : {why : Refusal} {a b c r : ℕ} → answer ≡ Err why → r ≡ number_of why →
      Crossed (said_made answer) r (a ∷ b ∷ c ∷ []) (a ∷ b ∷ c ∷ [])
  made-refused {why} {a} {b} {c} e n = rw e (refusal-crosses why [] (a ∷ b ∷ c ∷ []) n)

module _ {answer : Result Layer Refused} where
  pub moved_at : {key : Layer} {a b c : ℕ} → answer ≡ Ok key →
      Crossed (said_moved answer) 0 (a ∷ b ∷ c ∷ []) (key.ikey ∷ key.shift_count ∷ key.suffix_start ∷ [])
  moved_at e = rw e (record { number = refl; lent = refl })

  pub moved-refused : {w : Refused} {a b c r : ℕ} → answer ≡ Err w → r ≡ number_of w.why →
      Crossed (said_moved answer) r (a ∷ b ∷ c ∷ []) (a ∷ b ∷ c ∷ [])
  moved-refused {w} {a} {b} {c} e n = rw e (refusal-crosses w.why (numbers_of w.layer) (a ∷ b ∷ c ∷ []) n)
