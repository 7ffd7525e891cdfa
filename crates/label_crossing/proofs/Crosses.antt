-- What each case of a reader's answer leaves for C: a label its edition and fields, anything else 19 and the edition byte. Assumes nothing.
use Prim.Native.Nat.{ℕ}
use mathlib.Core.Path.{◌≡◌, refl}
use mathlib.Core.List.{List, [], ◌∷◌}
use Rattle.std.specs.Prelude.{Result, Ok, Err}
use Rattle.label_read.specs.declared.Label.{Label}
use Rattle.label_read.specs.declared.Label.TheVariants.{First, Second}
use Rattle.label_read.specs.declared.FirstLabel.{FirstLabel}
use Rattle.label_read.specs.declared.Unknown.{Unknown}
use Rattle.label_read.specs.Answers.{said_label, said_first_label}
use Rattle.crossing.specs.Told.{CrossedBoth}

module _ {answer : Result Label Unknown} {before : List ℕ} {told : ℕ} where
  pub label-first : {s b f : ℕ} → answer ≡ Ok (First s b f)
      → CrossedBoth (said_label answer) 0 before (1 ∷ s ∷ b ∷ f ∷ []) (told ∷ []) (told ∷ [])
  label-first e = rw e (record { number = refl; values = refl; told = refl })

  pub label-second : {s b f : ℕ} → answer ≡ Ok (Second s b f)
      → CrossedBoth (said_label answer) 0 before (2 ∷ s ∷ b ∷ f ∷ []) (told ∷ []) (told ∷ [])
  label-second e = rw e (record { number = refl; values = refl; told = refl })

  pub label-unknown : {u : Unknown} → answer ≡ Err u
      → CrossedBoth (said_label answer) 19 before before (told ∷ []) (u.edition ∷ [])
  label-unknown e = rw e (record { number = refl; values = refl; told = refl })

module _ {answer : Result FirstLabel Unknown} {before : List ℕ} {told : ℕ} where
  pub first-fields : {l : FirstLabel} → answer ≡ Ok l
      → CrossedBoth (said_first_label answer) 0 before (l.station ∷ l.burst ∷ l.frame ∷ []) (told ∷ []) (told ∷ [])
  first-fields e = rw e (record { number = refl; values = refl; told = refl })

  pub first-unknown : {u : Unknown} → answer ≡ Err u
      → CrossedBoth (said_first_label answer) 19 before before (told ∷ []) (u.edition ∷ [])
  first-unknown e = rw e (record { number = refl; values = refl; told = refl })

pub ruleset crossings = (label-first, label-second, label-unknown, first-fields, first-unknown)
