-- Laws on a part of the input. Assumes nothing.
use Prim.Native.Nat.{ℕ, ◌+◌, ◌-◌, ◌≤◌, ◌<◌, min}
use mathlib.Core.Path.{◌≡◌, ap, sym, ◌∙◌}
use mathlib.Core.Bool.{true, false}
use mathlib.Core.List.{List}
use native.Mathlib.Omega.{arith}
use lib.ListN.{length, take, length-take}
use lib.Seq.{take_all, take-take}
use mathlib.Core.Logic.{⊎_elim}
use native.Mathlib.Nat.{add-zero}
use borrow.Author.Tests.{lt-ltb, le-ltb}
use Rattle.arena.specs.Parts.{part, put_part}
use Rattle.arena.proofs.Words.{lt-or-ge}
use Rattle.text.specs.Split.{up_to}
use Rattle.text.proofs.Splits.{take-up}
use Rattle.line_input.specs.declared.inside.Taken.{Taken}
use Rattle.line_input.specs.Input.{taken_from, taken_over}

module _ (held : ℕ) (s : List ℕ) {end more : ℕ} (e : end ≡ length (up_to 10 s)) (f : more ≡ min end (1201 - held)) where
  over-length : more ≡ length (taken_over held s)
  over-length = f ∙ simp length-take (omega arith)

  over-is : part s 0 more ≡ taken_over held s
  unfolding part
  over-is =
      ⊎_elim
      (λ h.
      let n : more ≡ 1201 - held = omega arith in
      let t : take (1201 - held) (take (length (up_to 10 s)) s) ≡ take (1201 - held) s =
      take-take (1201 - held) (length (up_to 10 s)) s (omega arith) in
      rw n (sym t ∙ ap (take (1201 - held)) (take-up 10 s)))
      (λ h.
      let n : more ≡ length (up_to 10 s) = omega arith in
      rw n (take-up 10 s ∙ sym (take_all (1201 - held) (up_to 10 s) (omega arith))))
      (lt-or-ge (1201 - held) end)

  pub line_kept : (line : List ℕ) {line' : List ℕ} → line' ≡ put_part line held (part s 0 more)
      → line' ≡ put_part line held (taken_over held s)
  line_kept line g = g ∙ ap (put_part line held) over-is

  pub line-ended : end < length s → record { used = end + 1; kept = held + more; ended = true } ≡ taken_from held s
  line-ended h = rw (← over-length, ← e, lt-ltb end (length s) h)

  pub line-open : length s ≤ end → end ≤ length s → record { used = end; kept = held + more; ended = false } ≡ taken_from held s
  line-open h k = rw (← over-length, ← e, le-ltb end (length s) h, add-zero end)
