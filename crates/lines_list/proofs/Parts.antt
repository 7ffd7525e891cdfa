-- Laws on the part of the bytes that a key takes up. Assumes nothing.
use Prim.Native.Nat.{ℕ, ◌-◌, ◌*◌, ◌/◌, ◌<◌}
use mathlib.Core.Path.{◌≡◌, sym, ◌∙◌}
use mathlib.Core.List.{List}
use native.Mathlib.Omega.{arith}
use lib.ListN.{length, take, drop, length-drop, drop_of_length-le}
use lib.Seq.{take_all, take-nil, drop-length}
use Rattle.arena.specs.Parts.{part}

module _ (s : List ℕ) where
  pub part-beyond : (cell n : ℕ) → length s / 256 < cell → take (length s - length s) (drop (length s) s) ≡ part s (cell * 256) n
  unfolding part
  part-beyond cell n h =
      rw (drop-length s, drop_of_length-le s {i = cell * 256} (omega arith), take-nil, take-nil)

  pub part_cut : (at n : ℕ) → length s - at < n → take (length s - at) (drop at s) ≡ part s at n
  unfolding part
  part_cut at n h =
      take_all (length s - at) (drop at s) (rw (length-drop at s) (omega arith))
      ∙ sym (take_all n (drop at s) (rw (length-drop at s) (omega arith)))
