-- The entries of a leaf that are in use, whatever its word is. Assumes nothing.
use Prim.Native.Nat.{ℕ, ◌+◌, ◌*◌, ◌/◌, ◌%◌, ◌≤◌, ◌<◌}
use mathlib.Core.Path.{◌≡◌, refl, sym, ap, ◌∙◌}
use mathlib.Core.Bool.{Bool, true, false, cond}
use mathlib.Core.List.{List, map}
use native.Mathlib.Decide.{dec_lt}
use native.Mathlib.Omega.{arith}
use lib.Dec.{eqb}
use lib.ListN.{length, get_or, length-map, get_or-eq_default}
use lib.Seq.{length-take-le, get_or-take}
use Rattle.bank.specs.Bank.{slot_at}
use Rattle.nibbles.proofs.Nibbles.{length-nibbles}
use Rattle.leaf.specs.Entries.{Entry}
use Rattle.leaf.specs.Leaf.{none, slots_in_use, slots_of}
use Rattle.leaf.proofs.Lists.{get_d_map}
use Rattle.arena.specs.Layout.{word_at}
use Rattle.forest.specs.Nodes.{entry_at, entries_at}
use Rattle.forest.specs.Trees.{Key, Ref, cell, link, seen_as}

module _ (nodes : List ℕ) (n word : ℕ) (w : word ≡ word_at nodes n 1) where
  used : entries_at nodes n ≡ map (entry_at nodes n) (slots_in_use (slots_of word))
  unfolding entries_at
  used = ap (λ (x : ℕ). map (entry_at nodes n) (slots_in_use (slots_of x))) (sym w)

  in-width : word % 16 ≤ length (slots_of word).slots
  in-width = rw (length-nibbles 15 (word / 16)) (omega arith)

  used-slots : length (slots_in_use (slots_of word)) ≡ word % 16
  used-slots = length-take-le (word % 16) (slots_of word).slots in-width

  pub entries-length : length (entries_at nodes n) ≡ word % 16
  entries-length = ap length used ∙ length-map (slots_in_use (slots_of word)) (entry_at nodes n) ∙ used-slots

  pub entry_here : (i : ℕ) {slot : ℕ} → i < word % 16 → slot ≡ slot_at i (slots_of word)
      → get_or (entries_at nodes n) i none ≡ entry_at nodes n slot
  entry_here i {slot} l e =
      ap (λ (es : List Entry). get_or es i none) used
      ∙ get_d_map (entry_at nodes n) (slots_in_use (slots_of word)) i 0 none (let z : i < length (slots_in_use (slots_of word)) = rw used-slots l in z)
      ∙ ap (entry_at nodes n) (get_or-take (word % 16) (slots_of word).slots i 0 l ∙ sym e)

  -- a leaf with an entry stands in memory
  pub in_memory : (i : ℕ) → i < word % 16 → 2 + n * 47 + 1 < length nodes
  in_memory i l =
      elim (dec_lt (2 + n * 47 + 1) (length nodes)) [
        | yes h ↦ h
        | no h ↦ let z : length nodes ≤ 2 + n * 47 + 1 = omega arith in
            absurd (omega (arith, get_or-eq_default nodes 0 {n = 2 + n * 47 + 1} z))
      ]

-- an entry is seen under its ikey, whether it is stored whole or a link
pub seen-ikey : (e : Entry) → (seen_as e).0.0 ≡ e.ikey
unfolding seen_as
seen-ikey e = by (eqb e.class 10)
  where
    by : (b : Bool) → (cond {A = Key × Ref} b ((e.ikey, 9), link e.at) ((e.ikey, e.class), cell e.at)).0.0 ≡ e.ikey
    by true = refl
    by false = refl
