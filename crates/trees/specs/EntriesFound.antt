-- The search and the removal of a key K among the entries of the layers.
use Rattle.std.specs.Prelude.{List, ℕ, zero, suc}
use Rattle.std.proofs.Common.{inl, inr}
use Rattle.std.proofs.Math.Option.{Option, none, some}
use Rattle.order.specs.Bytes.{bytewise}
use Rattle.order.specs.Map.{alter, lookup, pick}
use Rattle.order.specs.Options.{map_option}
use Rattle.trees.specs.Nodes.{IkeyClass, layer_order}
use Rattle.trees.specs.Paths.{layer_key, path_down}
use Rattle.trees.specs.Entries.{EntryValue, cell_key}

-- f of what is there, if anything is
abbrev pub through : {W A : Type 0} → (W → Option A) → Option W → Option A
through f none = none
through f (some w) = f w

module _ (at : ℕ → List ℕ × ℕ) (K : List ℕ) where
  -- the cell b, if it has the key
  abbrev pub cell_asked : ℕ → Option ℕ
  cell_asked b = pick (bytewise K (cell_key at b)) none (some b) none

  -- the cell below an entry that has the key
  abbrev pub value_find : (l : ℕ) → List ℕ → EntryValue l → Option ℕ
  value_find zero ks b = cell_asked b
  value_find (suc l) ks (inl b) = cell_asked b
  value_find (suc l) ks (inr es) = through (value_find l (path_down K ks)) (lookup layer_order (layer_key (path_down K ks) K) es)

  -- the cell below the entries of a layer that has the key
  abbrev pub entries_find : (l : ℕ) → List ℕ → List (IkeyClass × EntryValue l) → Option ℕ
  entries_find l ks es = through (value_find l ks) (lookup layer_order (layer_key ks K) es)

  -- the frame in the cell that was found
  abbrev pub frame_found : Option ℕ → Option ℕ
  frame_found o = map_option (λ b. (at b).1) o

  -- what is left of an entry without the key: nothing of its cell; an emptied layer stays
  abbrev pub value_without : (l : ℕ) → List ℕ → EntryValue l → Option (EntryValue l)
  value_without zero ks b = pick (bytewise K (cell_key at b)) (some b) none (some b)
  value_without (suc l) ks (inl b) = pick (bytewise K (cell_key at b)) (some (inl b)) none (some (inl b))
  value_without (suc l) ks (inr es) =
      some (inr (alter layer_order (layer_key (path_down K ks) K) (through (value_without l (path_down K ks))) es))
