-- What is heard at each call on memory that is a tree: what the sorted map says. Assumes nothing.
use mathlib.Core.Path.{◌≡◌, refl, ap, ◌∙◌}
use mathlib.Core.Bool.{Bool, true, false, cond, not}
use mathlib.Core.List.{List, [], ◌∷◌, map}
use mathlib.Core.Option.{Option, none, some}
use Prim.Native.Nat.{ℕ, zero, suc}
use native.Mathlib.Omega.{arith}
use lib.Dec.{T, leb, ltb, leb-zero, leb-suc-zero, leb-suc-suc}
use lib.ListN.{length, get_or}
use Rattle.bank.proofs.Tests.{is_true}
use Rattle.refusal.specs.Answer.{◌unless◌, ◌telling◌, answered}
use Rattle.order.specs.Bytes.{Bytes, bytewise}
use Rattle.order.specs.Map as order
use Rattle.arena.specs.Memory.{Memory, right_lengths, cleared}
use Rattle.forest.specs.Walk.{is_tree}
use Rattle.forest.specs.IsTree.{Layers, IsTree, listing}
use Rattle.forest.proofs.Accepts.{tree-accepted}
use Rattle.model.specs.Calls.{place, stored, frame_of, in_key_order, entry_of, find_said, kth_said, count_said, removed, put_done}
use Rattle.model.specs.Calls.{has_cell, has_nodes, lacking, with_entry, rests_in}
use Rattle.views.proofs.Listed.{key_and_frame, cells-listed}
use Rattle.places.proofs.Found.{as_list, is_some, stored-lookup, frame-lookup}
use Rattle.as_map.specs.Calls.{Call, clear, put, find, remove, kth, count, OfBytes, Heard, done, frame, entry, counted, refusal}
use Rattle.as_map.specs.Calls.{refused}
use Rattle.as_map.specs.Calls.{heard_of, heard, key_told, room_for}
use Rattle.as_map.specs.Map.{whether, map_says}

-- ---- the rules of each call, once memory is a tree: `short` for a key of at most 256 bytes, `found` for what the map has

find-ruled : (short : Bool) (found : Option ℕ)
    → heard_of (answered ((7 unless short) ∷ (10 unless true) ∷ (12 unless is_some found) ∷ []) (as_list found) [])
    (λ values. frame (get_or values 0 0))
    ≡ cond short (whether (refused 12) frame found) (refused 7)
find-ruled true none = refl
find-ruled true (some x) = refl
find-ruled false found = refl

remove-ruled : (short : Bool) (found : Option ℕ)
    → heard_of (answered ((7 unless short) ∷ (10 unless true) ∷ (12 unless is_some found) ∷ []) [] []) (λ values. done)
    ≡ cond short (whether (refused 12) (λ y. done) found) (refused 7)
remove-ruled true none = refl
remove-ruled true (some x) = refl
remove-ruled false found = refl

put-ruled : (short : Bool) (found : Option ℕ) (cell nodes : Bool) (n : ℕ) (told : List ℕ)
    → heard_of
    (answered
    ((7 unless short) ∷ (10 unless true) ∷ (11 unless not (is_some found)) ∷ (13 unless cell) ∷ ((14 unless nodes) telling (n ∷ [])) ∷ [])
    told []) (λ values. done)
    ≡ cond short (whether (cond cell (cond nodes done (refusal 14 (n ∷ []))) (refused 13)) (λ y. refused 11) found) (refused 7)
put-ruled true none true true n told = refl
put-ruled true none true false n told = refl
put-ruled true none false nodes n told = refl
put-ruled true (some x) cell nodes n told = refl
put-ruled false found cell nodes n told = refl

-- the k-th of a list, seen through f
kth-ruled : (f : ℕ → List ℕ × ℕ) (k : ℕ) (cells : List ℕ)
    → cond (ltb k (length cells)) (entry (f (get_or cells k 0)).0 (f (get_or cells k 0)).1) (refused 12)
    ≡ whether (refused 12) (λ (e : List ℕ × ℕ). entry e.0 e.1) (order.kth k (map f cells))
unfolding order.kth
kth-ruled f k [] = rw (leb-suc-zero k) refl
kth-ruled f zero (c ∷ cells) = rw (leb-suc-suc 0 (length cells), leb-zero (length cells)) refl
kth-ruled f (suc k) (c ∷ cells) = rw (leb-suc-suc (suc k) (length cells)) (kth-ruled f k cells)

kth-told : (within : Bool) (told : List ℕ) (tell : List ℕ → Heard)
    → heard_of (answered ((10 unless true) ∷ (12 unless within) ∷ []) told []) tell ≡ cond within (tell told) (refused 12)
kth-told true told tell = refl
kth-told false told tell = refl

-- ---- what is heard

-- clear, on any lent memory of right lengths
pub clear-says : (m : Memory) → T (right_lengths (length m.nodes) (length m.cells) (length m.bytes)) → heard m clear ≡ done
unfolding cleared
clear-says m lent = rw (is_true (right_lengths (length m.nodes) (length m.cells) (length m.bytes)) lent) refl

module _ (m : Memory) (v : Layers) (t : IsTree m v) (bytes : Bytes m.bytes) where
  pub accepted : is_tree m ≡ true
  accepted = is_true (is_tree m) (tree-accepted m v t)

  module _ (key : List ℕ) (b : Bytes key) where
    abbrev found : Option ℕ
    found = order.lookup bytewise key (listing m v)

    find-says : heard m (find key) ≡ map_says (room_for m (find key)) (listing m v) (find key)
    unfolding find_said
    find-says =
        rw (accepted, stored-lookup m v t.forest bytes key b, frame-lookup m v t.forest bytes key b)
        (find-ruled (leb (length key) 256) found)

    remove-says : heard m (remove key) ≡ map_says (room_for m (remove key)) (listing m v) (remove key)
    unfolding removed
    remove-says = rw (accepted, stored-lookup m v t.forest bytes key b) (remove-ruled (leb (length key) 256) found)

    put-says : (x : ℕ) → heard m (put key x) ≡ map_says (room_for m (put key x)) (listing m v) (put key x)
    unfolding put_done
    put-says x =
        rw (accepted, stored-lookup m v t.forest bytes key b)
        (put-ruled (leb (length key) 256) found (has_cell m) (has_nodes m key) (lacking m key) (rests_in (with_entry m key x) key))

  kth-says : (k : ℕ) → heard m (kth k) ≡ map_says (room_for m (kth k)) (listing m v) (kth k)
  unfolding kth_said
  kth-says k =
      rw accepted
      (kth-told (ltb k (length (in_key_order m))) (entry_of m (get_or (in_key_order m) k 0)) (λ values. entry (key_told m values) (get_or values 2 0))
      ∙ kth-ruled (key_and_frame m.cells m.bytes) k (in_key_order m)
      ∙ ap (λ (xs : order.Map). whether (refused 12) (λ (e : List ℕ × ℕ). entry e.0 e.1) (order.kth k xs))
      (cells-listed m v t.forest))

  count-says : heard m count ≡ map_says (room_for m count) (listing m v) count
  unfolding count_said
  count-says =
      rw (is_true (right_lengths (length m.nodes) (length m.cells) (length m.bytes)) t.forest.lent) (ap counted t.counted)

  -- every call hears what the map says
  pub says : (call : Call) → OfBytes call → heard m call ≡ map_says (room_for m call) (listing m v) call
  says clear b = clear-says m t.forest.lent
  says (put key x) b = put-says key b x
  says (find key) b = find-says key b
  says (remove key) b = remove-says key b
  says (kth k) b = kth-says k
  says count b = count-says

-- ---- a stored key, by the listing

pub stored-means : (m : Memory) (v : Layers) → IsTree m v → Bytes m.bytes → (key : List ℕ) → Bytes key
    → (stored m key ≡ true → (x : ℕ) × (order.lookup bytewise key (listing m v) ≡ some x) × (frame_of m (place m key) ≡ x ∷ []))
    × (stored m key ≡ false → order.lookup bytewise key (listing m v) ≡ none)
stored-means m v t bytes key b =
    go (stored m key) (order.lookup bytewise key (listing m v)) (stored-lookup m v t.forest bytes key b)
    (frame-lookup m v t.forest bytes key b)
  where
    go : (there : Bool) (found : Option ℕ) → there ≡ is_some found → frame_of m (place m key) ≡ as_list found
        → (there ≡ true → (x : ℕ) × (found ≡ some x) × (frame_of m (place m key) ≡ x ∷ [])) × (there ≡ false → found ≡ none)
    go there none e f = (λ q. let z : ◌≡◌ {A = ℕ} 0 1 = cc in absurd (omega arith), λ q. refl)
    go there (some x) e f = (λ q. (x, refl, f), λ q. let z : ◌≡◌ {A = ℕ} 0 1 = cc in absurd (omega arith))
