-- When a put is refused for want of room, what an accepted put takes, and what an accepted removal frees, where memory is a tree. Assumes
-- nothing.
use mathlib.Core.Path.{◌≡◌, refl, sym, ap, ◌∙◌, subst}
use mathlib.Core.Bool.{Bool, true, false, not, ◌&&◌}
use mathlib.Core.List.{List, [], ◌∷◌}
use mathlib.Core.Option.{Option, none, some}
use Prim.Native.Nat.{ℕ, suc, ◌+◌, ◌-◌, ◌*◌, ◌≤◌, ◌<◌}
use native.Mathlib.Omega.{arith}
use lib.Dec.{leb}
use lib.ListN.{length, get_or, drop, length-set}
use borrow.Author.Tests.{leb-true, leb-false, le-leb, lt-leb}
use Rattle.bank.proofs.Tests.{is_true}
use Rattle.refusal.specs.Answer.{◌unless◌, ◌telling◌, answered, accepted}
use Rattle.order.specs.Bytes.{Bytes, bytewise}
use Rattle.order.specs.Map.{lookup}
use Rattle.arena.specs.Free.{free_nodes, free_cells}
use Rattle.arena.specs.Memory.{Memory, node_count, emptied}
use Rattle.arena.proofs.Clears.{emptied-cells}
use Rattle.forest.specs.Nodes.{slots_at}
use Rattle.forest.specs.Walk.{is_tree}
use Rattle.forest.specs.IsTree.{Layers, IsTree, listing}
use Rattle.forest.proofs.Accepts.{tree-accepted}
use Rattle.forest.proofs.Cleared.{nothing, nothing_is, cells-lent}
use Rattle.model.specs.declared.Met.{Met}
use Rattle.model.specs.declared.Met.TheVariants.{Stored, Conflict, Missing}
use Rattle.model.specs.Leaves.{entry_put, entry_taken, rest_of}
use Rattle.model.specs.GivenBack.{to_give_back, all_given_back}
use Rattle.model.specs.Calls.{count_of, place, is_stored, without, without_entry}
use Rattle.model.specs.Calls.{nodes_of, cells_of, stored, needed, has_cell, has_nodes, has_room, lacking, with, put_done, removed}
use Rattle.model.specs.Calls.{with_entry, rests_at, rests_in, rests_passed}
use Rattle.places.proofs.Found.{is_some, stored-lookup}
use Rattle.places.proofs.FreedCells.{bytes-zeros}
use Rattle.places.proofs.Removed.{removed-frees}
use Rattle.puts.specs.Needed.{leading, full_upward, needed_nodes}
use Rattle.puts.proofs.Needed.{needed-as-said}
use Rattle.puts.proofs.Puts as puts
use Rattle.trees.specs.FreeNumbers.{times_in}
use Rattle.index_counted.proofs.Set.{free-kept}
use Rattle.index_counted.proofs.Kept.{remove-counted}
use Rattle.index_counted.proofs.Lent.{there, rests-passed}
use Rattle.index_given_back.specs.GaveBack.{nodes_back}
use Rattle.index_given_back.specs.Emptied.{emptied_layers}
use Rattle.index_given_back.proofs.Emptied.{back-exactly}
use Rattle.index_given_back.proofs.All.{all_back, none_left}
use Rattle.as_map.specs.Calls.{put, remove, Heard, done, frame, entry, counted, refusal, refused, heard_of, heard, left}
use Rattle.as_map.specs.Calls.{is_cell_free, nodes_enough, room_for, NoCell, FewNodes, Took, Resting, Freed}
use Rattle.as_map.proofs.Says.{says}
use Rattle.as_map.proofs.After.{refusal_of}

-- ---- no cell, and a new key

no_cells : (cells : List ℕ) → leb 1 (length cells) ≡ false → cells ≡ []
no_cells [] e = refl
no_cells (c ∷ cells) e = let h = leb-false 1 (suc (length cells)) e in absurd (omega arith)

new-missing : (found : Option ℕ) → is_some found ≡ false → found ≡ none
new-missing none e = refl
new-missing (some x) e = let z : ◌≡◌ {A = ℕ} 0 1 = cc in absurd (omega arith)

-- ---- the rules of a put and of a removal

abbrev put_ruled : Bool → Bool → Bool → Bool → Bool → ℕ → List ℕ → Heard
put_ruled short tree there cell nodes n told =
    heard_of
    (answered
    ((7 unless short) ∷ (10 unless tree) ∷ (11 unless not there) ∷ (13 unless cell) ∷ ((14 unless nodes) telling (n ∷ [])) ∷ []) told [])
    (λ values. done)

abbrev remove_ruled : Bool → Bool → Bool → Heard
remove_ruled short tree there =
    heard_of (answered ((7 unless short) ∷ (10 unless tree) ∷ (12 unless there) ∷ []) [] []) (λ values. done)

-- a refusal is told by its number
other : {h k : Heard} → h ≡ k → (refusal_of h ≡ refusal_of k → ⊥) → ⊥
other e d = d (ap refusal_of e)

-- 13 only where all rules before it hold
only-13 : (short tree there cell nodes : Bool) (n : ℕ) (told : List ℕ) → put_ruled short tree there cell nodes n told ≡ refused 13
    → (short ≡ true) × (tree ≡ true) × (there ≡ false) × (cell ≡ false)
only-13 true true false false nodes n told e = (refl, refl, refl, refl)
only-13 true true false true true n told e = absurd (other e (λ z. omega arith))
only-13 true true false true false n told e = absurd (other e (λ z. omega arith))
only-13 true true true cell nodes n told e = absurd (other e (λ z. omega arith))
only-13 true false there cell nodes n told e = absurd (other e (λ z. omega arith))
only-13 false tree there cell nodes n told e = absurd (other e (λ z. omega arith))

-- the first number that a refusal tells, else 0
abbrev told_of : Heard → ℕ
told_of done = 0
told_of (frame x) = 0
told_of (entry key x) = 0
told_of (counted n) = 0
told_of (refusal n told) = get_or told 0 0

-- 14 only where all rules before it hold, and with this number
only-14 : (short tree there cell nodes : Bool) (n k : ℕ) (told : List ℕ) → put_ruled short tree there cell nodes n told ≡ refusal 14 (k ∷ [])
    → (short ≡ true) × (tree ≡ true) × (there ≡ false) × (cell ≡ true) × (nodes ≡ false) × (n ≡ k)
only-14 true true false true false n k told e = (refl, refl, refl, refl, refl, ap told_of e)
only-14 true true false true true n k told e = absurd (other e (λ z. omega arith))
only-14 true true false false nodes n k told e = absurd (other e (λ z. omega arith))
only-14 true true true cell nodes n k told e = absurd (other e (λ z. omega arith))
only-14 true false there cell nodes n k told e = absurd (other e (λ z. omega arith))
only-14 false tree there cell nodes n k told e = absurd (other e (λ z. omega arith))

-- accepted only where all rules hold
put_only : (short tree there cell nodes : Bool) (n : ℕ) (told : List ℕ) → put_ruled short tree there cell nodes n told ≡ done
    → (short ≡ true) × (tree ≡ true) × (there ≡ false) × (cell ≡ true) × (nodes ≡ true)
put_only true true false true true n told e = (refl, refl, refl, refl, refl)
put_only true true false true false n told e = absurd (other e (λ z. omega arith))
put_only true true false false nodes n told e = absurd (other e (λ z. omega arith))
put_only true true true cell nodes n told e = absurd (other e (λ z. omega arith))
put_only true false there cell nodes n told e = absurd (other e (λ z. omega arith))
put_only false tree there cell nodes n told e = absurd (other e (λ z. omega arith))

remove-only : (short tree there : Bool) → remove_ruled short tree there ≡ done → (short ≡ true) × (tree ≡ true) × (there ≡ true)
remove-only true true true e = (refl, refl, refl)
remove-only true true false e = absurd (other e (λ z. omega arith))
remove-only true false there e = absurd (other e (λ z. omega arith))
remove-only false tree there e = absurd (other e (λ z. omega arith))

-- an entry less changes no length
without-long : (m : Memory) (o : Met) → length (without m o).nodes ≡ length m.nodes
unfolding entry_taken entry_put
without-long m (Stored lf p c) = rw (length-set, length-set, length-set, length-set) refl
without-long m (Conflict lf p c links) = refl
without-long m (Missing holder root links) = refl

-- where a key stands, so many slots of its leaf rest
resting : (after : Memory) (key : List ℕ) → stored after key ≡ true
    → (n : ℕ) × (rests_in after key ≡ n ∷ []) × Resting after key n
resting after key there = go (place after key) refl there
  where
    go : (o : Met) → place after key ≡ o → is_stored o ≡ true → (n : ℕ) × (rests_at after o ≡ n ∷ []) × Resting after key n
    go (Stored lf p c) q s = (
      rest_of (slots_at after.nodes lf).size,
      refl,
      record { leaf = lf; position = p; cell = c; stands = q; rests = omega arith },
    )
    go (Conflict lf p c links) q s = let z : ◌≡◌ {A = ℕ} 0 1 = cc in absurd (omega arith)
    go (Missing holder root links) q s = let z : ◌≡◌ {A = ℕ} 0 1 = cc in absurd (omega arith)

-- ---- where memory is a tree

module _ (m : Memory) (v : Layers) (t : IsTree m v) (bytes : Bytes m.bytes) (key : List ℕ) (b : Bytes key) where
  abbrev cells : List ℕ
  cells = free_cells m.cells (cells_of m)

  abbrev nodes : List ℕ
  nodes = free_nodes m.nodes (nodes_of m)

  tree : is_tree m ≡ true
  tree = is_true (is_tree m) (tree-accepted m v t)

  -- the key is not stored where the listing does not have it, and where that is so the put needs what document 01 counts
  new-listed : stored m key ≡ false → lookup bytewise key (listing m v) ≡ none
  new-listed e = new-missing (lookup bytewise key (listing m v)) (sym (stored-lookup m v t.forest bytes key b) ∙ e)

  new-stored : lookup bytewise key (listing m v) ≡ none → stored m key ≡ false
  new-stored e = stored-lookup m v t.forest bytes key b ∙ ap is_some e

  module _ (x : ℕ) where
    -- what an accepted put tells
    abbrev tells : List ℕ
    tells = rests_in (with_entry m key x) key

    pub put-no-cell : heard m (put key x) ≡ refused 13 → NoCell m v key
    unfolding put_done
    put-no-cell e =
        let (short, good, new, none_free) =
        only-13 (leb (length key) 256) (is_tree m) (stored m key) (has_cell m) (has_nodes m key) (lacking m key) tells e in
        record { short = leb-true (length key) 256 short; new = new-listed new; no_cell = no_cells cells none_free }

    pub no-cell-put : NoCell m v key → heard m (put key x) ≡ refused 13
    unfolding put_done
    no-cell-put l = rw (le-leb (length key) 256 l.short, tree, new-stored l.new, l.no_cell) refl

    pub put-few-nodes : (n : ℕ) → heard m (put key x) ≡ refusal 14 (n ∷ []) → FewNodes m v key n
    unfolding put_done
    put-few-nodes n e =
        let (short, good, new, cell, few, told) =
        only-14 (leb (length key) 256) (is_tree m) (stored m key) (has_cell m) (has_nodes m key) (lacking m key) n tells e in
        let fits = leb-true (length key) 256 short in
        let less : length nodes < needed m key = leb-false (needed m key) (length nodes) few in
        let same : needed m key ≡ needed_nodes m v key = needed-as-said m v t.forest bytes key b fits new in
        record {
          short = fits;
          new = new-listed new;
          cell_free = leb-true 1 (length cells) cell;
          not_none = omega arith;
          lacking = omega arith;
        }

    pub few-nodes-put : (n : ℕ) → FewNodes m v key n → heard m (put key x) ≡ refusal 14 (n ∷ [])
    unfolding put_done
    few-nodes-put n l =
        let new = new-stored l.new in
        let same : needed m key ≡ needed_nodes m v key = needed-as-said m v t.forest bytes key b l.short new in
        let some-lack = l.not_none in
        let sum = l.lacking in
        let told : lacking m key ≡ n = omega arith in
        rw (
          le-leb (length key) 256 l.short,
          tree,
          new,
          le-leb 1 (length cells) l.cell_free,
          lt-leb (needed m key) (length nodes) (omega arith),
        ) (ap (λ (k : ℕ). refusal 14 (k ∷ [])) told)

    -- an accepted put takes what it needs
    pub put-took : heard m (put key x) ≡ done → Took m v key x (left m (put key x))
    unfolding put_done
    put-took e =
        let (short, good, new, cell, enough) =
        put_only (leb (length key) 256) (is_tree m) (stored m key) (has_cell m) (has_nodes m key) (lacking m key) tells e in
        let fits = leb-true (length key) 256 short in
        let room : has_room m key ≡ true = rw (cell, enough) refl in
        let (n, c) = puts.put-takes m v t.forest bytes key b fits x new room in
        rw (short, good, new, cell, enough)
        (record {
          nodes-taken =
              free-kept (with m key x).nodes (count_of m + 1) 0 (nodes_of m)
              ∙ subst (λ (k : ℕ). free_nodes (with m key x).nodes (nodes_of m) ≡ drop k nodes)
              (needed-as-said m v t.forest bytes key b fits new) n;
          cell-taken = c;
          cell-written = refl;
          key-written = refl;
        })

    -- an accepted put tells how many slots rest where the key stands then
    pub put-tells : heard m (put key x) ≡ done
        → (n : ℕ) × ((put_done m key x).answer ≡ accepted (n ∷ [])) × Resting (left m (put key x)) key n
    unfolding put_done
    put-tells e =
        let (short, good, new, cell, enough) =
        put_only (leb (length key) 256) (is_tree m) (stored m key) (has_cell m) (has_nodes m key) (lacking m key) tells e in
        let fits = leb-true (length key) 256 short in
        let room : has_room m key ≡ true = rw (cell, enough) refl in
        let (n, told, rest) = resting (with_entry m key x) key (there m key x bytes b fits v t new room) in
        rw (short, good, new, cell, enough) (n, ap accepted told, rest)

    -- and that is 13 where it met another key
    pub put-tells-13 : heard m (put key x) ≡ done → (lf p c links : ℕ) → place m key ≡ Conflict lf p c links
        → (put_done m key x).answer ≡ accepted (13 ∷ [])
    unfolding put_done
    put-tells-13 e lf p c links q =
        let (short, good, new, cell, enough) =
        put_only (leb (length key) 256) (is_tree m) (stored m key) (has_cell m) (has_nodes m key) (lacking m key) tells e in
        let fits = leb-true (length key) 256 short in
        let room : has_room m key ≡ true = rw (cell, enough) refl in
        rw (short, good, new, cell, enough)
        (ap accepted (rests-passed m key x bytes b fits v t new room ∙ ap (λ (o : Met). rests_passed m key o ∷ []) q))

  -- an accepted removal frees the key's cell, and the nodes of the layers that are empty without its entry
  pub remove-freed : heard m (remove key) ≡ done
      → (c : ℕ) × (u : Layers) × IsTree (without_entry m key) u × Freed m key c (emptied_layers u key) (left m (remove key))
  unfolding removed
  remove-freed e =
      let (short, good, there) = remove-only (leb (length key) 256) (is_tree m) (stored m key) e in
      let (c, f) = removed-frees m v t.forest bytes key b there in
      let ((w, u, l), by) = remove-counted m v t bytes key b there in
      let back = all_back 31 (without_entry m key) w u by key b in
      let as_many : nodes_of (without_entry m key) ≡ nodes_of m =
      ap node_count (length-set (without m (place m key)).nodes 1 (count_of m - 1) ∙ without-long m (place m key)) in
      rw (short, good, there) (
        c,
        w,
        u,
        record {
          in_use = f.1;
          its-key = f.0;
          cell-freed = back.same-cells ∙ f.2;
          key-freed = back.same_bytes ∙ f.3;
          nodes-freed = λ n. omega (
            arith,
            subst (λ (i : ℕ). times_in (free_nodes (all_given_back 31 (without_entry m key) key).nodes i) n
                ≡ times_in (free_nodes (without_entry m key).nodes i) n + times_in (nodes_back 31 (without_entry m key) key) n)
                as_many (back.freed n),
            ap (λ (ns : List ℕ). times_in ns n) (back-exactly (without_entry m key) w u by key b),
            ap (λ (fs : List ℕ). times_in fs n) (free-kept (without m (place m key)).nodes (count_of m - 1) 0 (nodes_of m) ∙ f.4),
          );
        },
      )

  -- and leaves none of them on the key's way
  pub remove-none-left : heard m (remove key) ≡ done
      → to_give_back (left m (remove key)).nodes key (place (left m (remove key)) key) ≡ false
  unfolding removed
  remove-none-left e =
      let (short, good, there) = remove-only (leb (length key) 256) (is_tree m) (stored m key) e in
      let ((w, u, l), by) = remove-counted m v t bytes key b there in
      rw (short, good, there) (none_left (without_entry m key) w u by key b)

-- ---- the first put after a clear

module _ (n c : ℕ) (n-low : 1 ≤ n) (n-high : n ≤ 255) (c-low : 1 ≤ c) (c-high : c ≤ 255) (key : List ℕ) (b : Bytes key)
    (short : length key ≤ 256) (x : ℕ) where
  abbrev m : Memory
  m = emptied n c

  abbrev v : Layers
  v = nothing n c n-low n-high c-low c-high

  t : IsTree m v
  t = nothing_is n c n-low n-high c-low c-high

  no-entry : lookup bytewise key (listing m v) ≡ none
  unfolding lookup
  no-entry = refl

  needs-none : needed m key ≡ 0
  unfolding lookup full_upward leading
  needs-none =
      needed-as-said m v t.forest (bytes-zeros (c * 256)) key b short
      (stored-lookup m v t.forest (bytes-zeros (c * 256)) key b ∙ ap is_some no-entry)

  has-cell : is_cell_free (room_for m (put key x)) ≡ true
  has-cell =
      let e : length (free_cells m.cells (cells_of m)) ≡ c =
      ap (λ (k : ℕ). length (free_cells m.cells k)) (cells-lent n c n-low n-high c-low c-high) ∙ emptied-cells n c n-low in
      le-leb 1 (length (free_cells m.cells (cells_of m))) (omega arith)

  has-nodes : nodes_enough (room_for m (put key x)) ≡ true
  has-nodes = rw (needs-none, le-leb 0 (length (free_nodes m.nodes (nodes_of m))) (omega arith)) refl

  pub first-put : heard m (put key x) ≡ done
  first-put = says m v t (bytes-zeros (c * 256)) (put key x) b ∙ rw (le-leb (length key) 256 short, has-cell, has-nodes, no-entry) refl
