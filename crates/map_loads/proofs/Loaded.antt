-- What a load leaves: the entries it was given, in memory that is a tree; or no room, and what a clear leaves. Assumes nothing.
use mathlib.Core.Path.{◌≡◌, refl, sym, ap, ap₂, ◌∙◌, subst}
use mathlib.Core.Logic.{◌⊎◌, inl, inr}
use mathlib.Core.Bool.{true, false}
use mathlib.Core.List.{List, [], ◌∷◌, map}
use Prim.Native.Nat.{ℕ, ◌-◌, ◌≤◌}
use native.Mathlib.Omega.{arith}
use lib.Dec.{T, eqb}
use lib.ListN.{length}
use Rattle.bank.proofs.Tests.{is_true}
use Rattle.refusal.specs.Answer.{Answer}
use Rattle.refusal.specs.Answer as answer
use Rattle.order.specs.Bytes.{Bytes}
use Rattle.order.specs.Map.{Map, All, a[], ◌a∷◌, Rising}
use Rattle.order.proofs.Bytes.{bytes_take, bytes_drop}
use Rattle.arena.specs.Parts.{part}
use Rattle.arena.specs.Layout.{key_start, mark_at, key_at}
use Rattle.arena.specs.Memory.{Memory, Did, did, right_lengths}
use Rattle.arena.proofs.Measures.{right-means}
use Rattle.forest.specs.Walk.{is_tree}
use Rattle.forest.specs.IsTree.{Layers, IsTree, listing}
use Rattle.forest.proofs.Accepts.{tree-accepted}
use Rattle.forest.proofs.One.{tree-one}
use Rattle.model.specs.Calls.{put_done, put_lent}
use Rattle.views.proofs.Listed.{key_and_frame, cells-listed}
use Rattle.views.proofs.Few.{keys-short}
use Rattle.places.proofs.Found.{listing-rises}
use Rattle.as_map.specs.Calls.{clear, put, left, heard, answers, left_after}
use Rattle.as_map.proofs.Says.{clear-says}
use Rattle.as_map.proofs.Leaves.{Lists, cleared-lists, clear-left}
use Rattle.map_loads.specs.Loads.{and_put, puts_after, Fileable, empty_of, settled, loaded, puts_of, as_calls, NoRoom}
use Rattle.map_loads.specs.Loads.{done_each, FailsFirst, heard_as}
use Rattle.map_loads.proofs.Puts.{Good, puts-same}
use Rattle.map_loads.proofs.Rises.{Outcome, puts-rise, no-room-refused}

-- an answer is accepted or refused
zero-not : {n : ℕ} → eqb n 0 ≡ false → n ≡ 0 → ⊥
zero-not e z = let y : eqb 0 0 ≡ false = rw z at e in let x : ◌≡◌ {A = ℕ} 0 1 = cc in omega arith

-- accepted: the number of entries is told, memory lists them, and is that after a clear and the puts, each heard as done
pub record Loads (m : Memory) (es : Map) (d : Did) : Type 0 where
  pub tells : d.answer ≡ answer.accepted (length es ∷ [])
  pub lists : Lists d.after es
  pub as-calls : d.after ≡ left_after m (as_calls es)
  pub all_done : answers m (as_calls es) ≡ done_each (as_calls es)

-- refused: 13 or 14, as the first failing put behind a clear hears it, and memory is what a clear leaves
pub record Refuses (m : Memory) (es : Map) (d : Did) : Type 0 where
  pub no_room : NoRoom d.answer
  pub as-put : FailsFirst m as_calls es (heard_as d.answer)
  pub empties : d.after ≡ left m clear

-- what an accepted answer before the puts told is not told behind them
told-before : (putting : Memory → List ℕ → ℕ → Did) (told other : List ℕ) (empty m : Memory) (n : ℕ) (es : Map)
    → settled empty n (puts_after putting (did (answer.accepted told) m) es)
    ≡ settled empty n (puts_after putting (did (answer.accepted other) m) es)
unfolding and_put
told-before putting told other empty m n [] = refl
told-before putting told other empty m n (e ∷ es) = refl

-- lent memory of right lengths, and entries in key order
module _ (m : Memory) (right : right_lengths (length m.nodes) (length m.cells) (length m.bytes) ≡ true) where
  -- what a clear leaves lists nothing
  pub empty-lists : Lists (empty_of m) []
  empty-lists = let r = right-means _ _ _ right in cleared-lists _ _ r.n-low r.n-high r.c-low r.c-high

  -- and it is what the call leaves
  pub empty_left : left m clear ≡ empty_of m
  empty_left = clear-left m (subst T (sym right) tt)

  -- calls behind a clear are calls on what it leaves
  behind-clear : (es : Map) → left_after (empty_of m) (puts_of es) ≡ left_after m (as_calls es)
  behind-clear es = ap (λ (n : Memory). left_after n (puts_of es)) (sym empty_left)

  -- and a clear is heard as done
  clear-done : (es : Map) → answers (empty_of m) (puts_of es) ≡ done_each (puts_of es) → answers m (as_calls es) ≡ done_each (as_calls es)
  clear-done es e = ap₂ ◌∷◌ (clear-says m (subst T (sym right) tt)) (ap (λ (n : Memory). answers n (puts_of es)) empty_left ∙ e)

  -- the puts need no audit
  pub load-lent : (told : List ℕ) {es : Map} → All Fileable es
      → loaded m es ≡ settled (empty_of m) (length es) (puts_after put_lent (did (answer.accepted told) (empty_of m)) es)
  unfolding loaded
  load-lent told {es} fs =
      ap (settled (empty_of m) (length es)) (sym (puts-same (did (answer.accepted []) (empty_of m)) ([], empty-lists) fs))
      ∙ told-before put_lent [] told (empty_of m) (empty_of m) (length es) es

  module _ (es : Map) (rises : Rising es) (fs : All Fileable es) where
    pub load-outcome : Loads m es (loaded m es) ⊎ Refuses m es (loaded m es)
    unfolding loaded
    load-outcome = by (puts_after put_done (did (answer.accepted []) (empty_of m)) es) (puts-rise (empty_of m) [] [] es empty-lists rises fs)
      where
        by : (d : Did) → Outcome (empty_of m) es es d
            → Loads m es (settled (empty_of m) (length es) d) ⊎ Refuses m es (settled (empty_of m) (length es) d)
        by d (inl a) =
            inl
            (rw a.tells
            (record { tells = refl; lists = a.lists; as-calls = a.left_so ∙ behind-clear es; all_done = clear-done es a.all_done }))
        by d (inr (r, f)) =
            inr
            (rw (no-room-refused r)
            (record {
              no_room = r;
              as-put = record {
                before = f.before;
                failing = f.failing;
                behind = f.behind;
                split = f.split;
                all_done = clear-done f.before f.all_done;
                fails =
                    ap (λ (n : Memory). heard n (put f.failing.0 f.failing.1)) (sym (behind-clear f.before)) ∙ f.fails;
              };
              empties = sym empty_left;
            }))

    -- whatever it answers, memory is a tree
    pub load-good : Good (loaded m es).after
    load-good = by load-outcome
      where
        by : Loads m es (loaded m es) ⊎ Refuses m es (loaded m es) → Good (loaded m es).after
        by (inl a) = (es, a.lists)
        by (inr r) = subst Good (sym (r.empties ∙ empty_left)) ([], empty-lists)

    -- accepted, all of the above holds
    pub load-accepted : (loaded m es).answer.number ≡ 0 → Loads m es (loaded m es)
    load-accepted z = by load-outcome
      where
        by : Loads m es (loaded m es) ⊎ Refuses m es (loaded m es) → Loads m es (loaded m es)
        by (inl a) = a
        by (inr r) = absurd (zero-not (no-room-refused r.no_room) z)

    -- and its listing is these entries
    pub load-listing : (loaded m es).answer.number ≡ 0 → (v : Layers) → IsTree (loaded m es).after v → listing (loaded m es).after v ≡ es
    load-listing z v t =
        let (w, u, b, e) = (load-accepted z).lists in
        ap (listing (loaded m es).after) (tree-one (loaded m es).after v w t u) ∙ e

-- ---- what an index lists can be loaded

key-bytes : (cells bytes : List ℕ) → Bytes bytes → (c : ℕ) → Bytes (key_at cells bytes c)
unfolding part
key-bytes cells bytes b c = bytes_take (mark_at cells c - 1) (bytes_drop (key_start c) b)

module _ (m : Memory) (v : Layers) (t : IsTree m v) (b : Bytes m.bytes) where
  pub listed-fileable : All Fileable (listing m v)
  listed-fileable = subst (All Fileable) (cells-listed m v t.forest) (by (keys-short m v t.forest))
    where
      by : {cs : List ℕ} → All (λ c. length (key_at m.cells m.bytes c) ≤ 256) cs
          → All Fileable (map (key_and_frame m.cells m.bytes) cs)
      by a[] = a[]
      by (◌a∷◌ {x = c} s ss) = record { bytes = key-bytes m.cells m.bytes b c; short = s } a∷ by ss

  -- loaded into any lent memory of right lengths: where there is room, the listing is the same
  pub same-listing : (n : Memory) → right_lengths (length n.nodes) (length n.cells) (length n.bytes) ≡ true
      → (loaded n (listing m v)).answer.number ≡ 0 → (w : Layers) → IsTree (loaded n (listing m v)).after w
      → listing (loaded n (listing m v)).after w ≡ listing m v
  same-listing n right z w u = load-listing n right (listing m v) (listing-rises m v t.forest b) listed-fileable z w u
