-- Laws on the walk: one for each way that the code returns, from what is known there. Assumes nothing.
use mathlib.Core.Path.{◌≡◌, refl, sym, ap, ◌∙◌, subst}
use mathlib.Core.Bool.{Bool, true, false, ◌&&◌}
use mathlib.Core.List.{List, [], ◌∷◌, ◌++◌, map}
use mathlib.Core.Option.{Option, none, some}
use Prim.Native.Nat.{ℕ, zero, suc, ◌+◌, ◌-◌, ◌*◌, ◌/◌, ◌%◌, ◌≤◌, ◌<◌}
use native.Mathlib.Numerals.{add-one, sub-one}
use native.Mathlib.Decide.{dec_lt}
use native.Mathlib.Omega.{arith}
use borrow.Author.Rules.{rules}
use borrow.Author.Tests.{not-true, not-false, eq-eqb, ne_eqb, leb-true, lt-ltb, le-ltb}
use lib.Dec.{eqb, leb, ltb}
use lib.ListN.{length, get_or, set, take, drop, length-map, drop_of_length-le, get_or-map, get_or-eq_default}
use lib.Seq.{drop-cons, take-suc-set, take-set-le}
use Rattle.bank.specs.Bank.{slot_at}
use Rattle.nibbles.specs.Words.{valid_word}
use Rattle.leaf_entries.specs.declared.Entry.{Entry}
use Rattle.leaf.specs.Lists.{every}
use Rattle.leaf.specs.Leaf.{slots_of, rising, none as no-entry}
use Rattle.internode.specs.Lists as internode
use Rattle.arena.specs.Parts.{part}
use Rattle.arena.specs.Layout.{node_start, kind_at, word_at, mark_at}
use Rattle.arena.specs.Memory.{Memory, memory}
use Rattle.arena.proofs.Words.{part_at, part_length}
use Rattle.forest.specs.Nodes.{all_zero, entry_at, entries_at, rest_at, of_class, is_zero, ikeys_at, children_at, count_at, leaf_right}
use Rattle.forest.specs.Nodes.{internode_right}
use Rattle.forest.specs.Cells.{cell_right, filed}
use Rattle.forest.specs.Trees.{Key, Ref, seen_as, node_no, cell_no, leftmost, rightmost}
use Rattle.forest.specs.Walk.{Seen, Step, when, and_then, each, see, walk_ref, walk_entry, spans, walk_span, walk_leaf, walk_internode, walk_node}
use Rattle.forest.specs.Walk.{height_at, walk_one, walk_layer}
use Rattle.forest.proofs.InUse as in_use
use Rattle.forest.proofs.Heights.{height-most}
use Rattle.forest.proofs.InUse.{seen-ikey}
use Rattle.std.specs.Prelude.{Some, Option as Edge}
use Rattle.edge.specs.Edges.{left_of, right_of}
use Rattle.walk.specs.Steps.{told, below, refs_at, cell_of, edge_at}

-- what a step told, where it is known
told-not : {r : Bool} (s : Seen) {o : Option Seen} → told r s ≡ o → r ≡ false → o ≡ none
unfolding told
told-not s e f = sym (rw f at e)

told-so : {r : Bool} (s : Seen) {o : Option Seen} → told r s ≡ o → r ≡ true → o ≡ some s
unfolding told
told-so s e f = sym (rw f at e)

-- ---- a cell

module _ (cells bytes above : List ℕ) (e : Entry) (seen : Seen) where
  pub cell-beyond : length cells ≡ (length cells / 2) * 2 → length cells / 2 ≤ e.at → told false seen ≡ cell_of cells bytes above e seen
  unfolding cell_of filed cell_right told
  cell-beyond w h =
      let z : mark_at cells e.at ≡ 0 = get_or-eq_default cells 0 (omega arith) in
      rw z

  module _ {f : Bool} (q : f ≡ filed cells bytes above e.ikey e.class e.at) where
    pub cell-not : f ≡ false → told false seen ≡ cell_of cells bytes above e seen
    unfolding cell_of told
    cell-not n = rw (← q, n)

    pub cell-so : {o : Option Seen} → f ≡ true → o ≡ see (cell_no e.at) seen → o ≡ cell_of cells bytes above e seen
    unfolding cell_of
    cell-so y g = rw (← q, y) g

pub ruleset cellwise = (rules, not-true, not-false, cell-beyond, cell-not, cell-so)

-- ---- the edge to the right of a child

module _ (nodes : List ℕ) (at : ℕ) (inner : Bool) (high : Edge ℕ) where
  pub right-own : inner ≡ false → high ≡ edge_at nodes at inner high
  unfolding edge_at
  right-own f = rw f

  pub right-here : inner ≡ true → Some (get_or nodes at 0) ≡ edge_at nodes at inner high
  unfolding edge_at
  right-here f = rw f

pub ruleset righted = (rules, not-true, not-false, right-own, right-here)

-- ---- one after the other, from the i-th on

module _ {X : Type 0} (go : X → Step) (x : X) (xs : List X) (seen : Seen) {total : Option Seen} (inv : each go (x ∷ xs) seen ≡ total) where
  pub each-not : go x seen ≡ none → none ≡ total
  unfolding each
  each-not e = rw e at inv

  pub each-so : {seen' : Seen} → go x seen ≡ some seen' → each go xs seen' ≡ total
  unfolding each
  each-so e = rw e at inv

-- ---- an entry

module _ (m : Memory) (above : List ℕ) (links : ℕ) (e : Entry) (seen : Seen) where
  pub entry-cell : {o : Option Seen} → (e.class ≡ 10 → ⊥) → o ≡ cell_of m.cells m.bytes (take links above) e seen
      → o ≡ refs_at m above links (seen_as e).0 (seen_as e).1 seen
  unfolding refs_at seen_as cell_of
  entry-cell n f = rw (ne_eqb _ _ n) f

  pub entry-deep : e.class ≡ 10 → links ≡ 31 → told false seen ≡ refs_at m above links (seen_as e).0 (seen_as e).1 seen
  unfolding refs_at seen_as below told
  entry-deep c l = rw (eq-eqb _ _ c, l)

  pub entry-link : {o : Option Seen} {way : List ℕ} → e.class ≡ 10 → (links ≡ 31 → ⊥) → length above ≡ 32 → links ≤ 31
      → way ≡ set above links e.ikey → o ≡ walk_layer (31 - (links + 1)) m (take (links + 1) way) e.at seen
      → o ≡ refs_at m above links (seen_as e).0 (seen_as e).1 seen
  unfolding refs_at seen_as below
  entry-link {way = way} c n a l w f =
      let d : 31 - links ≡ suc (31 - (links + 1)) = omega arith in
      let q : take (links + 1) way ≡ take links above ++ e.ikey ∷ []
      = rw (w, add-one links) (take-suc-set above links e.ikey (omega arith)) in
      rw (eq-eqb _ _ c, d) (rw q at f)

-- the way down behind a link, written in place: what stands before it stays
fewer : (n : ℕ) (xs : List ℕ) → take n (take (n + 1) xs) ≡ take n xs
fewer n xs = rw (add-one n) (by n xs)
  where
    by : (n : ℕ) (xs : List ℕ) → take n (take (suc n) xs) ≡ take n xs
    by zero xs = refl
    by (suc n) [] = refl
    by (suc n) (x ∷ xs) = ap (λ (ys : List ℕ). x ∷ ys) (by n xs)

pub way-kept : (above : List ℕ) (links x : ℕ) {way : List ℕ} (after : List ℕ) → way ≡ set above links x
    → take (links + 1) after ≡ take (links + 1) way → take links after ≡ take links above
way-kept above links x {way} after w e =
    sym (fewer links after) ∙ ap (take links) e ∙ fewer links way ∙ ap (take links) w ∙ take-set-le links above links x (omega arith)

-- the walk of what an entry has, where the way down was written on behind the links
module _ (m : Memory) (links : ℕ) (before above : List ℕ) (e : take links above ≡ take links before) where
  refs-same : refs_at m before links ≡ refs_at m above links
  unfolding refs_at
  refs-same = ap (λ (ks : List ℕ). walk_ref (below (31 - links) m) m ks) (sym e)

  pub entries-on : (lo hi : ℕ) (xs : List (Key × Ref)) (seen : Seen) {total : Option Seen}
      → each (walk_entry (refs_at m before links) lo hi) xs seen ≡ total → each (walk_entry (refs_at m above links) lo hi) xs seen ≡ total
  entries-on lo hi xs seen {total} f =
      subst (λ (ref : Key → Ref → Step). each (walk_entry ref lo hi) xs seen ≡ total) refs-same f

  pub spans_on : (nodes : List ℕ) (h : ℕ) (xs : List (ℕ × ℕ × ℕ)) (seen : Seen) {total : Option Seen}
      → each (walk_span (walk_node (refs_at m before links) nodes h)) xs seen ≡ total
      → each (walk_span (walk_node (refs_at m above links) nodes h)) xs seen ≡ total
  spans_on nodes h xs seen {total} f =
      subst (λ (ref : Key → Ref → Step). each (walk_span (walk_node ref nodes h)) xs seen ≡ total) refs-same f

-- ---- a leaf

second : (a b c : Bool) → a && (b && c) ≡ true → b ≡ true
second true true c e = refl
second true false c e = e
second false b c e = absurd (let z : ◌≡◌ {A = ℕ} 0 1 = cc in omega arith)

module _ (ref : Key → Ref → Step) (nodes : List ℕ) (lo hi k : ℕ) (seen : Seen) where
  module _ {r : Bool} (q : r ≡ leaf_right nodes k) where
    pub leaf-not : r ≡ false → told false seen ≡ walk_leaf ref nodes lo hi k seen
    unfolding walk_leaf told
    leaf-not f = rw (← q, f)

    pub leaf-start : r ≡ true → each (walk_entry ref lo hi) (drop 0 (map seen_as (entries_at nodes k))) seen ≡ walk_leaf ref nodes lo hi k seen
    unfolding walk_leaf
    leaf-start f = rw (← q, f)

pub leaf-valid : (nodes : List ℕ) (k : ℕ) {r : Bool} → r ≡ leaf_right nodes k → r ≡ true → valid_word 15 (word_at nodes k 1) ≡ true
unfolding leaf_right
leaf-valid nodes k q f =
    second (eqb (kind_at nodes k) 1) (valid_word 15 (word_at nodes k 1))
    (every of_class (entries_at nodes k) && (rising (entries_at nodes k) && every is_zero (rest_at nodes k))) (sym q ∙ f)

module _ (nodes : List ℕ) (k : ℕ) where
  entries-length : length (map seen_as (entries_at nodes k)) ≡ word_at nodes k 1 % 16
  entries-length = length-map (entries_at nodes k) seen_as ∙ in_use.entries-length nodes k (word_at nodes k 1) refl

  entries_from : (i : ℕ) → i < word_at nodes k 1 % 16
      → drop i (map seen_as (entries_at nodes k)) ≡ seen_as (entry_at nodes k (slot_at i (slots_of (word_at nodes k 1)))) ∷ drop (i + 1)
      (map seen_as (entries_at nodes k))
  entries_from i h =
      rw (add-one i)
      (drop-cons (map seen_as (entries_at nodes k)) i (seen_as no-entry) (rw entries-length h)
      ∙ ap (λ (x : Key × Ref). x ∷ drop (suc i) (map seen_as (entries_at nodes k)))
      (get_or-map seen_as (entries_at nodes k) i no-entry ∙ ap seen_as (in_use.entry_here nodes k (word_at nodes k 1) refl i h refl)))

module _ (ref : Key → Ref → Step) (nodes : List ℕ) (lo hi k i : ℕ) (seen : Seen) {total : Option Seen}
    (inv : each (walk_entry ref lo hi) (drop i (map seen_as (entries_at nodes k))) seen ≡ total) {size : ℕ}
    (z : size ≡ word_at nodes k 1 % 16) where
  pub leaf-end : size ≤ i → told true seen ≡ total
  unfolding each told
  leaf-end h =
      let n : length (map seen_as (entries_at nodes k)) ≤ i = rw (entries-length nodes k, ← z) h in
      rw (drop_of_length-le (map seen_as (entries_at nodes k)) n) at inv

  module _ (h : i < size) {slot : ℕ} (s : slot ≡ slot_at i (slots_of (word_at nodes k 1))) {e : Entry} (q : e ≡ entry_at nodes k slot) where
    here : each (walk_entry ref lo hi) (seen_as e ∷ drop (i + 1) (map seen_as (entries_at nodes k))) seen ≡ total
    here = rw (q, s) (rw (entries_from nodes k i (rw z at h)) at inv)

    module _ {w : Bool} (v : w ≡ (leb lo (suc e.ikey) && ltb (suc e.ikey) hi)) where
      within-is : (o : Option Seen) → ref (seen_as e).0 (seen_as e).1 seen ≡ o → walk_entry ref lo hi (seen_as e) seen ≡ when w o
      unfolding walk_entry
      within-is o f = rw (seen-ikey e, ← v, f)

      pub leaf-out : w ≡ false → told false seen ≡ total
      unfolding told
      leaf-out f = each-not _ _ _ _ here (within-is _ refl ∙ rw f)

      module _ (t : w ≡ true) {r : Bool} (seen' : Seen) (f : told r seen' ≡ ref (seen_as e).0 (seen_as e).1 seen) where
        pub leaf-fails : r ≡ false → told false seen' ≡ total
        unfolding told
        leaf-fails n = each-not _ _ _ _ here (within-is (told r seen') (sym f) ∙ rw (t, n))

        pub leaf-next : r ≡ true → each (walk_entry ref lo hi) (drop (i + 1) (map seen_as (entries_at nodes k))) seen' ≡ total
        unfolding told
        leaf-next y = each-so _ _ _ _ here (within-is (told r seen') (sym f) ∙ rw (t, y))

-- ---- an internode

module _ (node : ℕ → ℕ → ℕ → Step) (nodes : List ℕ) (lo hi k : ℕ) (seen : Seen) where
  module _ {r : Bool} (q : r ≡ internode_right nodes k) where
    pub inter-not : r ≡ false → told false seen ≡ walk_internode node nodes lo hi k seen
    unfolding walk_internode told
    inter-not f = rw (← q, f)

    pub inter-start : r ≡ true → each (walk_span node) (spans lo hi (drop 0 (ikeys_at nodes k)) (drop 0 (children_at nodes k))) seen
        ≡ walk_internode node nodes lo hi k seen
    unfolding walk_internode
    inter-start f = rw (← q, f)

pub count-15 : (nodes : List ℕ) (k : ℕ) {r : Bool} → r ≡ internode_right nodes k → r ≡ true → count_at nodes k ≤ 15
unfolding internode_right
count-15 nodes k q f =
    leb-true _ _
    (second (eqb (kind_at nodes k) 2) (leb (count_at nodes k) 15)
    (internode.rising (ikeys_at nodes k)
    && (all_zero (part nodes (node_start k + 2 + count_at nodes k) (15 - count_at nodes k))
    && all_zero (part nodes (node_start k + 18 + count_at nodes k) (29 - count_at nodes k))))
    (sym q ∙ f))

module _ (nodes : List ℕ) (k : ℕ) (few : count_at nodes k ≤ 15) (fits : node_start k + 47 ≤ length nodes) where
  ikeys-length : length (ikeys_at nodes k) ≡ count_at nodes k
  unfolding ikeys_at
  ikeys-length = part_length nodes (node_start k + 2) (count_at nodes k) (omega arith)

  children-length : length (children_at nodes k) ≡ count_at nodes k + 1
  unfolding children_at
  children-length = part_length nodes (node_start k + 17) (count_at nodes k + 1) (omega arith)

  children-from : (i : ℕ) → i ≤ count_at nodes k
      → drop i (children_at nodes k) ≡ get_or nodes (node_start k + 17 + i) 0 ∷ drop (i + 1) (children_at nodes k)
  unfolding children_at
  children-from i h =
      rw (add-one i, ← part_at nodes (node_start k + 17) (count_at nodes k + 1) i (omega arith))
      (drop-cons (children_at nodes k) i 0 (rw children-length (omega arith)))

  ikeys-from : (i : ℕ) → i < count_at nodes k
      → drop i (ikeys_at nodes k) ≡ get_or nodes (node_start k + 2 + i) 0 ∷ drop (i + 1) (ikeys_at nodes k)
  unfolding ikeys_at
  ikeys-from i h =
      rw (add-one i, ← part_at nodes (node_start k + 2) (count_at nodes k) i h)
      (drop-cons (ikeys_at nodes k) i 0 (rw ikeys-length h))

  children-end : (i : ℕ) → count_at nodes k < i → drop i (children_at nodes k) ≡ []
  children-end i h = let l : length (children_at nodes k) ≤ i = rw children-length (omega arith) in drop_of_length-le (children_at nodes k) l

  ikeys-end : (i : ℕ) → count_at nodes k ≤ i → drop i (ikeys_at nodes k) ≡ []
  ikeys-end i h = let l : length (ikeys_at nodes k) ≤ i = rw ikeys-length h in drop_of_length-le (ikeys_at nodes k) l

  spans-end : (lo hi i : ℕ) → count_at nodes k < i → spans lo hi (drop i (ikeys_at nodes k)) (drop i (children_at nodes k)) ≡ []
  unfolding spans
  spans-end lo hi i h = rw (children-end i h)

  spans-from : (lo i : ℕ) (high right : Edge ℕ) → i ≤ count_at nodes k
      → right ≡ edge_at nodes (node_start k + 2 + i) (ltb i (count_at nodes k)) high
      → spans lo (right_of high) (drop i (ikeys_at nodes k)) (drop i (children_at nodes k))
      ≡ (lo, right_of right, get_or nodes (node_start k + 17 + i) 0) ∷ spans (left_of right) (right_of high) (drop (i + 1) (ikeys_at nodes k))
      (drop (i + 1) (children_at nodes k))
  unfolding spans edge_at
  spans-from lo i high right h e = by (dec_lt i (count_at nodes k))
    where
      by : Dec (i < count_at nodes k)
          → spans lo (right_of high) (drop i (ikeys_at nodes k)) (drop i (children_at nodes k))
          ≡ (lo, right_of right, get_or nodes (node_start k + 17 + i) 0) ∷ spans (left_of right) (right_of high) (drop (i + 1) (ikeys_at nodes k))
          (drop (i + 1) (children_at nodes k))
      by (yes l) =
          let f : right ≡ Some (get_or nodes (node_start k + 2 + i) 0) = rw (lt-ltb _ _ l) at e in
          rw (children-from i h, ikeys-from i l, f)
      by (no n) =
          let f : right ≡ high = rw (le-ltb i (count_at nodes k) (omega arith)) at e in
          rw (children-from i h, ikeys-end i (omega arith), children-end (i + 1) (omega arith), f)

module _ (node : ℕ → ℕ → ℕ → Step) (nodes : List ℕ) (k i lo : ℕ) (high : Edge ℕ) (seen : Seen) {total : Option Seen}
    (inv : each (walk_span node) (spans lo (right_of high) (drop i (ikeys_at nodes k)) (drop i (children_at nodes k))) seen ≡ total)
    {g : Bool} (q : g ≡ internode_right nodes k) (y : g ≡ true) (fits : node_start k + 47 ≤ length nodes) where
  pub inter-end : count_at nodes k < i → told true seen ≡ total
  unfolding each told
  inter-end h = rw (spans-end nodes k (count-15 nodes k q y) fits lo (right_of high) i h) at inv

  module _ (h : i ≤ count_at nodes k) {right : Edge ℕ} (e : right ≡ edge_at nodes (node_start k + 2 + i) (ltb i (count_at nodes k)) high)
      {b : Bool}
      (v : b ≡ ltb lo (right_of right)) where
    span : each (walk_span node) ((lo, right_of right, get_or nodes (node_start k + 17 + i) 0) ∷ spans (left_of right) (right_of high)
        (drop (i + 1) (ikeys_at nodes k)) (drop (i + 1) (children_at nodes k))) seen ≡ total
    span = rw (spans-from nodes k (count-15 nodes k q y) fits lo i high right h e) at inv

    span-is : (o : Option Seen) → node lo (right_of right) (get_or nodes (node_start k + 17 + i) 0) seen ≡ o
        → walk_span node (lo, right_of right, get_or nodes (node_start k + 17 + i) 0) seen ≡ when b o
    unfolding walk_span
    span-is o f = rw (← v, f)

    pub inter-out : b ≡ false → told false seen ≡ total
    unfolding told
    inter-out f = each-not _ _ _ _ span (span-is _ refl ∙ rw f)

    module _ (t : b ≡ true) {r : Bool} (seen' : Seen)
        (f : told r seen' ≡ node lo (right_of right) (get_or nodes (node_start k + 17 + i) 0) seen) where
      pub inter-fails : r ≡ false → told false seen' ≡ total
      unfolding told
      inter-fails n = each-not _ _ _ _ span (span-is (told r seen') (sym f) ∙ rw (t, n))

      pub inter-next : r ≡ true
          → each (walk_span node) (spans (left_of right) (right_of high) (drop (i + 1) (ikeys_at nodes k)) (drop (i + 1) (children_at nodes k)))
          seen' ≡ total
      unfolding told
      inter-next d = each-so _ _ _ _ span (span-is (told r seen') (sym f) ∙ rw (t, d))

-- ---- a node

module _ (ref : Key → Ref → Step) (nodes : List ℕ) where
  then-none : (o : Option Seen) (f : Step) → ((s : Seen) → f s ≡ none) → none ≡ and_then o f
  then-none none f e = refl
  then-none (some s) f e = sym (e s)

  pub node-beyond : (h lo hi n : ℕ) (seen : Seen) → length nodes ≡ 2 + (length nodes / 47) * 47 → length nodes / 47 ≤ n
      → told false seen ≡ walk_node ref nodes h lo hi n seen
  unfolding walk_node walk_leaf walk_internode leaf_right internode_right told
  node-beyond zero lo hi n seen w l =
      let z : kind_at nodes n ≡ 0 = get_or-eq_default nodes 0 (omega arith) in
      then-none (see (node_no n) seen) (walk_leaf ref nodes lo hi n) (λ s. rw z)
  node-beyond (suc h) lo hi n seen w l =
      let z : kind_at nodes n ≡ 0 = get_or-eq_default nodes 0 (omega arith) in
      then-none (see (node_no n) seen) (walk_internode (walk_node ref nodes h) nodes lo hi n) (λ s. rw z)

module _ (ref : Key → Ref → Step) (nodes : List ℕ) (h lo hi n : ℕ) (seen : Seen) {r : Bool} (s : Seen)
    (e : told r s ≡ see (2 * n) seen) where
  pub node-again : r ≡ false → told false s ≡ walk_node ref nodes h lo hi n seen
  unfolding walk_node told
  node-again f = by h
    where
      by : (h : ℕ) → none ≡ walk_node ref nodes h lo hi n seen
      by zero = rw (told-not s e f)
      by (suc h) = rw (told-not s e f)

  pub node-leaf : {o : Option Seen} → r ≡ true → h ≡ 0 → o ≡ walk_leaf ref nodes lo hi n s → o ≡ walk_node ref nodes h lo hi n seen
  unfolding walk_node
  node-leaf t z f = rw (z, told-so s e t) f

node-unroll : (ref : Key → Ref → Step) (nodes : List ℕ) (h lo hi n : ℕ) (seen : Seen) → (h ≡ 0 → ⊥)
    → walk_node ref nodes h lo hi n seen ≡ and_then (see (node_no n) seen) (walk_internode (walk_node ref nodes (h - 1)) nodes lo hi n)
unfolding walk_node
node-unroll ref nodes zero lo hi n seen z = absurd (z refl)
node-unroll ref nodes (suc h) lo hi n seen z = rw (sub-one (suc h))

module _ (ref : Key → Ref → Step) (nodes : List ℕ) (h lo hi n : ℕ) (seen : Seen) {r : Bool} (s : Seen)
    (e : told r s ≡ see (2 * n) seen) where
  pub node-inter : {o : Option Seen} → r ≡ true → (h ≡ 0 → ⊥) → o ≡ walk_internode (walk_node ref nodes (h - 1)) nodes lo hi n s
      → o ≡ walk_node ref nodes h lo hi n seen
  node-inter t z f = rw (node-unroll ref nodes h lo hi n seen z, told-so s e t) f

-- ---- a layer

pub height-few : (nodes : List ℕ) (root : ℕ) {h : ℕ} → h ≡ height_at nodes 255 root → h ≤ 255
height-few nodes root e = rw e (height-most nodes 255 root)

layer-is : (l : ℕ) (m : Memory) (above : List ℕ) (root : ℕ) (seen : Seen)
    → walk_layer l m above root seen ≡ walk_one (below l m) m above root seen
unfolding walk_layer below
layer-is zero m above root seen = refl
layer-is (suc l) m above root seen = refl

pub layer-down : (nodes cells bytes above : List ℕ) (links root : ℕ) (seen : Seen) {h : ℕ} {o : Option Seen} → h ≡ height_at nodes 255 root
    → o ≡ walk_node (refs_at (memory nodes cells bytes) above links) nodes h leftmost rightmost root seen
    → o ≡ walk_layer (31 - links) (memory nodes cells bytes) (take links above) root seen
unfolding walk_one refs_at
layer-down nodes cells bytes above links root seen e f =
    rw (layer-is (31 - links) (memory nodes cells bytes) (take links above) root seen) (rw e at f)

-- what the answers to the needs of each function are found among
pub ruleset entrywise = (rules, entry-cell, entry-deep, entry-link, way-kept)

pub ruleset leafwise = (rules, not-true, not-false, leaf-not, leaf-start, leaf-valid, leaf-end, leaf-next)

pub ruleset interwise = (rules, not-true, not-false, inter-not, inter-start, count-15, inter-end)

pub ruleset nodewise = (rules, not-true, not-false, node-beyond, node-again, node-leaf, node-inter)

pub ruleset layerwise = (rules, layer-down)
