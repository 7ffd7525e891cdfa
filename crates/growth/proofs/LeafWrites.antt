-- A leaf written: by all of its words, or by its slot word and one entry. Assumes nothing.
use mathlib.Core.Path.{◌≡◌, refl, sym, ap, ap₂, ◌∙◌, subst}
use mathlib.Core.Logic.{◌≢◌, ⊎_elim, inl, inr}
use mathlib.Core.Bool.{true}
use mathlib.Core.List.{List, [], ◌∷◌, ◌++◌, map, map-append}
use Prim.Native.Nat.{ℕ, zero, suc, ◌+◌, ◌-◌, ◌≤◌, ◌<◌}
use native.Mathlib.Omega.{arith}
use lib.Dec.{T, eqb}
use lib.ListN.{length, get_or, take, replicate, length-append, length-map, length-replicate, length-take, get_or-map, get_or-append}
use lib.Seq.{ext_get_or, length-take-le, get_or-take, get_or-append-add}
use Rattle.refusal.specs.Answer.{Answer, accepted}
use Rattle.bank.specs.Lists.{count}
use Rattle.bank.specs.Bank.{slot_at}
use Rattle.bank.proofs.Tests.{and_both, holds}
use Rattle.bank.proofs.Counts.{count_at}
use Rattle.nibbles.specs.Words.{valid_word}
use Rattle.permuter.specs.Words.{made_sorted}
use Rattle.leaf_entries.specs.declared.Entry.{Entry}
use Rattle.leaf.specs.Lists.{every}
use Rattle.leaf.specs.Leaf.{none, slots_in_use, slots_of, entries_in_order, laid, rising}
use Rattle.leaf.proofs.Leaves.{sorted-accepted, sorted-view, sorted-valid, laid-view, laid-long}
use Rattle.arena.specs.Parts.{zeros}
use Rattle.arena.specs.Layout.{node_start, put_node, word_at, kind_at, leaf_words, put_leaf, WholeLeaf}
use Rattle.arena.proofs.Words.{put_in, put-out, lt-or-ge}
use Rattle.arena.proofs.Nodes.{leaf-length, kind-stored, head-kept, nodes-length, nodes-apart}
use Rattle.forest.specs.Nodes.{entry_at, slots_at, entries_at, rest_at, of_class, is_zero, leaf_right}
use Rattle.forest.specs.Trees.{seen_as}
use Rattle.trees.specs.Nodes.{Node, leaf}
use Rattle.trees.specs.Layers.{Pointer}
use Rattle.views.specs.Views.{entry_view, node_view, node_sound}
use Rattle.model.specs.Leaves.{leaf_with}
use Rattle.growth.proofs.Frames.{Same, sound-leaf, view-leaf}
use Rattle.growth.proofs.Memory.{Nodes, node-fits, Wrote, wrote, tabled-length}
use Rattle.growth.proofs.Columns.{fifteen, fifteen-at, entries-view, RestZero, rest-if, names, names_at, names-length, used-named}

-- entries as the trees have them
abbrev pub entry_node : List Entry → Node Pointer
entry_node es = leaf (map (λ e. entry_view (seen_as e)) es)

-- ---- 47 words in the place of a node

module _ (nodes : List ℕ) (n : ℕ) (N : Nodes nodes n) (k : ℕ) (h : k < n) (ws : List ℕ) (whole : length ws ≡ 47) where
  fits : node_start k + 47 ≤ length nodes
  fits = node-fits nodes n N k h

  pub word-stored : (i : ℕ) → i < 47 → word_at (put_node nodes k ws) k i ≡ get_or ws i 0
  word-stored i l = put_in nodes (node_start k) ws (rw whole fits) i (omega arith)

  others-kept : (j : ℕ) → j ≢ k → Same nodes (put_node nodes k ws) j
  others-kept j ne i l =
      put-out nodes (node_start k) ws (rw whole fits) (node_start j + i)
      (⊎_elim (λ p. inl (omega arith)) (λ p. inr (omega arith)) (nodes-apart j k ne))

  pub put-wrote : (x : Node Pointer) → T (node_sound (put_node nodes k ws) k) → node_view (put_node nodes k ws) k ≡ x
      → Wrote nodes (put_node nodes k ws) n k x
  put-wrote x t e = wrote nodes (put_node nodes k ws) n N k h x (nodes-length nodes k fits ws whole)
      (head-kept nodes k fits ws whole) others-kept t e

-- ---- a leaf with these entries

module _ (m : List ℕ) (k : ℕ) where
  -- the rules of a leaf, one by one
  pub leaf-if : kind_at m k ≡ 1 → valid_word 15 (word_at m k 1) ≡ true → T (every of_class (entries_at m k)) → T (rising (entries_at m k))
      → T (every is_zero (rest_at m k)) → T (leaf_right m k)
  unfolding leaf_right
  leaf-if e v c r z =
      and_both (eqb (kind_at m k) 1) _ (rw e tt)
      (and_both (valid_word 15 (word_at m k 1)) _ (holds v)
      (and_both (every of_class (entries_at m k)) _ c (and_both (rising (entries_at m k)) _ r z)))

map-zeros : (g : Entry → ℕ) → g none ≡ 0 → (c : ℕ) → map g (replicate c none) ≡ zeros c
map-zeros g e zero = refl
map-zeros g e (suc c) = ap₂ ◌∷◌ e (map-zeros g e c)

-- a column of the fifteen
column : (g : Entry → ℕ) → g none ≡ 0 → (es : List Entry) (s : ℕ)
    → get_or (map g es ++ zeros (15 - length es)) s 0 ≡ g (get_or (laid es) s none)
column g e es s =
    ap (λ (xs : List ℕ). get_or (map g es ++ xs) s 0) (sym (map-zeros g e (15 - length es)))
    ∙ ap (λ (xs : List ℕ). get_or xs s 0) (sym (map-append g es (replicate (15 - length es) none)))
    ∙ ap (get_or (map g (laid es)) s) (sym e)
    ∙ get_or-map g (laid es) s none

module _ (es : List Entry) (few : length es ≤ 15) where
  pub whole-leaf : WholeLeaf (leaf_with es)
  unfolding leaf_with
  whole-leaf =
      record {
        ikeys-15 = long (λ e. e.ikey);
        classes-15 = long (λ e. e.class);
        refs-15 = long (λ e. e.at);
      }
    where
      long : (g : Entry → ℕ) → length (map g es ++ zeros (15 - length es)) ≡ 15
      long g = simp (length-append, length-replicate, length-map) (omega arith)

  word_made : made_sorted 15 (length es) ≡ accepted ((leaf_with es).word ∷ [])
  unfolding leaf_with
  word_made = sorted-accepted (length es) few ∙ ap (λ (w : ℕ). accepted (w ∷ []))
      (sym (ap (λ (a : Answer). get_or a.values 0 0) (sorted-accepted (length es) few)))

  word-valid : valid_word 15 (leaf_with es).word ≡ true
  word-valid = sorted-valid (length es) few word_made

  -- its word has slots 0, 1, .. in use
  used-first : slots_in_use (slots_of (leaf_with es).word) ≡ map (λ (e : Entry). e.ikey) (take (length es) names)
  used-first =
      sym (used-named (leaf_with es).word word-valid)
      ∙ ap (map (λ (e : Entry). e.ikey)) (sorted-view (length es) few word_made names (omega (arith, names-length)))

  nones : (c i : ℕ) → get_or (replicate c none) i none ≡ none
  nones zero i = refl
  nones (suc c) zero = refl
  nones (suc c) (suc i) = nones c i

  beyond : (s : ℕ) → length es ≤ s → get_or (laid es) s none ≡ none
  beyond s l =
      let z : s ≡ length es + (s - length es) = omega arith in
      ap (λ (i : ℕ). get_or (laid es) i none) z ∙ get_or-append-add es (replicate (15 - length es) none) (s - length es) none
      ∙ nones (15 - length es) (s - length es)

  -- a slot below their number is in use
  used-below : (s : ℕ) → s < length es → 1 ≤ count s (slots_in_use (slots_of (leaf_with es).word))
  used-below s l =
      let U = map (λ (e : Entry). e.ikey) (take (length es) names) in
      let n : length U ≡ length es = length-map (take (length es) names) (λ (e : Entry). e.ikey)
      ∙ length-take-le (length es) names (omega (arith, names-length)) in
      let q : get_or U s 0 ≡ s = get_or-map (λ (e : Entry). e.ikey) (take (length es) names) s none
      ∙ ap (λ (e : Entry). e.ikey) (get_or-take (length es) names s none l ∙ names_at s (omega arith)) in
      rw used-first (subst (λ (x : ℕ). 1 ≤ count x U) q (count_at U s (omega arith)))

  module _ (nodes : List ℕ) (n : ℕ) (N : Nodes nodes n) (k : ℕ) (h : k < n) where
    abbrev after : List ℕ
    after = put_leaf nodes k (leaf_with es)

    whole : length (leaf_words (leaf_with es)) ≡ 47
    whole = leaf-length (leaf_with es) whole-leaf

    stored : (i : ℕ) → i < 47 → word_at after k i ≡ get_or (leaf_words (leaf_with es)) i 0
    stored = word-stored nodes n N k h (leaf_words (leaf_with es)) whole

    after-word : word_at after k 1 ≡ (leaf_with es).word
    after-word = stored 1 (omega arith)

    after-kind : kind_at after k ≡ 1
    after-kind = kind-stored nodes k (node-fits nodes n N k h) (leaf_words (leaf_with es)) whole

    after-entry : (s : ℕ) → s < 15 → entry_at after k s ≡ get_or (laid es) s none
    unfolding leaf_with
    after-entry s l =
        let two : List ℕ = 1 ∷ (leaf_with es).word ∷ [] in
        let i = (leaf_with es).ikeys in
        let c = (leaf_with es).classes in
        let r = (leaf_with es).refs in
        let w = whole-leaf in
        let ic : length (i ++ c) ≡ 30 = length-append i c
        ∙ (let z : length i + length c ≡ 30 = omega (arith, w.ikeys-15, w.classes-15) in z) in
        let a : word_at after k (2 + s) ≡ get_or i s 0 =
        stored (2 + s) (omega arith) ∙ get_or-append-add two (i ++ c ++ r) s 0 ∙ get_or-append (i ++ c) r 0 s (omega arith)
        ∙ get_or-append i c 0 s (omega (arith, w.ikeys-15)) in
        let q : 17 + s ≡ 2 + (length i + s) = omega (arith, w.ikeys-15) in
        let b : word_at after k (17 + s) ≡ get_or c s 0 =
        stored (17 + s) (omega arith) ∙ ap (λ (x : ℕ). get_or (leaf_words (leaf_with es)) x 0) q
        ∙ get_or-append-add two (i ++ c ++ r) (length i + s) 0
        ∙ get_or-append (i ++ c) r 0 (length i + s) (omega (arith, w.ikeys-15)) ∙ get_or-append-add i c s 0 in
        let p : 32 + s ≡ 2 + (length (i ++ c) + s) = omega arith in
        let d : word_at after k (32 + s) ≡ get_or r s 0 =
        stored (32 + s) (omega arith) ∙ ap (λ (x : ℕ). get_or (leaf_words (leaf_with es)) x 0) p
        ∙ get_or-append-add two (i ++ c ++ r) (length (i ++ c) + s) 0
        ∙ get_or-append-add (i ++ c) r s 0 in
        same-entry (a ∙ column (λ e. e.ikey) refl es s) (b ∙ column (λ e. e.class) refl es s) (d ∙ column (λ e. e.at) refl es s)
      where
        same-entry : {x y z : ℕ} {e : Entry} → x ≡ e.ikey → y ≡ e.class → z ≡ e.at → record { ikey = x; class = y; at = z } ≡ e
        same-entry p q r = λ i. record { ikey = p i; class = q i; at = r i }

    after-valid : valid_word 15 (word_at after k 1) ≡ true
    after-valid = ap (valid_word 15) after-word ∙ word-valid

    after-fifteen : fifteen after k ≡ laid es
    after-fifteen =
        ext_get_or none (fifteen after k) (laid es) (tabled-length (entry_at after k) 0 15 ∙ sym (laid-long es few))
        (λ s l. let b : s < 15 = omega (arith, tabled-length (entry_at after k) 0 15) in fifteen-at after k s b ∙ after-entry s b)

    pub entries-put : entries_at after k ≡ es
    entries-put = entries-view after k after-valid ∙ ap₂ entries_in_order after-word after-fifteen ∙ laid-view es few word_made

    after-rest : RestZero after k after-valid
    after-rest s l e =
        ⊎_elim
        (λ b. absurd (omega (arith, used-below s b, ap (λ (w : ℕ). count s (slots_in_use (slots_of w))) after-word)))
        (λ b. subst (λ (x : Entry). T (is_zero x)) (sym (after-entry s l ∙ beyond s b)) tt)
        (lt-or-ge s (length es))

    -- the leaf is right, and is these entries
    pub leaf-put-right : T (every of_class es) → T (rising es) → T (leaf_right after k)
    leaf-put-right c r =
        leaf-if after k after-kind after-valid (subst (λ (xs : List Entry). T (every of_class xs)) (sym entries-put) c)
        (subst (λ (xs : List Entry). T (rising xs)) (sym entries-put) r) (rest-if after k after-valid after-rest)

    pub leaf-put : T (every of_class es) → T (rising es) → Wrote nodes after n k (entry_node es)
    leaf-put c r =
        let t = leaf-put-right c r in
        put-wrote nodes n N k h (leaf_words (leaf_with es)) whole (entry_node es) (sound-leaf after k t)
        (view-leaf after k t ∙ ap entry_node entries-put)

    -- the first entry stands in slot 0
    pub first_slot : 0 < length es → slot_at 0 (slots_at after k) ≡ 0
    first_slot pos =
        let w = (leaf_with es).word in
        let U = slots_in_use (slots_of w) in
        let a : length U ≡ length es = ap length used-first ∙ length-map (take (length es) names) (λ (e : Entry). e.ikey)
        ∙ length-take-le (length es) names (omega (arith, names-length)) in
        let size : 0 < (slots_of w).size = omega (arith, length-take (slots_of w).size (slots_of w).slots) in
        ap (λ (x : ℕ). slot_at 0 (slots_of x)) after-word ∙ sym (get_or-take (slots_of w).size (slots_of w).slots 0 0 size)
        ∙ ap (λ (l : List ℕ). get_or l 0 0) used-first
        ∙ get_or-map (λ (e : Entry). e.ikey) (take (length es) names) 0 none
        ∙ ap (λ (e : Entry). e.ikey) (get_or-take (length es) names 0 none pos)
