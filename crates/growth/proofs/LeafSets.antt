-- Words of one leaf set one by one: an entry more by its slot word, or another entry in a slot in use. Assumes nothing.
use mathlib.Core.Path.{◌≡◌, refl, sym, ap, ap₂, ◌∙◌, subst}
use mathlib.Core.Logic.{◌≢◌}
use mathlib.Core.Bool.{true}
use mathlib.Core.List.{List, ◌∷◌, ◌++◌, map, map-append}
use Prim.Native.Nat.{ℕ, ◌+◌, ◌≤◌, ◌<◌}
use native.Mathlib.Omega.{arith}
use lib.Dec.{T, eqb}
use lib.ListN.{length, get_or, set, take, drop, length-set, take-append-drop}
use lib.Seq.{get_or-set_same, get_or-set_other}
use Rattle.refusal.specs.Answer.{accepted}
use Rattle.bank.specs.Lists.{count}
use Rattle.bank.specs.Calls.{insert_from_back}
use Rattle.bank.proofs.Tests.{and_left, and_right, is_true}
use Rattle.bank.proofs.Counts.{count_same, count-other, count-append}
use Rattle.nibbles.specs.Words.{valid_word}
use Rattle.permuter.specs.Words.{changed}
use Rattle.leaf_entries.specs.declared.Entry.{Entry}
use Rattle.leaf.specs.Lists.{every}
use Rattle.leaf.specs.Leaf.{none, slots_in_use, slots_of, entries_in_order, rising}
use Rattle.leaf.proofs.Leaves.{put_view, put-valid}
use Rattle.leaf.proofs.Lists.{map-take, map-drop}
use Rattle.arena.specs.Layout.{node_start, word_at, kind_at}
use Rattle.forest.specs.Nodes.{entry_at, slots_at, entries_at, rest_at, of_class, is_zero, leaf_right}
use Rattle.model.specs.Leaves.{entry_put}
use Rattle.growth.proofs.Frames.{Same, leaf-kind, sound-leaf, view-leaf}
use Rattle.growth.proofs.Memory.{Nodes, node-fits, Wrote, wrote, tabled-set, tabled-same}
use Rattle.growth.proofs.Columns.{fifteen, entries-view, RestZero, rest-if, rest-means, naming, names, names-length, names-set}
use Rattle.growth.proofs.Columns.{used-named}
use Rattle.growth.proofs.LeafWrites.{entry_node, leaf-if}

-- ---- one word of node k set

module _ (m : List ℕ) (k a w : ℕ) where
  abbrev put1 : List ℕ
  put1 = set m (node_start k + a) w

  pub set_here : a < 47 → node_start k + 47 ≤ length m → word_at put1 k a ≡ w
  set_here l f = get_or-set_same m (node_start k + a) w 0 (omega arith)

  pub set-beside : (i : ℕ) → i ≢ a → word_at put1 k i ≡ word_at m k i
  set-beside i ne = get_or-set_other m (node_start k + a) (node_start k + i) w 0 (λ e. ne (let z : i ≡ a = omega arith in z))

  pub set-elsewhere : a < 47 → (j : ℕ) → j ≢ k → Same m put1 j
  set-elsewhere l j ne i h = get_or-set_other m (node_start k + a) (node_start j + i) w 0 (λ e. ne (let z : j ≡ k = omega arith in z))

  pub set-kind : 0 < a → kind_at put1 k ≡ kind_at m k
  set-kind l = get_or-set_other m (node_start k + a) (node_start k) w 0 (λ e. omega arith)

  pub set-head : (i : ℕ) → i < 2 → get_or put1 i 0 ≡ get_or m i 0
  set-head i l = get_or-set_other m (node_start k + a) i w 0 (λ e. omega arith)

-- ---- the three words of an entry

module _ (m : List ℕ) (k slot : ℕ) (e : Entry) where
  abbrev pub at1 : List ℕ
  at1 = set m (node_start k + (2 + slot)) e.ikey

  abbrev pub at2 : List ℕ
  at2 = set at1 (node_start k + (17 + slot)) e.class

  abbrev pub at3 : List ℕ
  at3 = set at2 (node_start k + (32 + slot)) e.at

entry-parts : {x y z x' y' z' : ℕ} → x ≡ x' → y ≡ y' → z ≡ z'
    → ◌≡◌ {A = Entry} (record { ikey = x; class = y; at = z }) (record { ikey = x'; class = y'; at = z' })
entry-parts p q r = λ i. record { ikey = p i; class = q i; at = r i }

module _ (m : List ℕ) (k slot : ℕ) (e : Entry) (s< : slot < 15) (fits : node_start k + 47 ≤ length m) where
  abbrev m1 : List ℕ
  m1 = at1 m k slot e

  abbrev m2 : List ℕ
  m2 = at2 m k slot e

  abbrev m3 : List ℕ
  m3 = at3 m k slot e

  pub put_is : entry_put m k slot e ≡ m3
  unfolding entry_put
  put_is =
      let a : node_start k + 2 + slot ≡ node_start k + (2 + slot) = omega arith in
      let b : node_start k + 17 + slot ≡ node_start k + (17 + slot) = omega arith in
      let c : node_start k + 32 + slot ≡ node_start k + (32 + slot) = omega arith in
      rw (a, b, c)

  l1 : length m1 ≡ length m
  l1 = length-set m (node_start k + (2 + slot)) e.ikey

  l2 : length m2 ≡ length m
  l2 = length-set m1 (node_start k + (17 + slot)) e.class ∙ l1

  pub put3-length : length m3 ≡ length m
  put3-length = length-set m2 (node_start k + (32 + slot)) e.at ∙ l2

  pub put3-head : (i : ℕ) → i < 2 → get_or m3 i 0 ≡ get_or m i 0
  put3-head i l = set-head m2 k (32 + slot) e.at i l ∙ set-head m1 k (17 + slot) e.class i l ∙ set-head m k (2 + slot) e.ikey i l

  pub put3-elsewhere : (j : ℕ) → j ≢ k → Same m m3 j
  put3-elsewhere j ne i l =
      set-elsewhere m2 k (32 + slot) e.at (omega arith) j ne i l ∙ set-elsewhere m1 k (17 + slot) e.class (omega arith) j ne i l
      ∙ set-elsewhere m k (2 + slot) e.ikey (omega arith) j ne i l

  pub put3-word : word_at m3 k 1 ≡ word_at m k 1
  put3-word =
      set-beside m2 k (32 + slot) e.at 1 (λ z. omega arith) ∙ set-beside m1 k (17 + slot) e.class 1 (λ z. omega arith)
      ∙ set-beside m k (2 + slot) e.ikey 1 (λ z. omega arith)

  pub put3-kind : kind_at m3 k ≡ kind_at m k
  put3-kind = set-kind m2 k (32 + slot) e.at (omega arith) ∙ set-kind m1 k (17 + slot) e.class (omega arith)
      ∙ set-kind m k (2 + slot) e.ikey (omega arith)

  put3-here : entry_at m3 k slot ≡ e
  put3-here =
      entry-parts
      (set-beside m2 k (32 + slot) e.at (2 + slot) (λ z. omega arith)
      ∙ set-beside m1 k (17 + slot) e.class (2 + slot) (λ z. omega arith) ∙ set_here m k (2 + slot) e.ikey (omega arith) fits)
      (set-beside m2 k (32 + slot) e.at (17 + slot) (λ z. omega arith)
      ∙ set_here m1 k (17 + slot) e.class (omega arith) (omega (arith, l1)))
      (set_here m2 k (32 + slot) e.at (omega arith) (omega (arith, l2)))

  pub put3-beside : (s : ℕ) → s < 15 → s ≢ slot → entry_at m3 k s ≡ entry_at m k s
  put3-beside s l ne =
      let beside : (o : ℕ) → o + s ≢ o + slot = λ o z. ne (let y : s ≡ slot = omega arith in y) in
      entry-parts
      (set-beside m2 k (32 + slot) e.at (2 + s) (λ z. omega arith) ∙ set-beside m1 k (17 + slot) e.class (2 + s) (λ z. omega arith)
      ∙ set-beside m k (2 + slot) e.ikey (2 + s) (beside 2))
      (set-beside m2 k (32 + slot) e.at (17 + s) (λ z. omega arith) ∙ set-beside m1 k (17 + slot) e.class (17 + s) (beside 17)
      ∙ set-beside m k (2 + slot) e.ikey (17 + s) (λ z. omega arith))
      (set-beside m2 k (32 + slot) e.at (32 + s) (beside 32) ∙ set-beside m1 k (17 + slot) e.class (32 + s) (λ z. omega arith)
      ∙ set-beside m k (2 + slot) e.ikey (32 + s) (λ z. omega arith))

  pub put3-fifteen : fifteen m3 k ≡ set (fifteen m k) slot e
  put3-fifteen = tabled-set (entry_at m k) (entry_at m3 k) 15 slot e none s< put3-here (λ s l ne. put3-beside s l ne)

pub rest-zero : (m : List ℕ) (k : ℕ) → T (leaf_right m k) → T (every is_zero (rest_at m k))
unfolding leaf_right
rest-zero m k t =
    and_right (rising (entries_at m k)) _ (and_right (every of_class (entries_at m k)) _
    (and_right (valid_word 15 (word_at m k 1)) _ (and_right (eqb (kind_at m k) 1) _ t)))

-- ---- an entry more by an accepted insertion

module _ (nodes : List ℕ) (n : ℕ) (N : Nodes nodes n) (k : ℕ) (h : k < n) (t : T (leaf_right nodes k)) (p next slot : ℕ) (s< : slot < 15)
    {told : List ℕ} (a : changed 15 (word_at nodes k 1) (insert_from_back p) ≡ accepted (next ∷ slot ∷ told)) (e : Entry) where
  abbrev worded : List ℕ
  worded = set nodes (node_start k + 1) next

  abbrev pub inserted_in : List ℕ
  inserted_in = entry_put worded k slot e

  fits : node_start k + 47 ≤ length nodes
  fits = node-fits nodes n N k h

  fits1 : node_start k + 47 ≤ length worded
  fits1 = omega (arith, fits, length-set nodes (node_start k + 1) next)

  three : inserted_in ≡ at3 worded k slot e
  three = put_is worded k slot e s< fits1

  valid : valid_word 15 (word_at nodes k 1) ≡ true
  unfolding leaf_right
  valid = is_true _ (and_left (valid_word 15 (word_at nodes k 1)) _ (and_right (eqb (kind_at nodes k) 1) _ t))

  abbrev after : List ℕ
  after = at3 worded k slot e

  entry_kept : (s : ℕ) → entry_at worded k s ≡ entry_at nodes k s
  entry_kept s =
      entry-parts (set-beside nodes k 1 next (2 + s) (λ z. omega arith)) (set-beside nodes k 1 next (17 + s) (λ z. omega arith))
      (set-beside nodes k 1 next (32 + s) (λ z. omega arith))

  word_next : word_at after k 1 ≡ next
  word_next = put3-word worded k slot e s< fits1 ∙ set_here nodes k 1 next (omega arith) fits

  next-valid : valid_word 15 (word_at after k 1) ≡ true
  next-valid = ap (valid_word 15) word_next ∙ put-valid (word_at nodes k 1) p a

  kept-fifteen : fifteen worded k ≡ fifteen nodes k
  kept-fifteen = tabled-same (entry_at nodes k) (entry_at worded k) (λ s. entry_kept s) 0 15

  entries-inserted : entries_at after k ≡ take p (entries_at nodes k) ++ e ∷ drop p (entries_at nodes k)
  entries-inserted =
      entries-view after k next-valid
      ∙ ap₂ entries_in_order word_next (put3-fifteen worded k slot e s< fits1 ∙ ap (λ (xs : List Entry). set xs slot e) kept-fifteen)
      ∙ put_view (word_at nodes k 1) p a (fifteen nodes k) e refl
      ∙ ap (λ (xs : List Entry). take p xs ++ e ∷ drop p xs) (sym (entries-view nodes k valid))

  abbrev U : List ℕ
  U = slots_in_use (slots_at nodes k)

  used-after : slots_in_use (slots_at after k) ≡ take p U ++ slot ∷ drop p U
  used-after =
      let g : Entry → ℕ = λ e. e.ikey in
      let O = entries_in_order (word_at nodes k 1) names in
      let u : map g O ≡ U = used-named (word_at nodes k 1) valid in
      ap (λ (w : ℕ). slots_in_use (slots_of w)) word_next ∙ sym (used-named next (put-valid (word_at nodes k 1) p a))
      ∙ ap (λ (xs : List Entry). map g (entries_in_order next xs)) (sym (names-set slot s<))
      ∙ ap (map g) (put_view (word_at nodes k 1) p a names (naming slot) names-length)
      ∙ map-append g (take p O) (naming slot ∷ drop p O)
      ∙ ap₂ (λ (x y : List ℕ). x ++ slot ∷ y) (map-take g p O ∙ ap (take p) u) (map-drop g p O ∙ ap (drop p) u)

  count-parts : (s : ℕ) → count s (take p U) + count s (drop p U) ≡ count s U
  count-parts s = sym (count-append s (take p U) (drop p U)) ∙ ap (count s) (take-append-drop p U)

  not-slot : (s : ℕ) → count s (slots_in_use (slots_at after k)) ≡ 0 → s ≢ slot
  not-slot s z q =
      omega (
        arith,
        ap (count s) (sym used-after) ∙ z,
        count-append s (take p U) (slot ∷ drop p U),
        ap (λ (x : ℕ). count x (slot ∷ drop p U)) q,
        count_same slot (drop p U),
      )

  after-rest : RestZero after k next-valid
  after-rest s l z =
      let ne = not-slot s z in
      let c : count s U ≡ 0 =
      omega (
        arith,
        ap (count s) (sym used-after) ∙ z,
        count-append s (take p U) (slot ∷ drop p U),
        count-other slot s (drop p U) (λ q. ne (sym q)),
        count-parts s,
      ) in
      subst (λ (x : Entry). T (is_zero x)) (sym (put3-beside worded k slot e s< fits1 s l ne ∙ entry_kept s))
      (rest-means nodes k valid zeros s l c)
    where
      zeros : T (every is_zero (rest_at nodes k))
      zeros = rest-zero nodes k t

  abbrev pub longer : List Entry
  longer = take p (entries_at nodes k) ++ e ∷ drop p (entries_at nodes k)

  pub entry_inserted : T (every of_class longer) → T (rising longer) → Wrote nodes inserted_in n k (entry_node longer)
  entry_inserted c r =
      let kind : kind_at after k ≡ 1 = put3-kind worded k slot e s< fits1 ∙ set-kind nodes k 1 next (omega arith) ∙ leaf-kind nodes k t in
      let right : T (leaf_right after k) =
      leaf-if after k kind next-valid (subst (λ (xs : List Entry). T (every of_class xs)) (sym entries-inserted) c)
      (subst (λ (xs : List Entry). T (rising xs)) (sym entries-inserted) r)
      (rest-if after k next-valid after-rest) in
      subst (λ (m : List ℕ). Wrote nodes m n k (entry_node longer)) (sym three)
      (wrote nodes after n N k h (entry_node longer) (put3-length worded k slot e s< fits1 ∙ length-set nodes (node_start k + 1) next)
      (λ i l. put3-head worded k slot e s< fits1 i l ∙ set-head nodes k 1 next i l)
      (λ j ne i l. put3-elsewhere worded k slot e s< fits1 j ne i l ∙ set-elsewhere nodes k 1 next (omega arith) j ne i l)
      (sound-leaf after k right) (view-leaf after k right ∙ ap entry_node entries-inserted))
