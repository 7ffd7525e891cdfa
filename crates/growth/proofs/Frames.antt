-- What a node is depends on its 47 words alone. Assumes nothing.
use mathlib.Core.Path.{◌≡◌, refl, sym, ap, ap₂, ◌∙◌, subst}
use mathlib.Core.Bool.{Bool, true, false, ◌||◌}
use mathlib.Core.List.{List, [], ◌∷◌, map}
use Prim.Native.Nat.{ℕ, suc, ◌+◌, ◌-◌, ◌/◌, ◌≤◌, ◌<◌}
use native.Mathlib.Nat.{add-zero}
use native.Mathlib.Omega.{arith}
use lib.Dec.{T, eqb, leb, eqb→eq, leb→le}
use lib.ListN.{length, get_or, length-take, length-drop}
use lib.Seq.{get_or-take, get_or-drop}
use Rattle.bank.specs.Bank.{Bank}
use Rattle.bank.proofs.Tests.{and_left, and_right, is_true, holds}
use Rattle.nibbles.specs.Words.{valid_word}
use Rattle.nibbles.proofs.Nibbles.{length-nibbles}
use Rattle.leaf.specs.Lists.{every}
use Rattle.leaf.specs.Leaf.{slots_in_use, slots_of}
use Rattle.leaf_entries.proofs.Views.{good-word, slot-fifteen}
use Rattle.arena.specs.Parts.{part}
use Rattle.arena.specs.Layout.{node_start, node_at, word_at, kind_at}
use Rattle.arena.proofs.Words.{part_ext, part_at}
use Rattle.forest.specs.Nodes.{entry_at, not_in_use, slots_at, entries_at, rest_at, leaf_right, count_at, ikeys_at, children_at, internode_right}
use Rattle.forest.specs.Nodes.{all_zero, node_free}
use Rattle.forest.specs.Trees.{seen_as}
use Rattle.trees.specs.Nodes.{free, leaf, internode}
use Rattle.views.specs.Views.{entry_view, node_view, node_sound}
use Rattle.views.proofs.Nodes.{free-sound, leaf-sound, internode-sound}

pub map_at : {A : Type 0} (f g : ℕ → A) (xs : List ℕ) → ((i : ℕ) → i < length xs → f (get_or xs i 0) ≡ g (get_or xs i 0)) → map f xs ≡ map g xs
map_at f g [] h = refl
map_at f g (x ∷ xs) h = ap₂ ◌∷◌ (h 0 (omega arith)) (map_at f g xs (λ i l. h (suc i) (omega arith)))

-- ---- the slots of a valid word are 0 to 14

module _ (word : ℕ) (v : valid_word 15 word ≡ true) where
  pub slots-wide : length (slots_of word).slots ≡ 15
  slots-wide = length-nibbles 15 (word / 16)

  pub slot-below : (i : ℕ) → i < 15 → get_or (slots_of word).slots i 0 < 15
  slot-below i l = slot-fifteen word v i l refl

  pub size-most : (slots_of word).size ≤ 15
  size-most = (good-word word v).sized

-- ---- two memories with the same words in node k

module _ (m m' : List ℕ) (k : ℕ) where
  abbrev pub Same : Type 0
  Same = (i : ℕ) → i < 47 → word_at m' k i ≡ word_at m k i

  module _ (fits : node_start k + 47 ≤ length m) (fits' : node_start k + 47 ≤ length m') (same : Same) where
    pub kind-same : kind_at m' k ≡ kind_at m k
    kind-same =
        let z : node_start k + 0 ≡ node_start k = add-zero (node_start k) in
        ap (λ (i : ℕ). get_or m' i 0) (sym z) ∙ same 0 (omega arith) ∙ ap (λ (i : ℕ). get_or m i 0) z

    part_same : (a n : ℕ) → a + n ≤ 47 → part m' (node_start k + a) n ≡ part m (node_start k + a) n
    part_same a n h =
        part_ext m' m (node_start k + a) (node_start k + a) n (omega arith) (omega arith)
        (λ i l. let z : node_start k + a + i ≡ node_start k + (a + i) = omega arith in
        ap (λ (j : ℕ). get_or m' j 0) z ∙ same (a + i) (omega arith) ∙ ap (λ (j : ℕ). get_or m j 0) (sym z))

    entry-same : (s : ℕ) → s < 15 → entry_at m' k s ≡ entry_at m k s
    entry-same s l = rw (same (2 + s) (omega arith), same (17 + s) (omega arith), same (32 + s) (omega arith))

    module _ (v : valid_word 15 (word_at m k 1) ≡ true) where
      slots_same : slots_at m' k ≡ slots_at m k
      slots_same = ap slots_of (same 1 (omega arith))

      pub entries-same : entries_at m' k ≡ entries_at m k
      unfolding entries_at
      entries-same =
          ap (λ (b : Bank). map (entry_at m' k) (slots_in_use b)) slots_same
          ∙ map_at (entry_at m' k) (entry_at m k) (slots_in_use (slots_at m k))
          (λ i l. let n = length-take (slots_at m k).size (slots_at m k).slots in
          entry-same _ (rw (get_or-take (slots_at m k).size (slots_at m k).slots i 0 (omega arith))
          (slot-below (word_at m k 1) v i (omega (arith, slots-wide (word_at m k 1) v)))))

      rest-same : rest_at m' k ≡ rest_at m k
      unfolding rest_at
      rest-same =
          ap (λ (b : Bank). map (entry_at m' k) (not_in_use b)) slots_same
          ∙ map_at (entry_at m' k) (entry_at m k) (not_in_use (slots_at m k))
          (λ i l. let n = length-drop (slots_at m k).size (slots_at m k).slots in
          entry-same _ (rw (get_or-drop (slots_at m k).size (slots_at m k).slots i 0)
          (slot-below (word_at m k 1) v ((slots_at m k).size + i) (omega (arith, slots-wide (word_at m k 1) v)))))

    pub leaf-same : T (leaf_right m k) → T (leaf_right m' k) × (entries_at m' k ≡ entries_at m k)
    unfolding leaf_right
    leaf-same t =
        let v : valid_word 15 (word_at m k 1) ≡ true = is_true _
        (and_left (valid_word 15 (word_at m k 1)) _ (and_right (eqb (kind_at m k) 1) _ t)) in
        (rw (kind-same, same 1 (omega arith), entries-same v, rest-same v) t, entries-same v)

    pub leaf-still : T (leaf_right m k) → T (leaf_right m' k)
    leaf-still t = (leaf-same t).0

    pub internode-same : T (internode_right m k)
        → T (internode_right m' k) × ((ikeys_at m' k ≡ ikeys_at m k) × (children_at m' k ≡ children_at m k))
    unfolding internode_right ikeys_at children_at
    internode-same t =
        let n = count_at m k in
        let c : n ≤ 15 = leb→le _ _ (and_left (leb n 15) _ (and_right (eqb (kind_at m k) 2) _ t)) in
        let e1 : count_at m' k ≡ n = same 1 (omega arith) in
        let e2 : part m' (node_start k + 2) n ≡ part m (node_start k + 2) n = part_same 2 n (omega arith) in
        let e3 : part m' (node_start k + 17) (n + 1) ≡ part m (node_start k + 17) (n + 1) = part_same 17 (n + 1) (omega arith) in
        let z2 : node_start k + 2 + n ≡ node_start k + (2 + n) = omega arith in
        let z3 : node_start k + 18 + n ≡ node_start k + (18 + n) = omega arith in
        let e4 : part m' (node_start k + 2 + n) (15 - n) ≡ part m (node_start k + 2 + n) (15 - n) =
        ap (λ (a : ℕ). part m' a (15 - n)) z2 ∙ part_same (2 + n) (15 - n) (omega arith) ∙ ap (λ (a : ℕ). part m a (15 - n)) (sym z2) in
        let e5 : part m' (node_start k + 18 + n) (29 - n) ≡ part m (node_start k + 18 + n) (29 - n) =
        ap (λ (a : ℕ). part m' a (29 - n)) z3 ∙ part_same (18 + n) (29 - n) (omega arith) ∙ ap (λ (a : ℕ). part m a (29 - n)) (sym z3) in
        (rw (kind-same, e1, e2, e4, e5) t, (rw (e1, e2), rw (e1, e3)))

    pub free-same : T (node_free m k) → T (node_free m' k)
    unfolding node_free
    free-same t =
        let z : node_start k + 0 ≡ node_start k = add-zero (node_start k) in
        subst (λ (xs : List ℕ). T (all_zero xs)) (ap (λ (a : ℕ). part m a 47) (sym z) ∙ sym (part_same 0 47 (omega arith))
        ∙ ap (λ (a : ℕ). part m' a 47) z) t

-- ---- a node is free, a leaf or an internode

-- what a sound node is
pub data Kind (m : List ℕ) (k : ℕ) : Type 0 where
  is-free : T (node_free m k) → kind_at m k ≡ 0 → Kind m k
  is_leaf : T (leaf_right m k) → kind_at m k ≡ 1 → Kind m k
  is-internode : T (internode_right m k) → kind_at m k ≡ 2 → Kind m k

module _ (m : List ℕ) (k : ℕ) where
  free-kind : node_start k + 47 ≤ length m → T (node_free m k) → kind_at m k ≡ 0
  unfolding node_free every
  free-kind fits t =
      let z : node_start k + 0 ≡ node_start k = add-zero (node_start k) in
      let p : get_or (node_at m k) 0 0 ≡ kind_at m k = part_at m (node_start k) 47 0 (omega arith) ∙ ap (λ (i : ℕ). get_or m i 0) z in
      sym p ∙ first (node_at m k) t
    where
      first : (xs : List ℕ) → T (every (λ x. eqb x 0) xs) → get_or xs 0 0 ≡ 0
      first [] t = refl
      first (x ∷ xs) t = eqb→eq x 0 (and_left (eqb x 0) _ t)

  pub leaf-kind : T (leaf_right m k) → kind_at m k ≡ 1
  unfolding leaf_right
  leaf-kind t = eqb→eq (kind_at m k) 1 (and_left (eqb (kind_at m k) 1) _ t)

  pub internode-kind : T (internode_right m k) → kind_at m k ≡ 2
  unfolding internode_right
  internode-kind t = eqb→eq (kind_at m k) 2 (and_left (eqb (kind_at m k) 2) _ t)

  pub sound-free : T (node_free m k) → T (node_sound m k)
  sound-free t = free-sound m k t

  pub sound-leaf : T (leaf_right m k) → T (node_sound m k)
  sound-leaf t = leaf-sound m k t

  pub sound-internode : T (internode_right m k) → T (node_sound m k)
  sound-internode t = internode-sound m k t

  pub kind-of : node_start k + 47 ≤ length m → T (node_sound m k) → Kind m k
  unfolding node_sound
  kind-of fits t = by (node_free m k) refl (leaf_right m k) refl (internode_right m k) refl t
    where
      by : (a : Bool) → node_free m k ≡ a → (b : Bool) → leaf_right m k ≡ b → (c : Bool) → internode_right m k ≡ c → T (a || (b || c))
          → Kind m k
      by true e b f c g t = let u : T (node_free m k) = holds e in is-free u (free-kind fits u)
      by false e true f c g t = let u : T (leaf_right m k) = holds f in is_leaf u (leaf-kind u)
      by false e false f true g t = let u : T (internode_right m k) = holds g in is-internode u (internode-kind u)
      by false e false f false g t = absurd t

  pub view-leaf : T (leaf_right m k) → node_view m k ≡ leaf (map (λ e. entry_view (seen_as e)) (entries_at m k))
  unfolding node_view
  view-leaf t = rw (leaf-kind t)

  pub view-internode : T (internode_right m k) → node_view m k ≡ internode (map suc (ikeys_at m k)) (children_at m k)
  unfolding node_view
  view-internode t = rw (internode-kind t)

  pub view-free : kind_at m k ≡ 0 → node_view m k ≡ free
  unfolding node_view
  view-free e = rw e

-- ---- same words, same node

module _ (m m' : List ℕ) (k : ℕ) (fits : node_start k + 47 ≤ length m) (fits' : node_start k + 47 ≤ length m') (same : Same m m' k) where
  pub node-same : T (node_sound m k) → T (node_sound m' k) × (node_view m' k ≡ node_view m k)
  node-same t = by (kind-of m k fits t)
    where
      by : Kind m k → T (node_sound m' k) × (node_view m' k ≡ node_view m k)
      by (is-free t e) = (
        sound-free m' k (free-same m m' k fits fits' same t),
        view-free m' k (kind-same m m' k fits fits' same ∙ e)
            ∙ sym (view-free m k e),
      )
      by (is_leaf t e) =
          let (u, q) = leaf-same m m' k fits fits' same t in
          (sound-leaf m' k u, view-leaf m' k u ∙ ap (λ es. leaf (map (λ e. entry_view (seen_as e)) es)) q ∙ sym (view-leaf m k t))
      by (is-internode t e) =
          let (u, q) = internode-same m m' k fits fits' same t in (
            sound-internode m' k u,
            view-internode m' k u ∙ ap₂ (λ (ks cs : List ℕ). internode (map suc ks) cs) q.0 q.1
                ∙ sym (view-internode m k t),
          )
