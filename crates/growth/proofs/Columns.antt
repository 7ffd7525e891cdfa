-- A leaf in memory: its slots, its fifteen entries by slot, and what stands in the slots not in use. Assumes nothing.
use mathlib.Core.Path.{◌≡◌, refl, sym, ap, ◌∙◌, subst}
use mathlib.Core.Bool.{Bool, true}
use mathlib.Core.List.{List, [], ◌∷◌, map}
use Prim.Native.Nat.{ℕ, suc, ◌+◌, ◌≤◌, ◌<◌}
use native.Mathlib.Omega.{arith}
use native.Mathlib.Decide.{ℕ_discrete}
use lib.Dec.{T}
use lib.ListN.{length, get_or, set, length-take, length-drop, take-append-drop}
use lib.Seq.{get_or-take, get_or-drop, set-get_or}
use Rattle.bank.specs.Lists.{count}
use Rattle.bank.proofs.Tests.{and_left, and_right, and_both}
use Rattle.bank.proofs.Counts.{count-other, count-append, count_at, once}
use Rattle.nibbles.specs.Words.{valid_word}
use Rattle.leaf_entries.specs.declared.Entry.{Entry}
use Rattle.leaf.specs.Lists.{every}
use Rattle.leaf.specs.Leaf.{none, slots_in_use, viewed, slots_of, entries_in_order}
use Rattle.leaf.proofs.Views.{good-word}
use Rattle.arena.specs.Layout.{word_at}
use Rattle.forest.specs.Nodes.{entry_at, not_in_use, slots_at, entries_at, rest_at, is_zero}
use Rattle.views.specs.Views.{tabled}
use Rattle.growth.proofs.Frames.{map_at, slots-wide, slot-below}
use Rattle.growth.proofs.Memory.{tabled-length, tabled-at}

-- ---- members of a list of slots

-- what holds at every member holds at one that is counted
pub member : {A : Type 0} (test : A → Bool) (f : ℕ → A) (s : ℕ) (xs : List ℕ) → T (every test (map f xs)) → 1 ≤ count s xs → T (test (f s))
unfolding every count
member test f s [] t h = absurd (omega arith)
member test f s (x ∷ xs) t h =
    elim (ℕ_discrete x s) [
      | yes e ↦ subst (λ (y : ℕ). T (test (f y))) e (and_left (test (f x)) _ t)
      | no e ↦ member test f s xs (and_right (test (f x)) _ t) (omega (arith, count-other x s xs e))
    ]

-- and the other way round
pub members : {A : Type 0} (test : A → Bool) (f : ℕ → A) (xs : List ℕ) → ((i : ℕ) → i < length xs → T (test (f (get_or xs i 0))))
    → T (every test (map f xs))
unfolding every
members test f [] h = tt
members test f (x ∷ xs) h = and_both (test (f x)) _ (h 0 (omega arith)) (members test f xs (λ i l. h (suc i) (omega arith)))

-- ---- the fifteen entries

abbrev pub fifteen : List ℕ → ℕ → List Entry
fifteen m k = tabled (entry_at m k) 0 15

pub fifteen-at : (m : List ℕ) (k s : ℕ) → s < 15 → get_or (fifteen m k) s none ≡ entry_at m k s
fifteen-at m k s l = tabled-at (entry_at m k) 0 15 s none l ∙ ap (entry_at m k) (let z : 0 + s ≡ s = omega arith in z)

module _ (m : List ℕ) (k : ℕ) (v : valid_word 15 (word_at m k 1) ≡ true) where
  abbrev slots : List ℕ
  slots = (slots_at m k).slots

  abbrev used : List ℕ
  used = slots_in_use (slots_at m k)

  abbrev unused : List ℕ
  unused = not_in_use (slots_at m k)

  wide : length slots ≡ 15
  wide = slots-wide (word_at m k 1) v

  -- the entries are the view of the fifteen
  pub entries-view : entries_at m k ≡ entries_in_order (word_at m k 1) (fifteen m k)
  unfolding entries_at viewed
  entries-view =
      map_at (entry_at m k) (λ s. get_or (fifteen m k) s none) used
      (λ i l. let n = length-take (slots_at m k).size slots in
      sym (fifteen-at m k (get_or used i 0) (rw (get_or-take (slots_at m k).size slots i 0 (omega arith))
      (slot-below (word_at m k 1) v i (omega (arith, wide))))))

  -- a slot is in use or not
  pub used-or-not : (s : ℕ) → s < 15 → count s used + count s unused ≡ 1
  used-or-not s l =
      sym (count-append s used unused) ∙ ap (count s) (take-append-drop (slots_at m k).size slots)
      ∙ once slots (good-word (word_at m k 1) v).once s (omega (arith, wide))

  -- slots not in use are zero
  abbrev pub RestZero : Type 0
  RestZero = (s : ℕ) → s < 15 → count s used ≡ 0 → T (is_zero (entry_at m k s))

  pub rest-means : T (every is_zero (rest_at m k)) → RestZero
  unfolding rest_at
  rest-means t s l h = member is_zero (entry_at m k) s unused t (omega (arith, used-or-not s l))

  pub rest-if : RestZero → T (every is_zero (rest_at m k))
  unfolding rest_at
  rest-if f =
      members is_zero (entry_at m k) unused
      (λ i l. let n = length-drop (slots_at m k).size slots in
      let q : get_or unused i 0 < 15 = rw (get_or-drop (slots_at m k).size slots i 0)
      (slot-below (word_at m k 1) v ((slots_at m k).size + i) (omega (arith, wide))) in
      f (get_or unused i 0) q (omega (arith, used-or-not (get_or unused i 0) q, count_at unused i l)))

-- ---- an entry that names its slot: what a law says of every leaf's view it says of the slots in use

abbrev pub naming : ℕ → Entry
naming s = record { ikey = s; class = 0; at = 0 }

abbrev pub names : List Entry
names = tabled naming 0 15

pub names_at : (s : ℕ) → s < 15 → get_or names s none ≡ naming s
names_at s l = tabled-at naming 0 15 s none l ∙ ap naming (let z : 0 + s ≡ s = omega arith in z)

pub names-length : length names ≡ 15
names-length = tabled-length naming 0 15

pub names-set : (s : ℕ) → s < 15 → set names s (naming s) ≡ names
names-set s l = ap (set names s) (sym (names_at s l)) ∙ set-get_or names s none

map-named : (xs : List ℕ) → map (λ (e : Entry). e.ikey) (map naming xs) ≡ xs
map-named [] = refl
map-named (x ∷ xs) = ap (x ∷◌) (map-named xs)

pub used-named : (word : ℕ) → valid_word 15 word ≡ true → map (λ (e : Entry). e.ikey) (entries_in_order word names) ≡ slots_in_use (slots_of word)
unfolding viewed
used-named word v =
    ap (map (λ (e : Entry). e.ikey))
    (map_at (λ s. get_or names s none) naming (slots_in_use (slots_of word))
    (λ i l. let n = length-take (slots_of word).size (slots_of word).slots in
    names_at _ (rw (get_or-take (slots_of word).size (slots_of word).slots i 0 (omega arith))
    (slot-below word v i (omega (arith, slots-wide word v))))))
    ∙ map-named (slots_in_use (slots_of word))
