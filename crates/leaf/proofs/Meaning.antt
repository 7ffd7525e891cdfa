-- What the outcome of a search means: for strictly rising entries the key is met at one position, or belongs at one, and never both.
-- Assumes nothing.
use Prim.Native.Nat.{ℕ, ◌+◌, ◌*◌, ◌≤◌, ◌<◌, Ordering}
use mathlib.Core.Path.{◌≡◌, refl, sym, ap, ◌∙◌}
use mathlib.Core.Logic.{◌⊎◌, inl, inr}
use mathlib.Core.Bool.{Bool, true, false, cond, not, ◌&&◌}
use mathlib.Core.List.{List, [], ◌∷◌}
use native.Mathlib.Omega.{arith}
use native.Mathlib.Decide.{dec_lt}
use lib.Dec.{ltb, eqb, compare_is_eq}
use lib.ListN.{length, get_or, drop}
use borrow.Author.Tests.{ltb-true, ltb-false, eqb-true, eqb-false}
use Rattle.bank.specs.Bank.{slot_at}
use Rattle.order.specs.Bytes.{bytewise}
use Rattle.order.proofs.Bytes.{bytewise-same, bytewise-exact}
use Rattle.leaf_entries.specs.declared.Entry.{Entry}
use Rattle.leaf.specs.Leaf.{none, slots_of, entries_in_order, against, is_less, rising}
use Rattle.leaf.specs.Search.{
  found,
  conflict,
  layer,
  not_found,
  stored_suffix,
  same_bytes,
  met_with,
  place_equal,
  place_greater,
  outcome,
  Meets,
  Belongs,
}
use Rattle.leaf.proofs.Lists.{never, first-le, first_passes, first-before}
use Rattle.leaf.proofs.Orders.{weight_at, rank_lt, against-lt, against-eq, against-gt, is-less, is-equal, rising-weights, all_above}

-- neither less nor equal
greater : {o : Ordering} → is_less o ≡ false → compare_is_eq o ≡ false → o ≡ Ordering.gt
greater {o = Ordering.lt} e d = never e
greater {o = Ordering.eq} e d = never d
greater {o = Ordering.gt} e d = refl

-- ---- one of the two applies, at one position

module _ (ikey class : ℕ) (small : class < 10) (es : List Entry) where
  meets-weight : {p : ℕ} → Meets ikey class es p → weight_at es p ≡ ikey * 10 + class
  meets-weight m = omega (arith, m.same-ikey, m.same_class)

  equal-meets : (p : ℕ) → p < length es → against ikey class (get_or es p none) ≡ Ordering.eq → Meets ikey class es p
  equal-meets p l e =
      let w = against-eq ikey class small (get_or es p none) e in
      let k = rank_lt (get_or es p none) in
      record { within = l; same-ikey = omega arith; same_class = omega arith }

  pub met-or-belongs : rising es ≡ true → Meets ikey class es (place_equal ikey class es)
      ⊎ Belongs ikey class es (place_greater ikey class es)
  met-or-belongs r =
      elim (dec_lt (place_equal ikey class es) (length es)) [
        | yes l ↦ inl (equal-meets (place_equal ikey class es) l (is-equal (first_passes (λ e. compare_is_eq (against ikey class e)) none es l)))
        | no l ↦ inr (place-belongs r (λ k h. first-before (λ e. compare_is_eq (against ikey class e)) none es k (omega arith)))
      ]
    where
      place-belongs : rising es ≡ true → ((k : ℕ) → k < length es → compare_is_eq (against ikey class (get_or es k none)) ≡ false)
          → Belongs ikey class es (place_greater ikey class es)
      place-belongs r f =
          let most = first-le (λ e. is_less (against ikey class e)) none es in
          record {
            within = most;
            before = λ k l. greater (first-before (λ e. is_less (against ikey class e)) none es k l) (f k (omega arith));
            after = λ k l h.
                all_above es r ikey class small (place_greater ikey class es) k l h
                (is-less (first_passes (λ e. is_less (against ikey class e)) none es (omega arith)));
          }

  pub met-once : rising es ≡ true → {p q : ℕ} → Meets ikey class es p → Meets ikey class es q → p ≡ q
  met-once r {p} {q} m n =
      let a = meets-weight m in
      let b = meets-weight n in
      elim (dec_lt p q) [
        | yes l ↦ absurd (omega (arith, rising-weights es r p q l n.within))
        | no l ↦
            elim (dec_lt q p) [
              | yes k ↦ absurd (omega (arith, rising-weights es r q p k m.within))
              | no k ↦ omega arith
            ]
      ]

  pub never_both : {p q : ℕ} → Meets ikey class es p → Belongs ikey class es q → ⊥
  never_both {p} {q} m b =
      let a = meets-weight m in
      elim (dec_lt p q) [
        | yes l ↦ omega (arith, against-gt ikey class small (get_or es p none) (b.before p l))
        | no l ↦ omega (arith, against-lt ikey class small (get_or es p none) (b.after p (omega arith) m.within))
      ]

  pub belongs-once : {p q : ℕ} → Belongs ikey class es p → Belongs ikey class es q → p ≡ q
  belongs-once {p} {q} a b =
      elim (dec_lt p q) [
        | yes l ↦ absurd (apart p (b.before p l) (a.after p (omega arith) (omega (arith, b.within))))
        | no l ↦
            elim (dec_lt q p) [
              | yes k ↦ absurd (apart q (a.before q k) (b.after q (omega arith) (omega (arith, a.within))))
              | no k ↦ omega arith
            ]
      ]
    where
      apart : (k : ℕ) → against ikey class (get_or es k none) ≡ Ordering.gt → against ikey class (get_or es k none) ≡ Ordering.lt → ⊥
      apart k g l = omega (arith, against-gt ikey class small (get_or es k none) g, against-lt ikey class small (get_or es k none) l)

-- ---- what an outcome says

module _ (cells bytes key : List ℕ) (start : ℕ) (e : Entry) (slot : ℕ) where
  -- found: no link, and a longer entry has the key's suffix
  pub found-means : met_with cells bytes key start e slot ≡ found slot
      → (e.class ≡ 10 → ⊥) × (e.class ≡ 9 → stored_suffix cells bytes e.at start ≡ drop start key)
  unfolding met_with
  found-means =
      by (eqb e.class 10) (eqb e.class 9) (bytewise (stored_suffix cells bytes e.at start) (drop start key))
      (eqb-false e.class 10) (eqb-false e.class 9) (bytewise-exact (stored_suffix cells bytes e.at start) (drop start key))
    where
      by : (p q : Bool) (o : Ordering) → (p ≡ false → e.class ≡ 10 → ⊥) → (q ≡ false → e.class ≡ 9 → ⊥)
          → (o ≡ Ordering.eq → stored_suffix cells bytes e.at start ≡ drop start key)
          → cond p (layer slot) (cond (q && not (compare_is_eq o)) (conflict slot) (found slot)) ≡ found slot
          → (e.class ≡ 10 → ⊥) × (e.class ≡ 9 → stored_suffix cells bytes e.at start ≡ drop start key)
      by true q o f g h d = absurd (let z : ◌≡◌ {A = ℕ} 2 0 = ap (λ (l : List ℕ). get_or l 0 0) d in omega arith)
      by false true Ordering.lt f g h d = absurd (let z : ◌≡◌ {A = ℕ} 1 0 = ap (λ (l : List ℕ). get_or l 0 0) d in omega arith)
      by false true Ordering.eq f g h d = (f refl, λ n. h refl)
      by false true Ordering.gt f g h d = absurd (let z : ◌≡◌ {A = ℕ} 1 0 = ap (λ (l : List ℕ). get_or l 0 0) d in omega arith)
      by false false o f g h d = (f refl, λ n. absurd (g refl n))

  -- conflict: the entry is longer and stored whole, and its suffix differs from the key's
  pub conflict-means : met_with cells bytes key start e slot ≡ conflict slot
      → (e.class ≡ 9) × (stored_suffix cells bytes e.at start ≡ drop start key → ⊥)
  unfolding met_with
  conflict-means =
      by (eqb e.class 10) (eqb e.class 9) (bytewise (stored_suffix cells bytes e.at start) (drop start key)) (eqb-true e.class 9)
      (λ q. ap (λ (l : List ℕ). bytewise (stored_suffix cells bytes e.at start) l) (sym q)
      ∙ bytewise-same (stored_suffix cells bytes e.at start))
    where
      by : (p q : Bool) (o : Ordering) → (q ≡ true → e.class ≡ 9)
          → (stored_suffix cells bytes e.at start ≡ drop start key → o ≡ Ordering.eq)
          → cond p (layer slot) (cond (q && not (compare_is_eq o)) (conflict slot) (found slot)) ≡ conflict slot
          → (e.class ≡ 9) × (stored_suffix cells bytes e.at start ≡ drop start key → ⊥)
      by true q o g h d = absurd (let z : ◌≡◌ {A = ℕ} 2 1 = ap (λ (l : List ℕ). get_or l 0 0) d in omega arith)
      by false true Ordering.lt g h d = (g refl, λ n. let w = h n in let z : ◌≡◌ {A = ℕ} 0 1 = cc in omega arith)
      by false true Ordering.eq g h d = absurd (let z : ◌≡◌ {A = ℕ} 0 1 = ap (λ (l : List ℕ). get_or l 0 0) d in omega arith)
      by false true Ordering.gt g h d = (g refl, λ n. let w = h n in let z : ◌≡◌ {A = ℕ} 0 1 = cc in omega arith)
      by false false o g h d = absurd (let z : ◌≡◌ {A = ℕ} 0 1 = ap (λ (l : List ℕ). get_or l 0 0) d in omega arith)

  -- layer: the entry is a link
  pub layer-means : met_with cells bytes key start e slot ≡ layer slot → e.class ≡ 10
  unfolding met_with
  layer-means =
      by (eqb e.class 10) (eqb e.class 9 && not (same_bytes (stored_suffix cells bytes e.at start) (drop start key)))
      (eqb-true e.class 10)
    where
      by : (p q : Bool) → (p ≡ true → e.class ≡ 10) → cond p (layer slot) (cond q (conflict slot) (found slot)) ≡ layer slot
          → e.class ≡ 10
      by true q g d = g refl
      by false true g d = absurd (let z : ◌≡◌ {A = ℕ} 1 2 = ap (λ (l : List ℕ). get_or l 0 0) d in omega arith)
      by false false g d = absurd (let z : ◌≡◌ {A = ℕ} 0 2 = ap (λ (l : List ℕ). get_or l 0 0) d in omega arith)

  -- an entry that is met is no answer "not found", and the slot is the one that was met
  pub met-slot : (k n : ℕ) → met_with cells bytes key start e slot ≡ k ∷ n ∷ [] → (k < 3) × (n ≡ slot)
  unfolding met_with
  met-slot k n =
      by (eqb e.class 10) (eqb e.class 9 && not (same_bytes (stored_suffix cells bytes e.at start) (drop start key)))
    where
      by : (p q : Bool) → cond p (layer slot) (cond q (conflict slot) (found slot)) ≡ k ∷ n ∷ [] → (k < 3) × (n ≡ slot)
      by true q d = (omega (arith, ap (λ (l : List ℕ). get_or l 0 0) d), sym (ap (λ (l : List ℕ). get_or l 1 0) d))
      by false true d = (omega (arith, ap (λ (l : List ℕ). get_or l 0 0) d), sym (ap (λ (l : List ℕ). get_or l 1 0) d))
      by false false d = (omega (arith, ap (λ (l : List ℕ). get_or l 0 0) d), sym (ap (λ (l : List ℕ). get_or l 1 0) d))

-- Found, conflict or layer: the slot is that of the one position in use whose entry has the key's ikey and class, and the outcome is
-- the one at that entry.
pub record MetAt (word : ℕ) (entries : List Entry) (cells bytes key : List ℕ) (ikey class start k slot : ℕ) : Type 0 where
  pub position : ℕ
  pub meets : Meets ikey class (entries_in_order word entries) position
  pub slot-there : slot ≡ slot_at position (slots_of word)
  pub here : met_with cells bytes key start (get_or (entries_in_order word entries) position none) slot ≡ k ∷ slot ∷ []

module _ (word : ℕ) (entries : List Entry) (cells bytes key : List ℕ) (ikey class start : ℕ) (small : class < 10) where
  abbrev view : List Entry
  view = entries_in_order word entries

  abbrev place : ℕ
  place = place_equal ikey class view

  abbrev there : List ℕ
  there = met_with cells bytes key start (get_or view place none) (slot_at place (slots_of word))

  pub met-means : (k slot : ℕ) → k < 3 → outcome word entries cells bytes key ikey class start ≡ k ∷ slot ∷ []
      → MetAt word entries cells bytes key ikey class start k slot
  unfolding outcome
  met-means k slot l = by (ltb place (length view)) (ltb-true place (length view))
    where
      by : (b : Bool) → (b ≡ true → place < length view)
          → cond b there (not_found (place_greater ikey class view)) ≡ k ∷ slot ∷ []
          → MetAt word entries cells bytes key ikey class start k slot
      by true f d =
          let s = (met-slot cells bytes key start (get_or view place none) (slot_at place (slots_of word)) k slot d).1 in
          record {
            position = place;
            meets =
                equal-meets ikey class small view place (f refl)
                (is-equal (first_passes (λ e. compare_is_eq (against ikey class e)) none view (f refl)));
            slot-there = s;
            here = ap (met_with cells bytes key start (get_or view place none)) s ∙ d;
          }
      by false f d = absurd (let z : ◌≡◌ {A = ℕ} 3 k = ap (λ (x : List ℕ). get_or x 0 0) d in omega arith)

  -- Not found: the key belongs at the position.
  pub not-found-means : rising view ≡ true → (position : ℕ) → outcome word entries cells bytes key ikey class start ≡ not_found position
      → Belongs ikey class view position
  unfolding outcome
  not-found-means r position = by (ltb place (length view)) (ltb-false place (length view)) (met-or-belongs ikey class small view r)
    where
      by : (b : Bool) → (b ≡ false → length view ≤ place)
          → Meets ikey class view place ⊎ Belongs ikey class view (place_greater ikey class view)
          → cond b there (not_found (place_greater ikey class view)) ≡ not_found position
          → Belongs ikey class view position
      by true f w d =
          absurd (omega (arith, (met-slot cells bytes key start (get_or view place none) (slot_at place (slots_of word)) 3 position d).0))
      by false f (inl m) d = absurd (omega (arith, f refl, m.within))
      by false f (inr b) d = rw (ap (λ (x : List ℕ). get_or x 1 0) d) at b
