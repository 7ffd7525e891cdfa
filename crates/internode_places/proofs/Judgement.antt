-- What the judgement of a node says, and the steps of the functions that read its ikeys. Assumes nothing.
use mathlib.Core.Path.{◌≡◌, sym, subst, ◌∙◌}
use mathlib.Core.Bool.{Bool, true, false}
use mathlib.Core.List.{List}
use Prim.Native.Nat.{ℕ, ◌+◌, ◌-◌, ◌≤◌, ◌<◌}
use native.Mathlib.Omega.{arith}
use native.Mathlib.Numerals.{add-one}
use native.Mathlib.Decide.{ℕ_discrete, dec_lt}
use lib.Dec.{T, leb, ltb, leb→le}
use Rattle.std.specs.List.{position, IsAllAdjacentAnswer}
use Rattle.std.specs.Option.{unwrap_or}
use Rattle.std.specs.Prelude.{Option}
use lib.ListN.{length, get_or}
use lib.Seq.{get_or-take, length-take-le}
use borrow.Author.Tests.{le-leb, lt-ltb, le-ltb, ltb-true, ltb-false}
use Rattle.internode_places.specs.declared.Internode.{Internode}
use Rattle.internode_places.specs.Lists.{rising, first, inserted_at}
use Rattle.internode_places.specs.Node.{good, keys_of}
use Rattle.internode_places.proofs.Rising.{and_left, and_right, is_true, is_false, holds, rising-next, rising-all}
use Rattle.internode_places.proofs.Inserts.{insert-low, insert-high, insert-between}
use Rattle.internode_places.proofs.Places.{position-first}

-- the ikeys rise below place i
abbrev pub RisesTo : List ℕ → ℕ → Type 0
RisesTo ks i = (k : ℕ) → k + 1 < i → get_or ks k 0 < get_or ks (k + 1) 0

pub rises-more : (ks : List ℕ) (i : ℕ) → 1 ≤ i → RisesTo ks i → get_or ks (i - 1) 0 < get_or ks i 0 → RisesTo ks (i + 1)
rises-more ks i o f l k h =
    elim (ℕ_discrete (k + 1) i) [
      | yes e ↦ let d : i - 1 ≡ k = omega arith in rw e (subst (λ (j : ℕ). get_or ks j 0 < get_or ks i 0) d l)
      | no e ↦ f k (omega arith)
    ]

-- ---- what the judgement says of a node that passed

module _ (x : Internode) (g : good x ≡ true) where
  pub good-n : x.n ≤ 15
  unfolding good
  good-n = leb→le x.n 15 (and_left (leb x.n 15) (rising (keys_of x)) (holds g))

  pub good-rising : T (rising (keys_of x))
  unfolding good
  good-rising = and_right (leb x.n 15) (rising (keys_of x)) (holds g)

module _ (x : Internode) (w : length x.ikeys ≡ 15) where
  key_here : {i : ℕ} → i < x.n → get_or (keys_of x) i 0 ≡ get_or x.ikeys i 0
  key_here {i} l = get_or-take x.n x.ikeys i 0 l

  keys_length : x.n ≤ 15 → length (keys_of x) ≡ x.n
  keys_length h = length-take-le x.n x.ikeys (omega arith)

  -- ---- the judgement itself

  pub judged : {r : Bool} → x.n ≤ 15 → IsAllAdjacentAnswer (λ k m b. b ≡ ltb k m) (keys_of x) r → r ≡ good x
  unfolding good
  judged {r} h a = rw (le-leb x.n 15 h) (by r a)
    where
      by : (b : Bool) → IsAllAdjacentAnswer (λ k m b. b ≡ ltb k m) (keys_of x) b → b ≡ rising (keys_of x)
      by true f = sym (is_true (rising (keys_of x)) (rising-all (keys_of x) (λ k m. rw add-one at (ltb-true (get_or (keys_of x) k 0) (get_or (keys_of x) (k + 1) 0) (sym (f k 0 (rw add-one m)))))))
      by false (k, m, f) =
          sym (is_false (rising (keys_of x)) (λ t. omega (arith, rw add-one at (ltb-false (get_or (keys_of x) k 0) (get_or (keys_of x) (k + 1) 0) (sym (f 0))), rising-next (keys_of x) t k (rw add-one at m))))

  -- ---- the first ikey that passes a test

  pub found-first : (test : ℕ → Bool) {r : Option ℕ} → x.n ≤ 15 → r ≡ position test (keys_of x) → unwrap_or r x.n ≡ first test (keys_of x)
  found-first test h e = rw e (position-first test (keys_of x) x.n (keys_length h))

  -- ---- an ikey more, at p

  module _ (g : good x ≡ true) {p : ℕ} (ikey : ℕ) (l : p ≤ x.n) where
    room : p ≤ length (keys_of x)
    room = omega (arith, keys_length (good-n x g))

    pub fits-not-high : p < x.n → get_or x.ikeys p 0 ≤ ikey → false ≡ rising (inserted_at p ikey (keys_of x))
    fits-not-high h a =
        sym (insert-high p ikey (keys_of x) room (omega (arith, keys_length (good-n x g))) (rw (key_here {i = p} h) a))

    -- what the test on the right leaves
    abbrev pub RightFits : Type 0
    RightFits = p < x.n → ikey < get_or x.ikeys p 0

    right : RightFits → p < length (keys_of x) → ikey < get_or (keys_of x) p 0
    right r h = let m : p < x.n = omega (arith, keys_length (good-n x g)) in rw (key_here {i = p} m) (r m)

    pub fits-first : RightFits → p ≡ 0 → true ≡ rising (inserted_at p ikey (keys_of x))
    fits-first r z =
        sym (is_true (rising (inserted_at p ikey (keys_of x)))
        (insert-between p ikey (keys_of x) room (good-rising x g) (λ o. absurd (omega arith)) (right r)))

    pub fits-left : RightFits → (p ≡ 0 → ⊥) → ltb (get_or x.ikeys (p - 1) 0) ikey ≡ rising (inserted_at p ikey (keys_of x))
    fits-left r z =
        let o : 0 < p = omega arith in
        let e : get_or (keys_of x) (p - 1) 0 ≡ get_or x.ikeys (p - 1) 0 = key_here {i = p - 1} (omega arith) in
        elim (dec_lt (get_or x.ikeys (p - 1) 0) ikey) [
          | yes a ↦
              lt-ltb (get_or x.ikeys (p - 1) 0) ikey a
              ∙ sym (is_true (rising (inserted_at p ikey (keys_of x)))
              (insert-between p ikey (keys_of x) room (good-rising x g) (λ q. rw e a) (right r)))
          | no a ↦
              le-ltb (get_or x.ikeys (p - 1) 0) ikey (omega arith) ∙ sym (insert-low p ikey (keys_of x) room o (rw e (omega arith)))
        ]
