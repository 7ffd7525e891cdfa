-- The child for an ikey: the trees' way down, by the words' places. Assumes nothing.
use mathlib.Core.Path.{◌≡◌, refl, sym, ap, ◌∙◌, subst}
use mathlib.Core.Bool.{Bool, true, false, not}
use mathlib.Core.List.{List, [], ◌∷◌, ◌++◌, map, map-append}
use Prim.Native.Nat.{ℕ, suc, ◌≤◌, ◌<◌}
use native.Mathlib.Omega.{arith}
use lib.Dec.{T, leb, ltb, leb-suc-suc, ltb→lt, lt→ltb, nltb→le}
use lib.ListN.{length, drop}
use Rattle.bank.proofs.Tests.{and_left, and_right, and_both}
use Rattle.internode.specs.Lists.{rising, first, after_last}
use Rattle.internode.proofs.Laws.{last-is-first}
use Rattle.trees.specs.Tree.{Abutting, last_child, and_next}
use Rattle.trees.specs.TreePut.{before_next, through_child, of_child}
use Rattle.trees.proofs.Tree.{abutting-low}

-- the child q, between the children l and r, is the one whose bounds hold x
pub data Picks {C : Type 0} (x : ℕ) : List (ℕ × C) → ℕ × C → List (ℕ × C) → Type 0 where
  here : {q : ℕ × C} {r : List (ℕ × C)} → before_next x r ≡ true → Picks x [] q r
  later : {p : ℕ × C} {l : List (ℕ × C)} {q : ℕ × C} {r : List (ℕ × C)} → before_next x (l ++ q ∷ r) ≡ false → Picks x l q r
      → Picks x (p ∷ l) q r

pub picks-child : {C A : Type 0} (z : A) (g : ℕ × C → A) {x : ℕ} {l : List (ℕ × C)} {q : ℕ × C} {r : List (ℕ × C)} → Picks x l q r
    → of_child z g x (l ++ q ∷ r) ≡ g q
picks-child z g (here b) = rw b
picks-child z g (later b s) = rw b (picks-child z g s)

pub picks-descend : {C S : Type 0} (go : ℕ × C → S → List (ℕ × C) × S) (m : S) {x : ℕ} {l : List (ℕ × C)} {q : ℕ × C} {r : List (ℕ × C)}
    → Picks x l q r
    → through_child go x (l ++ q ∷ r) m ≡ (l ++ ((go q m).0 ++ r), (go q m).1)
picks-descend go m (here b) = rw b
picks-descend {C} {S} go m (later {p = p} b s) = rw b (ap (λ (y : List (ℕ × C) × S). (p ∷ y.0, y.1)) (picks-descend go m s))

module _ {C : Type 0} (rt : C → ℕ) where
  abbrev nm : ℕ × C → ℕ × ℕ
  nm p = (p.0, rt p.1)

  before-map : (x : ℕ) (l : List (ℕ × C)) → before_next x (map nm l) ≡ before_next x l
  before-map x [] = refl
  before-map x (p ∷ l) = refl

  pub picks-map : {x : ℕ} {l : List (ℕ × C)} {q : ℕ × C} {r : List (ℕ × C)} → Picks x l q r → Picks x (map nm l) (nm q) (map nm r)
  picks-map {x} (here {r = r} b) = here (before-map x r ∙ b)
  picks-map {x} (later {l = l} {q = q} {r = r} b s) =
      later (ap (before_next x) (sym (map-append nm l (q ∷ r))) ∙ before-map x (l ++ q ∷ r) ∙ b) (picks-map s)

-- ---- the place among the ikeys

above : (ikey k y : ℕ) → suc k ≡ y → (b : Bool) → ltb (suc ikey) y ≡ b → ltb ikey k ≡ b
above ikey k y e b h = sym (leb-suc-suc (suc ikey) k) ∙ ap (ltb (suc ikey)) e ∙ h

module _ {C : Type 0} (ikey : ℕ) where
  abbrev lows : List (ℕ × C) → List ℕ
  lows ps = map (λ (p : ℕ × C). p.0) ps

  first-place : {l : List (ℕ × C)} {q : ℕ × C} {r : List (ℕ × C)} → Picks (suc ikey) l q r → (ks : List ℕ)
      → map suc ks ≡ lows (drop 1 (l ++ q ∷ r))
      → first (λ k. ltb ikey k) ks ≡ length l
  unfolding first
  first-place (here {r = []} b) [] e = refl
  first-place (here {r = []} b) (k ∷ ks) e = let z : ◌≡◌ {A = ℕ} 0 1 = cc in absurd (omega arith)
  first-place (here {r = c ∷ r} b) [] e = let z : ◌≡◌ {A = ℕ} 0 1 = cc in absurd (omega arith)
  first-place (here {r = c ∷ r} b) (k ∷ ks) e = let h : suc k ≡ c.0 = cc in rw (above ikey k c.0 h true b)
  first-place (later {l = []} {q = q} b s) [] e = let z : ◌≡◌ {A = ℕ} 0 1 = cc in absurd (omega arith)
  first-place (later {l = []} {q = q} b s) (k ∷ ks) e =
      let h : suc k ≡ q.0 = cc in rw (above ikey k q.0 h false b) (ap suc (first-place s ks cc))
  first-place (later {l = c ∷ l} b s) [] e = let z : ◌≡◌ {A = ℕ} 0 1 = cc in absurd (omega arith)
  first-place (later {l = c ∷ l} b s) (k ∷ ks) e =
      let h : suc k ≡ c.0 = cc in rw (above ikey k c.0 h false b) (ap suc (first-place s ks cc))

  pub place-picked : {l : List (ℕ × C)} {q : ℕ × C} {r : List (ℕ × C)} → Picks (suc ikey) l q r → (ks : List ℕ) → T (rising ks)
      → map suc ks ≡ lows (drop 1 (l ++ q ∷ r))
      → after_last (λ k. leb k ikey) ks ≡ length l
  place-picked s ks t e = last-is-first ikey ks t ∙ first-place s ks e

-- ---- there is one

pub record Picked {C : Type 0} (R : ℕ → ℕ → C → Type 0) (x : ℕ) (ts : List (ℕ × C)) : Type 0 where
  pub left : List (ℕ × C)
  pub chosen : ℕ × C
  pub right : List (ℕ × C)
  pub whole : ts ≡ left ++ chosen ∷ right
  pub picks : Picks x left chosen right
  pub lo : ℕ
  pub hi : ℕ
  pub low : chosen.0 ≡ lo
  pub from : lo ≤ x
  pub below-hi : x < hi
  pub in_order : lo < hi
  pub fits : R lo hi chosen.1

pub picked : {C : Type 0} {R : ℕ → ℕ → C → Type 0} (x : ℕ) {hi lo : ℕ} {ts : List (ℕ × C)} → lo ≤ x → x < hi → Abutting R hi lo ts
    → Picked R x ts
picked x {hi} {lo} h i (last_child {p = p} e l r) =
    record {
      left = [];
      chosen = p;
      right = [];
      whole = refl;
      picks = here refl;
      lo = lo;
      hi = hi;
      low = e;
      from = h;
      below-hi = i;
      in_order = l;
      fits = r;
    }
picked x h i (and_next s {ps = []} e l r c) = elim c [ ]
picked {C} {R} x {hi} {lo} h i (and_next s {p = p} {ps = q ∷ qs} e l r c) = by (ltb x q.0) refl (λ g. picked x g i c)
  where
    low : q.0 ≡ s
    low = abutting-low c

    by : (b : Bool) → ltb x q.0 ≡ b → (s ≤ x → Picked R x (q ∷ qs)) → Picked R x (p ∷ q ∷ qs)
    by true t go =
        let z : x < q.0 = ltb→lt x q.0 (subst T (sym t) tt) in
        record {
          left = [];
          chosen = p;
          right = q ∷ qs;
          whole = refl;
          picks = here t;
          lo = lo;
          hi = s;
          low = e;
          from = h;
          below-hi = omega (arith, low);
          in_order = l;
          fits = r;
        }
    by false t go =
        let z : q.0 ≤ x = nltb→le x q.0 (subst (λ (b : Bool). T (not b)) (sym t) tt) in
        let P = go (omega (arith, low)) in
        record {
          left = p ∷ P.left;
          chosen = P.chosen;
          right = P.right;
          whole = ap (p ∷◌) P.whole;
          picks = later (ap (before_next x) (sym P.whole) ∙ t) P.picks;
          lo = P.lo;
          hi = P.hi;
          low = P.low;
          from = P.from;
          below-hi = P.below-hi;
          in_order = P.in_order;
          fits = P.fits;
        }

-- ---- low ikeys of a chain rise

pub lows-rise : {C : Type 0} {R : ℕ → ℕ → C → Type 0} {hi lo : ℕ} {ts : List (ℕ × C)} → Abutting R hi lo ts
    → T (rising (map (λ (p : ℕ × C). p.0) ts))
unfolding rising
lows-rise (last_child e l r) = tt
lows-rise (and_next s {ps = []} e l r c) = elim c [ ]
lows-rise (and_next s {p = p} {ps = q ∷ qs} e l r c) =
    and_both (ltb p.0 q.0) _ (lt→ltb p.0 q.0 (let z : q.0 ≡ s = abutting-low c in omega arith)) (lows-rise c)

pub suc-rising : (ks : List ℕ) → T (rising (map suc ks)) → T (rising ks)
unfolding rising
suc-rising [] t = tt
suc-rising (k ∷ []) t = tt
suc-rising (k ∷ j ∷ ks) t =
    and_both (ltb k j) _ (subst T (leb-suc-suc (suc k) j) (and_left (ltb (suc k) (suc j)) _ t))
    (suc-rising (j ∷ ks) (and_right (ltb (suc k) (suc j)) _ t))
