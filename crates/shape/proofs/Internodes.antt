-- A law for each way in which a judgement of an internode, and the way down by first children, returns. Assumes nothing.
use Prim.Native.Nat.{ℕ, zero, suc, ◌+◌, ◌*◌, ◌-◌, ◌≤◌, ◌<◌}
use mathlib.Core.Path.{◌≡◌, refl, sym, ap, ◌∙◌}
use mathlib.Core.Bool.{Bool, true, false, not}
use mathlib.Core.List.{List}
use native.Mathlib.Nat.{add-zero}
use native.Mathlib.Numerals.{add-one}
use native.Mathlib.Omega.{arith}
use lib.ListN.{length, get_or, get_or-eq_default}
use borrow.Author.Tests.{le-leb, lt-leb, eq-eqb, ne_eqb, not-true, not-false}
use Rattle.internode.specs.Lists as internode
use Rattle.internode.proofs.Rising.{is_true, is_false, rising-next, rising-all}
use Rattle.internode.proofs.Judgement.{RisesTo, rises-more}
use Rattle.arena.specs.Parts.{part}
use Rattle.arena.specs.Layout.{node_start, kind_at}
use Rattle.arena.proofs.Words.{part_length, part_at}
use Rattle.forest.specs.Nodes.{all_zero, children_at, ikeys_at, internode_right}
use Rattle.forest.specs.Walk.{height_at}

-- ---- ikeys that rise, from a place on

module _ (words : List ℕ) (at : ℕ) {n : ℕ} (fits : at + n ≤ length words) where
  long : length (part words at n) ≡ n
  long = part_length words at n fits

  here : {j : ℕ} → j < n → get_or (part words at n) j 0 ≡ get_or words (at + j) 0
  here {j} l = part_at words at n j l

  before : (i : ℕ) → 1 ≤ i → i < n → get_or (part words at n) (i - 1) 0 ≡ get_or words (at + i - 1) 0
  before i p l = here {j = i - 1} (omega arith) ∙ ap (λ (j : ℕ). get_or words j 0) (let z : at + (i - 1) ≡ at + i - 1 = omega arith in z)

  pub ikeys-not : (i : ℕ) → 1 ≤ i → i < n → get_or words (at + i) 0 ≤ get_or words (at + i - 1) 0 → false ≡ internode.rising (part words at n)
  ikeys-not i p l h =
      sym
      (is_false (internode.rising (part words at n))
      (λ t.
      let e : suc (i - 1) ≡ i = omega arith in
      let a : get_or (part words at n) (i - 1) 0 < get_or (part words at n) (suc (i - 1)) 0
      = rising-next (part words at n) t (i - 1) (omega (arith, long)) in
      omega (arith, rw (e) at a, here {j = i} l, before i p l)))

  pub ikeys-next : (i : ℕ) → 1 ≤ i → i < n → RisesTo (part words at n) i → get_or words (at + i - 1) 0 < get_or words (at + i) 0
      → RisesTo (part words at n) (i + 1)
  ikeys-next i p l f h = rises-more (part words at n) i p f (rw (before i p l, here {j = i} l) h)

  pub ikeys-all : (i : ℕ) → n ≤ i → RisesTo (part words at n) i → true ≡ internode.rising (part words at n)
  ikeys-all i l f =
      sym
      (is_true (internode.rising (part words at n))
      (rising-all (part words at n) (λ k m. rw (add-one k) at (f k (omega (arith, long))))))

-- ---- an internode

module _ (nodes : List ℕ) (k : ℕ) where
  abbrev count : ℕ
  count = get_or nodes (2 + k * 47 + 1) 0

  pub inner-kind : (get_or nodes (2 + k * 47) 0 ≡ 2 → ⊥) → false ≡ internode_right nodes k
  unfolding internode_right
  inner-kind h = rw (ne_eqb (get_or nodes (2 + k * 47) 0) 2 h)

  module _ (kind : get_or nodes (2 + k * 47) 0 ≡ 2) where
    pub inner-many : 15 < get_or nodes (2 + k * 47 + 1) 0 → false ≡ internode_right nodes k
    unfolding internode_right
    inner-many h = rw (eq-eqb (get_or nodes (2 + k * 47) 0) 2 kind, lt-leb count 15 h)

    module _ (few : get_or nodes (2 + k * 47 + 1) 0 ≤ 15) {rises : Bool}
        (er : rises ≡ internode.rising (part nodes (2 + k * 47 + 2) (get_or nodes (2 + k * 47 + 1) 0))) where
      pub inner-order : not rises ≡ true → false ≡ internode_right nodes k
      unfolding internode_right ikeys_at
      inner-order h =
          rw (eq-eqb (get_or nodes (2 + k * 47) 0) 2 kind, le-leb count 15 few, ← er, not-true rises h)

      module _ (hr : not rises ≡ false) {clean : Bool}
          (ez : clean ≡ all_zero (part nodes (2 + k * 47 + 2 + get_or nodes (2 + k * 47 + 1) 0) (15 - get_or nodes (2 + k * 47 + 1) 0))) where
        pub inner-ikeys : not clean ≡ true → false ≡ internode_right nodes k
        unfolding internode_right ikeys_at
        inner-ikeys h =
            rw (eq-eqb (get_or nodes (2 + k * 47) 0) 2 kind, le-leb count 15 few, ← er, not-false rises hr, ← ez, not-true clean h)

        pub inner-children : not clean ≡ false → {r : Bool}
            → r ≡ all_zero (part nodes (2 + k * 47 + 18 + get_or nodes (2 + k * 47 + 1) 0) (29 - get_or nodes (2 + k * 47 + 1) 0))
            → r ≡ internode_right nodes k
        unfolding internode_right ikeys_at
        inner-children h e =
            rw (eq-eqb (get_or nodes (2 + k * 47) 0) 2 kind, le-leb count 15 few, ← er, not-false rises hr, ← ez, not-false clean h) e

-- ---- the way down

module _ (nodes : List ℕ) where
  first-child : (n : ℕ) → get_or (children_at nodes n) 0 0 ≡ get_or nodes (node_start n + 17) 0
  unfolding children_at
  first-child n = part_at nodes (node_start n + 17) (get_or nodes (node_start n + 1) 0 + 1) 0 (omega arith)
      ∙ ap (λ (i : ℕ). get_or nodes i 0) (add-zero (node_start n + 17))

  no-internode : (most n : ℕ) → (kind_at nodes n ≡ 2 → ⊥) → height_at nodes most n ≡ 0
  unfolding height_at
  no-internode zero n h = refl
  no-internode (suc most) n h = rw (ne_eqb (kind_at nodes n) 2 h)

  one_down : (most n : ℕ) → kind_at nodes n ≡ 2 → height_at nodes (suc most) n ≡ suc (height_at nodes most (get_or nodes (node_start n + 17) 0))
  unfolding height_at
  one_down most n h = rw (eq-eqb (kind_at nodes n) 2 h, first-child n)

  module _ (root h n : ℕ) (e : height_at nodes 255 root ≡ h + height_at nodes (255 - h) n) where
    ends : height_at nodes (255 - h) n ≡ 0 → h ≡ height_at nodes 255 root
    ends z = sym (e ∙ ap (λ (m : ℕ). h + m) z ∙ add-zero h)

    pub down-beyond : {count : ℕ} → node_start count ≡ length nodes → count ≤ n → h ≡ height_at nodes 255 root
    down-beyond {count} w l =
        let z : kind_at nodes n ≡ 0 = get_or-eq_default nodes 0 {n = node_start n} (omega arith) in
        ends (no-internode (255 - h) n (λ q. omega arith))

    pub down-leaf : (get_or nodes (2 + n * 47) 0 ≡ 2 → ⊥) → h ≡ height_at nodes 255 root
    down-leaf q = ends (no-internode (255 - h) n q)

    pub down-all : h ≤ 255 → 255 ≤ h → 255 ≡ height_at nodes 255 root
    unfolding height_at
    down-all m l =
        (let z : 255 ≡ h = omega arith in z)
        ∙ ends (ap (λ (m : ℕ). height_at nodes m n) (let z : 255 - h ≡ 0 = omega arith in z))

    pub down-next : h < 255 → get_or nodes (2 + n * 47) 0 ≡ 2
        → height_at nodes 255 root ≡ h + 1 + height_at nodes (255 - (h + 1)) (get_or nodes (2 + n * 47 + 17) 0)
    down-next l q =
        let below : ℕ = height_at nodes (255 - (h + 1)) (get_or nodes (2 + n * 47 + 17) 0) in
        let z : height_at nodes (255 - h) n ≡ suc below
        = ap (λ (m : ℕ). height_at nodes m n) (let z : 255 - h ≡ suc (255 - (h + 1)) = omega arith in z) ∙ one_down (255 - (h + 1)) n q in
        e ∙ ap (λ (m : ℕ). h + m) z ∙ (let z : h + suc below ≡ h + 1 + below = omega arith in z)

pub ruleset ikeys = (ikeys-not, ikeys-next, ikeys-all)

pub ruleset internodes = (inner-kind, inner-many, inner-order, inner-ikeys, inner-children)

pub ruleset down = (down-beyond, down-leaf, down-all, down-next)
