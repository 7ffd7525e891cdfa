-- A law for each way in which a node with an entry more below it returns. Assumes nothing.
use Prim.Native.Nat.{ℕ, zero, suc, ◌-◌, ◌≤◌, ◌<◌}
use mathlib.Core.Path.{◌≡◌, sym, ap, ◌∙◌}
use mathlib.Core.List.{List}
use native.Mathlib.Omega.{arith}
use borrow.Author.Rules.{rules}
use borrow.Author.Tests.{lt-ltb, le-ltb}
use Rattle.leaf_entries.specs.declared.Entry.{Entry}
use Rattle.model.specs.declared.Grown.{Grown}
use Rattle.model.specs.declared.Grown.TheVariants.{One, Two}
use Rattle.model.specs.Down.{child_for}
use Rattle.model.specs.Leaves.{leaf_grown, leaf_rests}
use Rattle.model.specs.Internodes.{internode_grown}
use Rattle.model.specs.Grow.{parent_grown, node_grown, node_rests}

pub node-beyond : (m : List ℕ) (count height n : ℕ) (e : Entry) → count ≤ n → (m, One) ≡ node_grown m count height n e
unfolding node_grown
node-beyond m count zero n e l = rw (le-ltb n count l)
node-beyond m count (suc h) n e l = rw (le-ltb n count l)

pub rests-beyond : (m : List ℕ) (count height n : ℕ) (e : Entry) → count ≤ n → 0 ≡ node_rests m count height n e
unfolding node_rests
rests-beyond m count zero n e l = rw (le-ltb n count l)
rests-beyond m count (suc h) n e l = rw (le-ltb n count l)

module _ (m : List ℕ) (count height n : ℕ) (e : Entry) {r : ℕ} (l : n < count) where
  pub rests-leaf : height ≡ 0 → r ≡ leaf_rests m n e → r ≡ node_rests m count height n e
  unfolding node_rests
  rests-leaf z f = rw (z, lt-ltb n count l) f

  pub rests-below : (height ≡ 0 → ⊥) → {child : ℕ} → child ≡ child_for m n e.ikey → r ≡ node_rests m count (height - 1) child e
      → r ≡ node_rests m count height n e
  unfolding node_rests
  rests-below z d f =
      let y : height ≡ suc (height - 1) = omega arith in
      let x : node_rests m count (suc (height - 1)) n e ≡ node_rests m count (height - 1) (child_for m n e.ikey) e =
      rw (lt-ltb n count l) in
      f ∙ ap (λ (i : ℕ). node_rests m count (height - 1) i e) d ∙ sym (ap (λ (h : ℕ). node_rests m count h n e) y ∙ x)

module _ (m : List ℕ) (count height n : ℕ) (e : Entry) {m1 : List ℕ} {g : Grown} (l : n < count) where
  pub node-leaf : height ≡ 0 → (m1, g) ≡ leaf_grown m count n e → (m1, g) ≡ node_grown m count height n e
  unfolding node_grown
  node-leaf z f = rw (z, lt-ltb n count l) f

  module _ (z : height ≡ 0 → ⊥) {child : ℕ} (d : child ≡ child_for m n e.ikey)
      (f : (m1, g) ≡ node_grown m count (height - 1) child e) where
    above : node_grown m count height n e ≡ parent_grown count n (m1, g)
    unfolding node_grown
    above =
        let y : height ≡ suc (height - 1) = omega arith in
        let x : node_grown m count (suc (height - 1)) n e ≡ parent_grown count n
        (node_grown m count (height - 1) (child_for m n e.ikey) e) = rw (lt-ltb n count l) in
        ap (λ (h : ℕ). node_grown m count h n e) y ∙ x
        ∙ ap (parent_grown count n) (ap (λ (i : ℕ). node_grown m count (height - 1) i e) (sym d) ∙ sym f)

    pub node-one : g ≡ One → (m1, One) ≡ node_grown m count height n e
    node-one q = sym (above ∙ ap (λ (x : Grown). parent_grown count n (m1, x)) q)

    pub node-two : {ikey node : ℕ} {m2 : List ℕ} {r : Grown} → g ≡ Two ikey node → (m2, r) ≡ internode_grown m1 count n ikey node
        → (m2, r) ≡ node_grown m count height n e
    node-two q i = i ∙ sym (above ∙ ap (λ (x : Grown). parent_grown count n (m1, x)) q)

pub ruleset grows = (rules, node-beyond, node-leaf, node-one, node-two, rests-beyond, rests-leaf, rests-below)
