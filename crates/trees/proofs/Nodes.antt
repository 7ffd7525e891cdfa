-- The order of ikey and class is a strict total order; picking by a test; the count of one number. Assumes nothing.
use mathlib.Core.Bool.{Bool, true, false, cond, not}
use mathlib.Core.Logic.{◌≢◌}
use mathlib.Core.Path.{◌≡◌, refl, sym, ap, ◌∙◌}
use Prim.Native.Nat.{ℕ, ◌≤◌, ◌<◌, compare, Ordering}
use native.Mathlib.Omega.{arith}
use lib.Dec.{eqb, eqb_refl, T}
use Rattle.order.specs.Bytes.{Order, then, flip}
use Rattle.order.proofs.Compare.{Cmp, is_lt, is_eq, is_gt, cmp-view, cmp-is, compare_same}
use Rattle.trees.specs.Nodes.{IkeyClass, layer_order, one_at}

pub layer_order-lt : (a b : IkeyClass) → a.0 < b.0 → layer_order a b ≡ Ordering.lt
unfolding layer_order
layer_order-lt a b h = rw (cmp-is (is_lt h))

key-trans : (a b c : IkeyClass) {p q r s : Ordering} → Cmp a.0 b.0 p → Cmp a.1 b.1 q → Cmp b.0 c.0 r → Cmp b.1 c.1 s
    → then p q ≡ Ordering.lt → then r s ≡ Ordering.lt → layer_order a c ≡ Ordering.lt
unfolding layer_order
key-trans a b c (is_lt h) q (is_lt i) s e f = layer_order-lt a c (omega arith)
key-trans a b c (is_lt h) q (is_eq i) s e f = layer_order-lt a c (omega arith)
key-trans a b c (is_lt h) q (is_gt i) s e f = cc
key-trans a b c (is_eq h) q (is_lt i) s e f = layer_order-lt a c (omega arith)
key-trans a b c (is_eq h) (is_lt j) (is_eq i) (is_lt k) e f = rw (cmp-is (is_eq (h ∙ i))) (cmp-is (is_lt (omega arith)))
key-trans a b c (is_eq h) (is_lt j) (is_eq i) (is_eq k) e f = cc
key-trans a b c (is_eq h) (is_lt j) (is_eq i) (is_gt k) e f = cc
key-trans a b c (is_eq h) (is_eq j) (is_eq i) s e f = cc
key-trans a b c (is_eq h) (is_gt j) (is_eq i) s e f = cc
key-trans a b c (is_eq h) q (is_gt i) s e f = cc
key-trans a b c (is_gt h) q r s e f = cc

key-exact : (a b : IkeyClass) {p q : Ordering} → Cmp a.0 b.0 p → Cmp a.1 b.1 q → then p q ≡ Ordering.eq → a ≡ b
key-exact a b (is_lt h) q e = cc
key-exact a b (is_eq h) (is_lt i) e = cc
key-exact a b (is_eq h) (is_eq i) e = λ j. (h j, i j)
key-exact a b (is_eq h) (is_gt i) e = cc
key-exact a b (is_gt h) q e = cc

key-swap : (a b : IkeyClass) {p q : Ordering} → Cmp a.0 b.0 p → Cmp a.1 b.1 q → layer_order b a ≡ flip (then p q)
unfolding layer_order
key-swap a b (is_lt h) q = rw (cmp-is (is_gt h))
key-swap a b (is_eq h) (is_lt i) = rw (cmp-is (is_eq (sym h)), cmp-is (is_gt i))
key-swap a b (is_eq h) (is_eq i) = rw (cmp-is (is_eq (sym h)), cmp-is (is_eq (sym i)))
key-swap a b (is_eq h) (is_gt i) = rw (cmp-is (is_eq (sym h)), cmp-is (is_lt i))
key-swap a b (is_gt h) q = rw (cmp-is (is_lt h))

pub layer_order-le : (a b : IkeyClass) → layer_order a b ≡ Ordering.lt → a.0 ≤ b.0
unfolding layer_order
layer_order-le a b e = go (cmp-view a.0 b.0) e
  where
    go : {o : Ordering} → Cmp a.0 b.0 o → then o (compare a.1 b.1) ≡ Ordering.lt → a.0 ≤ b.0
    go (is_lt h) q = omega arith
    go (is_eq h) q = omega arith
    go (is_gt h) q = let z : ◌≡◌ {A = ℕ} 0 1 = cc in absurd (omega arith)

pub layer-order : Order IkeyClass layer_order
unfolding layer_order
layer-order = record {
  same = λ a. rw (compare_same a.0) (compare_same a.1);
  exact = λ a b. key-exact a b (cmp-view _ _) (cmp-view _ _);
  swap = λ a b. key-swap a b (cmp-view _ _) (cmp-view _ _);
  trans = λ a b c. key-trans a b c (cmp-view _ _) (cmp-view _ _) (cmp-view _ _) (cmp-view _ _);
}

-- what holds of either answer, each by its test
pub cond_ind : {A : Type 0} (P : A → Type 0) (b : Bool) {x y : A} → (T b → P x) → (T (not b) → P y) → P (cond b x y)
cond_ind P true f g = f tt
cond_ind P false f g = g tt

pub cond-ind₂ : {A B : Type 0} (P : A → B → Type 0) (b : Bool) {x y : A} {u v : B} → (T b → P x u) → (T (not b) → P y v)
    → P (cond b x y) (cond b u v)
cond-ind₂ P true f g = f tt
cond-ind₂ P false f g = g tt

pub cond-ind₃ : {A B C : Type 0} (P : A → B → C → Type 0) (b : Bool) {x y : A} {u v : B} {s t : C} → (T b → P x u s)
    → (T (not b) → P y v t) → P (cond b x y) (cond b u v) (cond b s t)
cond-ind₃ P true f g = f tt
cond-ind₃ P false f g = g tt

pub one_at-same : (n : ℕ) → one_at n n ≡ 1
unfolding one_at
one_at-same n = go (eqb n n) (eqb_refl n)
  where
    go : (b : Bool) → T b → ◌≡◌ {A = ℕ} (cond b 1 0) 1
    go true t = refl
    go false t = absurd t

pub one_at-other : (n j : ℕ) → one_at n j ≡ 0 → j ≢ n
unfolding one_at
one_at-other n j e q = absurd (let z : ◌≡◌ {A = ℕ} 0 1 = sym e ∙ ap (one_at n) q ∙ one_at-same n in omega arith)
