-- How many nodes a change of one layer takes: one for each split node, and one for a new root. Assumes nothing.
use mathlib.Core.Bool.{Bool, true, false, cond, not}
use mathlib.Core.List.{List, [], ◌∷◌, ◌++◌}
use mathlib.Core.Option.{Option}
use mathlib.Core.Path.{◌≡◌, refl}
use Prim.Native.Nat.{ℕ, ◌≤◌, ◌<◌, zero, suc, ◌+◌}
use native.Mathlib.Omega.{arith}
use lib.Dec.{T, leb, ltb, leb→le, nleb→lt}
use lib.ListN.{length, length-append}
use Rattle.order.specs.Map.{alter}
use Rattle.trees.specs.Nodes.{IkeyClass, layer_order}
use Rattle.trees.specs.Tree.{Abutting, last_child, and_next, low_of_children, TreeOver, WellFormed}
use Rattle.trees.specs.TreePut.{stays_one, tree_needs, store_or_split, through_child, of_child, low_of_entries, tree_put, split_nodes}
use Rattle.trees.proofs.Nodes.{cond-ind₂}

-- tests, by what they decide
pub leb-is : (m n : ℕ) → m ≤ n → leb m n ≡ true
leb-is m n h = go (leb m n) (λ t. nleb→lt m n t)
  where
    go : (b : Bool) → (T (not b) → n < m) → b ≡ true
    go true f = refl
    go false f = absurd (let z : n < m = f tt in omega arith)

pub leb-not : (m n : ℕ) → n < m → leb m n ≡ false
leb-not m n h = go (leb m n) (λ t. leb→le m n t)
  where
    go : (b : Bool) → (T b → m ≤ n) → b ≡ false
    go true f = absurd (let z : m ≤ n = f tt in omega arith)
    go false f = refl

module _ (W : Type 0) (top mid : ℕ) (cut : List (IkeyClass × W) → ℕ) where
  module _ (k : IkeyClass) (f : Option W → Option W) (fs : List ℕ) where
    store_or_split-size : {X : Type 0} (low : List X → ℕ) (room c lo n : ℕ) (xs : List X) (gs : List ℕ)
        → length (store_or_split low room c lo n xs gs).0 ≡ cond (leb (length xs) room) 1 2
    store_or_split-size low room c lo n xs gs = cond-ind₂ (λ (a : List (ℕ × (ℕ × _)) × List ℕ) b. length a.0 ≡ b) (leb (length xs) room)
        (λ t. refl) (λ t. refl)

    pub tree_put-size : (d : ℕ) (p : ℕ × TreeOver W d)
        → length (tree_put W top mid cut d k f p fs).0 ≡ cond (stays_one W top mid cut d k f p fs) 1 2
    tree_put-size zero p = let es = alter layer_order k f p.1.1 in store_or_split-size low_of_entries top (cut es) p.0 p.1.0 es fs
    tree_put-size (suc d) p =
        let r = through_child (tree_put W top mid cut d k f) k.0 p.1.1 fs in
        store_or_split-size low_of_children (suc top) mid p.0 p.1.0 r.0 r.1

    -- of the children: what the chosen one needs, and how long the list gets
    children-need : (d : ℕ) → ((up : ℕ) (q : ℕ × TreeOver W d) (lo hi : ℕ) → WellFormed W top d lo hi q.1
        → tree_needs W top mid cut d k f q up ≡ split_nodes W top mid cut d k f q fs + cond (stays_one W top mid cut d k f q fs) 0 up)
        → (up : ℕ) {hi lo : ℕ} {ps : List (ℕ × TreeOver W d)} → Abutting (WellFormed W top d) hi lo ps
        → (b : Bool) × (length (through_child (tree_put W top mid cut d k f) k.0 ps fs).0 ≡ length ps + cond b 0 1)
        × (of_child 0 (λ q. tree_needs W top mid cut d k f q up) k.0 ps
        ≡ of_child 0 (λ q. split_nodes W top mid cut d k f q fs) k.0 ps + cond b 0 up)
    children-need d ih up {hi} {lo} (last_child {p = p} e l r) = (
      stays_one W top mid cut d k f p fs,
      (let z = tree_put-size d p in let y = length-append (tree_put W top mid cut d k f p fs).0 [] in let x = fix
          (stays_one W top mid cut d k f p fs) in omega (arith, z, y, x)),
      ih up p lo hi r,
    )
      where
        fix : (b : Bool) → cond b 1 2 ≡ 1 + cond b 0 1
        fix true = refl
        fix false = refl
    children-need d ih up (and_next s {ps = []} e l r c) = elim c [ ]
    children-need d ih up {hi} {lo} (and_next s {p = p} {ps = q ∷ qs} e l r c) = go (ltb k.0 q.0) (children-need d ih up c)
      where
        fix : (b : Bool) → cond b 1 2 ≡ 1 + cond b 0 1
        fix true = refl
        fix false = refl

        go : (t : Bool)
            → (b : Bool) × (length (through_child (tree_put W top mid cut d k f) k.0 (q ∷ qs) fs).0 ≡ length (q ∷ qs) + cond b 0 1)
            × (of_child 0 (λ q. tree_needs W top mid cut d k f q up) k.0 (q ∷ qs)
            ≡ of_child 0 (λ q. split_nodes W top mid cut d k f q fs) k.0 (q ∷ qs) + cond b 0 up)
            → (b : Bool)
            × (length
            (cond {A = List (ℕ × TreeOver W d) × List ℕ} t
            ((tree_put W top mid cut d k f p fs).0 ++ (q ∷ qs), (tree_put W top mid cut d k f p fs).1) (
              p ∷ (through_child (tree_put W top mid cut d k f) k.0 (q ∷ qs) fs).0,
              (through_child (tree_put W top mid cut d k f) k.0 (q ∷ qs) fs).1,
            )).0
            ≡ length (p ∷ q ∷ qs) + cond b 0 1)
            × (cond t (tree_needs W top mid cut d k f p up) (of_child 0 (λ q. tree_needs W top mid cut d k f q up) k.0 (q ∷ qs))
            ≡ cond t (split_nodes W top mid cut d k f p fs)
            (of_child 0 (λ q. split_nodes W top mid cut d k f q fs) k.0 (q ∷ qs)) + cond b 0 up)
        go true z = (
          stays_one W top mid cut d k f p fs,
          omega (
            arith,
            tree_put-size d p,
            length-append (tree_put W top mid cut d k f p fs).0 (q ∷ qs),
            fix (stays_one W top mid cut d k f p fs),
          ),
          ih up p lo s r,
        )
        go false z = (z.0, omega (arith, z.1), z.2)

    pub need-is : (d : ℕ) (up : ℕ) (p : ℕ × TreeOver W d) (lo hi : ℕ) → WellFormed W top d lo hi p.1
        → tree_needs W top mid cut d k f p up ≡ split_nodes W top mid cut d k f p fs + cond (stays_one W top mid cut d k f p fs) 0 up
    need-is zero up p lo hi w = go (leb (length (alter layer_order k f p.1.1)) top)
      where
        go : (b : Bool) → cond b 0 (suc up) ≡ cond b 0 1 + cond b 0 up
        go true = refl
        go false = omega arith
    need-is (suc d) up p lo hi w =
        let n = length p.1.1 in
        let K = children-need d (λ u q a b. need-is d u q a b) (cond (leb n top) 0 (suc up)) w.0 in
        go n w.1 K.0 _ K.1 _ _ K.2
      where
        go : (n : ℕ) → n ≤ suc top → (b : Bool) (len : ℕ) → len ≡ n + cond b 0 1 → (a s : ℕ)
            → a ≡ s + cond b 0 (cond (leb n top) 0 (suc up))
            → a ≡ s + cond (leb len (suc top)) 0 1 + cond (leb len (suc top)) 0 up
        go n h true len e a s q = rw (leb-is len (suc top) (omega arith)) (omega arith)
        go n h false len e a s q = more' (leb n top) (λ t. leb→le n top t) (λ t. nleb→lt n top t) q
          where
            more' : (b : Bool) → (T b → n ≤ top) → (T (not b) → top < n) → a ≡ s + cond b 0 (suc up)
                → a ≡ s + cond (leb len (suc top)) 0 1 + cond (leb len (suc top)) 0 up
            more' true f g q = let z : n ≤ top = f tt in rw (leb-is len (suc top) (omega arith)) (omega arith)
            more' false f g q = let z : top < n = g tt in rw (leb-not len (suc top) (omega arith)) (omega arith)
