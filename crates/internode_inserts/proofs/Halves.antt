-- What the split of a full internode means: no key and no child is lost, both halves are in order, and the key that goes up
-- stands between them. Assumes nothing.
use mathlib.Core.Path.{◌≡◌, sym, ◌∙◌, ap, ap₂}
use mathlib.Core.Bool.{true}
use mathlib.Core.List.{List, ◌∷◌, ◌++◌}
use Prim.Native.Nat.{ℕ, suc, ◌+◌, ◌-◌, ◌≤◌, ◌<◌}
use native.Mathlib.Omega.{arith}
use borrow.Author.Tests.{le-leb}
use lib.Dec.{T}
use lib.ListN.{length, get_or, take, drop, replicate, length-take, length-drop, take-append-drop}
use lib.Seq.{get_or-take, get_or-drop, take_at, take-append_seam, split_at, take_all}
use Rattle.internode_places.specs.declared.Internode.{Internode}
use Rattle.internode_inserts.specs.declared.Split.{Split}
use Rattle.internode_places.specs.Lists.{rising, inserted_at}
use Rattle.internode_places.specs.Node.{good, keys_of, children_of}
use Rattle.internode_inserts.specs.Split.{node_of, keys_with, children_with, split_of}
use Rattle.internode_places.proofs.Rising.{rising-lt, rising-take, rising-drop, is_true}
use Rattle.internode_places.proofs.Inserts.{inserted-length}
use Rattle.internode_places.proofs.Whole.{Whole}

-- ---- a node made of lists holds them

module _ (ks cs : List ℕ) where
  pub node-keys : keys_of (node_of ks cs) ≡ ks
  node-keys = take-append_seam ks (replicate (15 - length ks) 0)

  pub node-children : length cs ≡ length ks + 1 → children_of (node_of ks cs) ≡ cs
  node-children e = take_at cs (replicate (16 - length cs) 0) (length ks + 1) e

  pub node-good : length ks ≤ 15 → T (rising ks) → good (node_of ks cs) ≡ true
  unfolding good
  node-good h t = rw (le-leb (length ks) 15 h, node-keys) (is_true (rising ks) t)

-- ---- a list of any length, cut at m

module _ (m : ℕ) (ks : List ℕ) (h : m < length ks) where
  -- no key is lost
  pub cut-whole : take m ks ++ get_or ks m 0 ∷ drop (suc m) ks ≡ ks
  cut-whole = sym (split_at ks m 0 h)

  module _ (t : T (rising ks)) where
    -- all on the left are below the one that goes up
    pub cut_left : (k : ℕ) → k < m → get_or (take m ks) k 0 < get_or ks m 0
    cut_left k l = rw (get_or-take m ks k 0 l) (rising-lt ks t k m l h)

    -- all on the right are above it
    pub cut_right : (k : ℕ) → suc m + k < length ks → get_or ks m 0 < get_or (drop (suc m) ks) k 0
    cut_right k l = rw (get_or-drop (suc m) ks k 0) (rising-lt ks t m (suc m + k) (omega arith) l)

-- ---- the split

module _ (x : Internode) (w : Whole x) (p ikey child : ℕ) (l : p ≤ 15) where
  abbrev halves : Split
  halves = split_of x p ikey child

  sixteen : length (keys_with x p ikey) ≡ 16
  sixteen = inserted-length p ikey x.ikeys (omega (arith, w.ikeys-15)) ∙ ap suc w.ikeys-15

  seventeen : length (children_with x p child) ≡ 17
  seventeen = inserted-length (p + 1) child x.children (omega (arith, w.children-16)) ∙ ap suc w.children-16

  -- of a full node they are its own keys and the new one, in their places
  pub keys-with : x.n ≡ 15 → keys_with x p ikey ≡ inserted_at p ikey (keys_of x)
  keys-with n = ap (λ (ks : List ℕ). inserted_at p ikey ks) (sym (take_all x.n x.ikeys (omega (arith, w.ikeys-15))))

  pub left-8 : halves.left.n ≡ 8
  unfolding split_of
  left-8 = simp length-take (omega (arith, sixteen))

  pub right-7 : halves.right.n ≡ 7
  unfolding split_of
  right-7 = simp length-drop (omega (arith, sixteen))

  -- left, up and right are the sixteen keys
  pub split-keys : keys_of halves.left ++ halves.up ∷ keys_of halves.right ≡ keys_with x p ikey
  unfolding split_of
  split-keys =
      ap₂ (λ (a b : List ℕ). a ++ get_or (keys_with x p ikey) 8 0 ∷ b)
      (node-keys (take 8 (keys_with x p ikey)) (take 9 (children_with x p child)))
      (node-keys (drop 9 (keys_with x p ikey)) (drop 9 (children_with x p child)))
      ∙ cut-whole 8 (keys_with x p ikey) (omega (arith, sixteen))

  -- nine children left and eight right are the seventeen
  pub left-children : children_of halves.left ≡ take 9 (children_with x p child)
  unfolding split_of
  left-children =
      node-children (take 8 (keys_with x p ikey)) (take 9 (children_with x p child))
      (simp length-take (omega (arith, sixteen, seventeen)))

  pub right-children : children_of halves.right ≡ drop 9 (children_with x p child)
  unfolding split_of
  right-children =
      node-children (drop 9 (keys_with x p ikey)) (drop 9 (children_with x p child))
      (simp length-drop (omega (arith, sixteen, seventeen)))

  pub split-children : children_of halves.left ++ children_of halves.right ≡ children_with x p child
  split-children = rw (left-children, right-children) (take-append-drop 9 (children_with x p child))

  module _ (t : T (rising (keys_with x p ikey))) where
    pub left-good : good halves.left ≡ true
    unfolding split_of
    left-good =
        node-good (take 8 (keys_with x p ikey)) (take 9 (children_with x p child))
        (simp length-take (omega (arith, sixteen))) (rising-take 8 (keys_with x p ikey) t)

    pub right-good : good halves.right ≡ true
    unfolding split_of
    right-good =
        node-good (drop 9 (keys_with x p ikey)) (drop 9 (children_with x p child))
        (simp length-drop (omega (arith, sixteen))) (rising-drop 9 (keys_with x p ikey) t)

    pub left_below : (k : ℕ) → k < 8 → get_or (keys_of halves.left) k 0 < halves.up
    unfolding split_of
    left_below k h =
        rw (node-keys (take 8 (keys_with x p ikey)) (take 9 (children_with x p child)))
        (cut_left 8 (keys_with x p ikey) (omega (arith, sixteen)) t k h)

    pub right-above : (k : ℕ) → k < 7 → halves.up < get_or (keys_of halves.right) k 0
    unfolding split_of
    right-above k h =
        rw (node-keys (drop 9 (keys_with x p ikey)) (drop 9 (children_with x p child)))
        (cut_right 8 (keys_with x p ikey) (omega (arith, sixteen)) t k (omega (arith, sixteen)))
