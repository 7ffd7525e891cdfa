-- The split of a full internode with one key more, as the code makes it. Assumes nothing.
use mathlib.Core.Path.{◌≡◌, refl, sym, ◌∙◌, ap, ap₂}
use mathlib.Core.List.{List, ◌∷◌, ◌++◌}
use Prim.Native.Nat.{ℕ, ◌+◌, ◌-◌, ◌≤◌, ◌<◌}
use native.Mathlib.Omega.{arith}
use native.Mathlib.Numerals.{add-one}
use lib.ListN.{length, get_or, set, take, drop, replicate, length-take, length-drop}
use lib.Seq.{length-take-le, take_all, drop-cons}
use Rattle.internode_places.specs.declared.Internode.{Internode}
use Rattle.internode_inserts.specs.declared.Split.{Split}
use Rattle.internode_places.specs.Lists.{inserted_at}
use Rattle.internode_inserts.specs.Insert.{inserted_among}
use Rattle.internode_inserts.specs.Insert.{inserted}
use Rattle.internode_inserts.specs.Split.{shifted, node_of, split_of}
use Rattle.internode_places.proofs.Inserts.{inserted-length, inserted-before, inserted-here, inserted-after}
use Rattle.internode_inserts.proofs.Parts.{take-inserted-low, take-inserted-high, drop-inserted-low, drop-inserted-high, moved-zeros}
use Rattle.internode_inserts.proofs.Parts.{paste-zeros, paste-first}

-- ---- a part of a node, copied into an empty one

-- the empty node with so many ikeys to come, and the child left of them
abbrev pub begun : ℕ → ℕ → Internode
begun count child = record { n = count; ikeys = replicate 15 0; children = set (replicate 16 0) 0 child }

pub part-copied : (x : Internode) (from count : ℕ) → length x.ikeys ≡ 15 → length x.children ≡ 16 → from + count ≤ 15
    → shifted (begun count (get_or x.children from 0)) 0 x from count
    ≡ node_of (take count (drop from x.ikeys)) (take (count + 1) (drop from x.children))
part-copied x from count k c h =
    λ i. record {
      n = sym (length-take-le count (drop from x.ikeys) (simp length-drop (omega arith))) i;
      ikeys = paste-zeros 15 from count x.ikeys (omega arith) i;
      children = paste-first 15 from count x.children (omega arith) i;
    }

-- ---- an insertion into a node with zeros behind its keys

pub node-inserted : (ks cs : List ℕ) (p ikey child : ℕ) → length ks < 15 → length cs ≡ length ks + 1 → p ≤ length ks
    → inserted (node_of ks cs) p ikey child ≡ node_of (inserted_at p ikey ks) (inserted_at (p + 1) child cs)
node-inserted ks cs p ikey child h e l =
    λ i. record { n = count i; ikeys = keys i; children = kids i }
  where
    count : length ks + 1 ≡ length (inserted_at p ikey ks)
    count = add-one (length ks) ∙ sym (inserted-length p ikey ks l)

    keys : inserted_among p (length ks) ikey (ks ++ replicate (15 - length ks) 0)
        ≡ inserted_at p ikey ks ++ replicate (15 - length (inserted_at p ikey ks)) 0
    keys =
        let z : 15 - length ks - 1 ≡ 15 - length (inserted_at p ikey ks) = omega (arith, inserted-length p ikey ks l) in
        moved-zeros p (15 - length ks) ikey ks l (omega arith) ∙ ap (λ (k : ℕ). inserted_at p ikey ks ++ replicate k 0) z

    kids : inserted_among (p + 1) (length ks + 1) child (cs ++ replicate (16 - length cs) 0)
        ≡ inserted_at (p + 1) child cs ++ replicate (16 - length (inserted_at (p + 1) child cs)) 0
    kids =
        let z : 16 - length cs - 1 ≡ 16 - length (inserted_at (p + 1) child cs) =
        omega (arith, inserted-length (p + 1) child cs (omega arith)) in
        ap (λ (k : ℕ). inserted_among (p + 1) k child (cs ++ replicate (16 - length cs) 0)) (sym e)
        ∙ moved-zeros (p + 1) (16 - length cs) child cs (omega arith) (omega arith)
        ∙ ap (λ (k : ℕ). inserted_at (p + 1) child cs ++ replicate k 0) z

-- ---- the three ways of the split

parts : {l m : Internode} {u v : ℕ} {r s : Internode} → l ≡ m → u ≡ v → r ≡ s
    → ◌≡◌ {A = Split} (record { left = l; up = u; right = r }) (record { left = m; up = v; right = s })
parts a b d = λ i. record { left = a i; up = b i; right = d i }

module _ (x : Internode) (p ikey child : ℕ) (k : length x.ikeys ≡ 15) (c : length x.children ≡ 16) where
  -- all that is left of a list from a place on
  rest_keys : (from count : ℕ) → from + count ≡ 15 → take count (drop from x.ikeys) ≡ drop from x.ikeys
  rest_keys from count e = take_all count (drop from x.ikeys) (simp length-drop (omega arith))

  rest-children : (from count : ℕ) → from + count ≡ 16 → take count (drop from x.children) ≡ drop from x.children
  rest-children from count e = take_all count (drop from x.children) (simp length-drop (omega arith))

  -- the node with another first child
  abbrev with_first : Internode → Internode
  with_first y = record { n = y.n; ikeys = y.ikeys; children = set y.children 0 child }

  module _ {few left : Internode} where
    pub split-low : {right : Internode} → p < 8
        → few ≡ node_of (take 7 (drop 0 x.ikeys)) (take 8 (drop 0 x.children))
        → left ≡ inserted few p ikey child
        → right ≡ node_of (take 7 (drop 8 x.ikeys)) (take 8 (drop 8 x.children))
        → ◌≡◌ {A = Split} (record { left = left; up = get_or x.ikeys 7 0; right = right }) (split_of x p ikey child)
    unfolding split_of
    split-low h f l r =
        parts
        (l
        ∙ ap (λ (y : Internode). inserted y p ikey child) f
        ∙ node-inserted (take 7 x.ikeys) (take 8 x.children) p ikey child
        (simp length-take (omega arith)) (simp length-take (omega arith)) (simp length-take (omega arith))
        ∙ ap₂ node_of
        (sym (take-inserted-low p 7 ikey x.ikeys (omega arith)))
        (sym (take-inserted-low (p + 1) 8 child x.children (omega arith))))
        (sym (inserted-after p ikey x.ikeys (omega arith) 7 (omega arith)))
        (r
        ∙ ap₂ node_of
        (rest_keys 8 7 refl ∙ sym (drop-inserted-low p 8 ikey x.ikeys (omega arith) (omega arith)))
        (rest-children 8 8 refl ∙ sym (drop-inserted-low (p + 1) 8 child x.children (omega arith) (omega arith))))

    pub split-high : {right : Internode} → 9 ≤ p → p ≤ 15
        → left ≡ node_of (take 8 (drop 0 x.ikeys)) (take 9 (drop 0 x.children))
        → few ≡ node_of (take 6 (drop 9 x.ikeys)) (take 7 (drop 9 x.children))
        → right ≡ inserted few (p - 9) ikey child
        → ◌≡◌ {A = Split} (record { left = left; up = get_or x.ikeys 8 0; right = right }) (split_of x p ikey child)
    unfolding split_of
    split-high h m l f r =
        let e : p - 9 + 1 ≡ p + 1 - 9 = omega arith in
        parts
        (l
        ∙ ap₂ node_of
        (sym (take-inserted-high p 8 ikey x.ikeys (omega arith) (omega arith)))
        (sym (take-inserted-high (p + 1) 9 child x.children (omega arith) (omega arith))))
        (sym (inserted-before p ikey x.ikeys (omega arith) 8 (omega arith)))
        (r
        ∙ ap (λ (y : Internode). inserted y (p - 9) ikey child) (f ∙ ap₂ node_of (rest_keys 9 6 refl) (rest-children 9 7 refl))
        ∙ node-inserted (drop 9 x.ikeys) (drop 9 x.children) (p - 9) ikey child
        (simp length-drop (omega arith)) (simp length-drop (omega arith)) (simp length-drop (omega arith))
        ∙ ap₂ node_of
        (sym (drop-inserted-high p 9 ikey x.ikeys h (omega arith)))
        (ap (λ (q : ℕ). inserted_at q child (drop 9 x.children)) e
        ∙ sym (drop-inserted-high (p + 1) 9 child x.children (omega arith) (omega arith))))

    pub split-here : 8 ≤ p → p < 9
        → left ≡ node_of (take 8 (drop 0 x.ikeys)) (take 9 (drop 0 x.children))
        → few ≡ node_of (take 7 (drop 8 x.ikeys)) (take 8 (drop 8 x.children))
        → ◌≡◌ {A = Split}
        (record { left = left; up = ikey; right = record { n = few.n; ikeys = few.ikeys; children = set few.children 0 child } })
        (split_of x p ikey child)
    unfolding split_of inserted_at
    split-here h m l f =
        let e : p ≡ 8 = omega arith in
        let z : p + 1 - 9 ≡ 0 = omega arith in
        let keys : take 7 (drop 8 x.ikeys) ≡ drop 9 (inserted_at p ikey x.ikeys)
        = rest_keys 8 7 refl ∙ sym (drop-inserted-low p 8 ikey x.ikeys (omega arith) (omega arith)) in
        let old : take 8 (drop 8 x.children) ≡ get_or x.children 8 0 ∷ drop 9 x.children
        = rest-children 8 8 refl ∙ drop-cons x.children 8 0 (omega arith) in
        let new : child ∷ drop 9 x.children ≡ drop 9 (inserted_at (p + 1) child x.children)
        = ap (λ (q : ℕ). inserted_at q child (drop 9 x.children)) (sym z)
        ∙ sym (drop-inserted-high (p + 1) 9 child x.children (omega arith) (omega arith)) in
        parts
        (l
        ∙ ap₂ node_of
        (sym (take-inserted-high p 8 ikey x.ikeys (omega arith) (omega arith)))
        (sym (take-inserted-high (p + 1) 9 child x.children (omega arith) (omega arith))))
        (sym (inserted-here p ikey x.ikeys (omega arith)) ∙ ap (λ (q : ℕ). get_or (inserted_at p ikey x.ikeys) q 0) e)
        (ap (λ (y : Internode). with_first y) f ∙ ap₂ (λ (a b : List ℕ). with_first (node_of a b)) keys old
        ∙ ap (λ (b : List ℕ). node_of (drop 9 (inserted_at p ikey x.ikeys)) b) new)
