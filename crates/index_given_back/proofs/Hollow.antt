-- A layer of one empty leaf goes, and the link to it: what memory has then. Assumes nothing.
use mathlib.Core.List.{List, [], ◌∷◌, map}
use mathlib.Core.Logic.{inr}
use mathlib.Core.Option.{Option, none, some}
use mathlib.Core.Path.{◌≡◌, refl, sym, ap, ◌∙◌, subst}
use Prim.Native.Nat.{ℕ, zero, suc, ◌+◌, ◌≤◌, ◌<◌}
use native.Mathlib.Omega.{arith}
use lib.ListN.{set, drop}
use lib.Seq.{get_or-set_other}
use Rattle.order.specs.Lists.{total}
use Rattle.order.specs.Map.{alter, lookup}
use Rattle.order.specs.Options.{map_option, worth}
use Rattle.order.proofs.Changes.{worth-le, lookup-map, alter-sum, alter-map, alter-id, delete-shorter}
use Rattle.trees.specs.Nodes.{IkeyClass, layer_order, free, leaf, internode, NodeList, node_in, one_at, InUse}
use Rattle.trees.specs.FreeNumbers.{free_numbers, times_in}
use Rattle.trees.specs.TreePut.{CutsWell, layer_needs}
use Rattle.trees.specs.PutInMemory.{layer_put}
use Rattle.trees.specs.Tree.{any_reaches, HoldsAny}
use Rattle.trees.specs.Layers.{Pointer, link, LayeredValue, Layered, layer_root, pointer_of, pointer_entry, value_reaches, layer_reaches}
use Rattle.trees.specs.Layers.{HoldsLayer}
use Rattle.trees.proofs.Nodes.{layer-order, one_at-other}
use Rattle.trees.proofs.FindInTree.{needs-nothing}
use Rattle.trees.proofs.OneLayer.{layer_put-became}
use Rattle.trees.proofs.Layers.{any-framed, alter-holds, erase-holds}
use Rattle.trees.proofs.Relinked.{layer-found}

-- a node more is free
pub free-given : (m : NodeList Pointer) (i n j : ℕ) → InUse (node_in m n)
    → times_in (free_numbers i (set m n free)) j ≡ times_in (free_numbers i m) j + one_at (i + n) j
free-given [] i n j u = absurd u
free-given (free ∷ m) i zero j u = absurd u
free-given (leaf es ∷ m) i zero j u = let z : i + 0 ≡ i = omega arith in omega (arith, ap (λ (x : ℕ). one_at x j) z)
free-given (internode ks cs ∷ m) i zero j u = let z : i + 0 ≡ i = omega arith in omega (arith, ap (λ (x : ℕ). one_at x j) z)
free-given (free ∷ m) i (suc n) j u =
    let z : suc i + n ≡ i + suc n = omega arith in omega (arith, free-given m (suc i) n j u, ap (λ (x : ℕ). one_at x j) z)
free-given (leaf es ∷ m) i (suc n) j u =
    let z : suc i + n ≡ i + suc n = omega arith in omega (arith, free-given m (suc i) n j u, ap (λ (x : ℕ). one_at x j) z)
free-given (internode ks cs ∷ m) i (suc n) j u =
    let z : suc i + n ≡ i + suc n = omega arith in omega (arith, free-given m (suc i) n j u, ap (λ (x : ℕ). one_at x j) z)

-- a layer of one empty leaf
abbrev pub hollow : (l : ℕ) → ℕ → Layered l
hollow l n = ((zero, (n, [])), [])

module _ (top mid : ℕ) (cut : List (IkeyClass × Pointer) → ℕ) (hi : ℕ) (m m' : NodeList Pointer) (n : ℕ) where
  -- memory m with the layer v has become m' with w: the same root, and node n less
  pub record Gave (l : ℕ) (v w : Layered l) : Type 0 where
    pub rooted : layer_root l w ≡ layer_root l v
    pub holds : HoldsLayer top hi l m' w
    pub less : (j : ℕ) → layer_reaches l w j + one_at n j ≡ layer_reaches l v j
    pub same : (j : ℕ) → layer_reaches l v j ≡ 0 → times_in (free_numbers 0 m) j ≡ 0 → node_in m' j ≡ node_in m j

  -- the layer above, whose root stays
  pub gave-above : (l : ℕ) (v : Layered (suc l)) (k : IkeyClass) → HoldsLayer top hi (suc l) m v
      → ((j : ℕ) → layer_reaches (suc l) v j + times_in (free_numbers 0 m) j ≤ 1) → (x w : Layered l)
      → lookup layer_order k v.1 ≡ some (inr x) → Gave l x w
      → Gave (suc l) v (v.0, alter layer_order k (λ _. some (inr w)) v.1)
  gave-above l v k H u x w q B =
      let es = v.1 in
      let g : Option (LayeredValue (suc l)) → Option (LayeredValue (suc l)) = λ _. some (inr w) in
      let f : Option Pointer → Option Pointer = λ _. some (link (layer_root l x)) in
      let le : (j : ℕ) → layer_reaches l x j ≤ total (λ e. value_reaches (suc l) e.1 j) es =
      λ j. omega (arith, worth-le layer_order k (λ y. value_reaches (suc l) y j) es, ap (worth (λ y. value_reaches (suc l) y j)) q) in
      let ids : map (pointer_entry (suc l)) (alter layer_order k g es) ≡ map (pointer_entry (suc l)) es =
      alter-map layer_order k (pointer_of (suc l)) g f es (ap (λ (i : ℕ). some (link i)) B.rooted)
      ∙ alter-id layer_order k layer-order (link (layer_root l x)) (map (pointer_entry (suc l)) es)
      (lookup-map layer_order k (pointer_of (suc l)) es ∙ ap (map_option (pointer_of (suc l))) q) in
      record {
        rooted = refl;
        holds = (
          any-framed top hi m m' v.0 (λ j i. B.same j (omega (arith, u j, le j)) (omega (arith, u j))) H.0,
          H.1 ∙ sym ids,
          alter-holds top hi m m' (suc l) k (inr w) B.holds H.2 (λ j i.
              let wo : worth (λ y. value_reaches (suc l) y j) (lookup layer_order k es) ≡ layer_reaches l x j =
              ap (worth (λ y. value_reaches (suc l) y j)) q in B.same j (omega (arith, u j)) (omega (arith, u j))),
        );
        less = λ j. omega (
          arith,
          B.less j,
          alter-sum layer_order k (λ y. value_reaches (suc l) y j) g es,
          ap (worth (λ y. value_reaches (suc l) y j)) q,
        );
        same = λ j y z. B.same j (omega (arith, le j)) z;
      }

module _ (top mid : ℕ) (cut : List (IkeyClass × Pointer) → ℕ) (hi : ℕ) (cut_ok : CutsWell Pointer top mid cut) (mid-lo : 1 ≤ mid)
    (mid-hi : mid ≤ suc top) (tp : 2 ≤ top) (m m₁ : NodeList Pointer) (n : ℕ) where
  -- the layer with the link
  pub gave-here : (l : ℕ) (v : Layered (suc l)) (k : IkeyClass) → k.0 < hi → k.1 ≤ 9 → HoldsLayer top hi (suc l) m v
      → ((j : ℕ) → layer_reaches (suc l) v j + times_in (free_numbers 0 m) j ≤ 1)
      → lookup layer_order k v.1 ≡ some (inr (hollow l n))
      → layer_put Pointer top mid cut v.0.0 k (λ o. none) (layer_root (suc l) v) m ≡ (layer_root (suc l) v, m₁)
      → (w : Layered (suc l)) × Gave top mid cut hi m (set m₁ n free) n (suc l) v w × (w.1 ≡ alter layer_order k (λ _. none) v.1)
  gave-here l v k kh kc H u q e =
      let es = v.1 in
      let m' : NodeList Pointer = set m₁ n free in
      let f : Option Pointer → Option Pointer = λ o. none in
      let L = layer-found top mid cut hi (suc l) m v k kh H (λ j. omega (arith, u j)) in
      let z : layer_needs Pointer top mid cut k f v.0 ≡ 0 =
      needs-nothing Pointer top mid cut k f (map_option (pointer_of (suc l)) (lookup layer_order k es))
      (λ es e. delete-shorter layer_order k es) v.0.0 1 0 hi (0, v.0.1) H.0.0 L.1 in
      let (a, D, E) = layer_put-became Pointer top mid cut hi cut_ok mid-lo mid-hi (omega arith) m v.0 k f kh kc H.0
      (λ j. omega (arith, u j)) (omega arith) in
      let b = layer_put Pointer top mid cut v.0.0 k f (layer_root (suc l) v) m in
      let memory-is : b.1 ≡ m₁ = ap (λ (r : ℕ × NodeList Pointer). r.1) e in
      let root_is : b.0 ≡ layer_root (suc l) v = ap (λ (r : ℕ × NodeList Pointer). r.0) e in
      let one : (j : ℕ) → worth (λ y. value_reaches (suc l) y j) (lookup layer_order k es) ≡ one_at n j =
      λ j. ap (worth (λ y. value_reaches (suc l) y j)) q ∙ plus-zero (one_at n j) in
      let le : (j : ℕ) → one_at n j ≤ total (λ y. value_reaches (suc l) y.1 j) es =
      λ j. omega (arith, worth-le layer_order k (λ y. value_reaches (suc l) y j) es, one j) in
      let same₁ : (j : ℕ) → any_reaches Pointer v.0 j ≡ 0 → times_in (free_numbers 0 m) j ≡ 0 → node_in m₁ j ≡ node_in m j =
      λ j x y. ap (λ (s : NodeList Pointer). node_in s j) (sym memory-is) ∙ D.same j x y in
      let other : (j : ℕ) → one_at n j ≡ 0 → node_in m' j ≡ node_in m₁ j = λ j x. get_or-set_other m₁ n j free free (one_at-other n j x) in
      let frees : (j : ℕ) → times_in (free_numbers 0 b.1) j ≡ times_in (free_numbers 0 m) j =
      λ j. ap (λ (xs : List ℕ). times_in xs j) (D.left ∙ ap (λ (i : ℕ). drop i (free_numbers 0 m)) z) in (
        (a, alter layer_order k (λ _. none) es),
        record {
          rooted = D.rooted ∙ root_is;
          holds = (
            any-framed top hi m₁ m' a (λ j i. other j (omega (arith, u j, le j, D.keep j, frees j)))
                (subst (λ (s : NodeList Pointer). HoldsAny Pointer top hi s a) memory-is D.holds),
            E ∙ ap (alter layer_order k f) H.1 ∙ sym (alter-map layer_order k (pointer_of (suc l)) (λ _. none) f es refl),
            erase-holds top hi m m' (suc l) k H.2 (λ j g. other j (omega (arith, u j, one j))
                ∙ same₁ j (omega (arith, u j, one j)) (omega (arith, u j, one j))),
          );
          less = λ j. omega (arith, D.keep j, frees j, one j, alter-sum layer_order k (λ y. value_reaches (suc l) y j) (λ _. none) es);
          same = λ j x y. other j (omega (arith, le j)) ∙ same₁ j (omega arith) y;
        },
        refl,
      )
    where
      plus-zero : (i : ℕ) → i + 0 ≡ i
      plus-zero i = omega arith
