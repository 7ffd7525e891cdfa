-- What a put leaves, in the three places it may write: a conflict's layers, a layer below a link, and the top layer. Assumes nothing.
use mathlib.Core.Path.{◌≡◌, refl, sym, ap, ap₂, ◌∙◌, subst}
use mathlib.Core.Logic.{◌≢◌, ◌⊎◌, inl, inr}
use mathlib.Core.List.{List}
use mathlib.Core.Option.{none, some}
use Prim.Native.Nat.{ℕ, suc, ◌+◌, ◌≤◌, ◌<◌, min}
use native.Mathlib.Omega.{arith}
use lib.Dec.{T}
use lib.ListN.{length, get_or, set, length-set}
use lib.Seq.{set-get_or, set-set, get_or-set_same, get_or-set_other}
use Rattle.bank.specs.Bank.{slot_at}
use Rattle.leaf_entries.specs.declared.Entry.{Entry}
use Rattle.leaf.specs.Leaf as leaf
use Rattle.leaf.specs.Leaf.{slots_of}
use Rattle.arena.specs.Layout.{node_start}
use Rattle.forest.specs.Nodes.{slots_at, entries_at, leaf_right}
use Rattle.order.specs.Map.{alter}
use Rattle.trees.specs.Nodes.{IkeyClass, layer_order, Node, leaf, NodeList, node_in, one_at, InUse, leaf_entries}
use Rattle.trees.specs.FreeNumbers.{free_numbers, lowest_free}
use Rattle.trees.specs.Entries.{cell_key, FitsLayers}
use Rattle.trees.specs.Layers.{Pointer, link}
use Rattle.trees.specs.LayersPut.{conflict_count, conflict_written}
use Rattle.trees.proofs.Nodes.{one_at-other}
use Rattle.trees.proofs.FreeNumbers.{free-kept}
use Rattle.views.specs.Views.{node_view, node_sound}
use Rattle.model.specs.Meet.{number_word}
use Rattle.model.specs.Grow.{layers_grown}
use Rattle.growth.proofs.Frames.{Same, leaf-still, leaf-kind, entries-same, node-same, view-leaf}
use Rattle.growth.proofs.Memory.{Nodes, node-fits, View, view-at, Wrote, tabled-within}
use Rattle.growth.proofs.LeafGrown.{leaf-valid}
use Rattle.growth.proofs.EntrySets.{entry-there}
use Rattle.growth.proofs.Holders.{linked_at, link-holding, becomes-link, conflict-holding}
use Rattle.growth.proofs.LayersGrown.{layers-set}
use Rattle.growth.proofs.ParentGrown.{same_kind}
use Rattle.growth.proofs.ConflictLayers.{Becomes, layers-grown}
use Rattle.growth.proofs.LayerGrown.{LayerGrows}
use Rattle.growth.proofs.LinkPuts.{link_key, linked-is}

-- ---- a conflict: the entry at position p of leaf k becomes a link to the layers made for the two keys

module _ (nodes : List ℕ) (n : ℕ) (N : Nodes nodes n) (k : ℕ) (h : k < n) (t : T (leaf_right nodes k)) (p : ℕ)
    (p< : p < length (entries_at nodes k))
    (at : ℕ → List ℕ × ℕ) (K : List ℕ) (c b : ℕ) (ne : K ≢ cell_key at b) where
  abbrev seen : NodeList Pointer
  seen = View nodes n

  abbrev old : Entry
  old = get_or (entries_at nodes k) p leaf.none

  abbrev linking : Node Pointer
  linking = leaf (alter layer_order (link_key nodes n N k h t p p<) (λ o. some (link (lowest_free seen))) (leaf_entries (node_in seen k)))

  abbrev pub conflict_words : ℕ → ℕ → List ℕ
  conflict_words l links =
      layers_grown l (set nodes (node_start k + 17 + slot_at p (slots_at nodes k)) 10) n (number_word nodes k p) (record { key = K; cell = c })
      (record { key = cell_key at b; cell = b }) links

  pub conflict-grown : old.class ≡ 9 → (l : ℕ) (ks : List ℕ) → FitsLayers at l ks K → FitsLayers at l ks (cell_key at b)
      → conflict_count K (cell_key at b) l ks ≤ length (free_numbers 0 seen)
      → Becomes (one_at k) nodes n (conflict_words l (length ks)) (set (conflict_written at K c b l ks seen) k linking)
  conflict-grown c9 l ks fK fJ en =
      let m0 = set nodes (node_start k + 17 + slot_at p (slots_at nodes k)) 10 in
      let X = linked_at nodes n N k h t p p< in
      let W0 = becomes-link nodes n N k h t p p< c9 in
      let H = conflict-holding nodes n N k h t p p< c9 in
      let u : InUse (node_in seen k) = subst InUse (sym (view-at nodes n k h ∙ view-leaf nodes k t)) tt in
      let f0 : free_numbers 0 (View m0 n) ≡ free_numbers 0 seen = ap (free_numbers 0) W0.view ∙ free-kept seen 0 k (X old.at) u tt in
      let G = layers-grown at K c b ne l ks m0 n W0.still (number_word nodes k p) k X H fK fJ (omega (arith, en, ap length f0)) in
      record {
        still = G.still;
        view = G.view
            ∙ ap₂ (λ (m : NodeList Pointer) (x : Node Pointer). set m k x)
            (ap (conflict_written at K c b l ks) W0.view ∙ layers-set at K c b l ks seen k (X old.at) u tt en)
            (ap X (ap (λ (l : List ℕ). get_or l 0 0) f0))
            ∙ set-set (conflict_written at K c b l ks seen) k (X old.at) (X (lowest_free seen))
            ∙ ap (set (conflict_written at K c b l ks seen) k) (linked-is nodes n N k h t p p< (ap (min 9) c9) (lowest_free seen));
        head = λ i l. G.head i l ∙ W0.head i l;
        kept = λ j z u i l. let s : Same nodes m0 j = W0.others j (one_at-other k j z) in G.kept j z
            (λ y. u (sym (same_kind nodes m0 j s) ∙ y)) i l ∙ s i l;
      }

-- ---- the number of the root is where it was, or is written there

pub rooted-at : {own : ℕ → ℕ} {nodes : List ℕ} {n holder root : ℕ} {result : List ℕ} {b : ℕ × NodeList Pointer}
    (G : LayerGrows own nodes n holder root result b)
    → get_or G.grown holder 0 ≡ root → result ≡ set G.grown holder b.0
rooted-at {holder = holder} {root = root} {result = result} {b = b} G e = by G.rooted
  where
    by : ((result ≡ G.grown) × (b.0 ≡ root)) ⊎ (result ≡ set G.grown holder b.0) → result ≡ set G.grown holder b.0
    by (inl (q, r)) = q ∙ sym (ap (set G.grown holder) (r ∙ sym e) ∙ set-get_or G.grown holder 0)
    by (inr q) = q

-- ---- a layer below the link at position p of leaf k, which is none of its nodes

module _ (own : ℕ → ℕ) (nodes : List ℕ) (n : ℕ) (N : Nodes nodes n) (k : ℕ) (h : k < n) (t : T (leaf_right nodes k)) (p : ℕ)
    (p< : p < length (entries_at nodes k)) where
  abbrev entry : Entry
  entry = get_or (entries_at nodes k) p leaf.none

  abbrev holder : ℕ
  holder = number_word nodes k p

  module _ (c10 : entry.class ≡ 10) (not_own : own k ≡ 0) (result : List ℕ) (b : ℕ × NodeList Pointer)
      (G : LayerGrows own nodes n holder entry.at result b) where
    abbrev grown : List ℕ
    grown = G.grown

    same : Same nodes grown k
    same = G.kept k not_own (λ z. absurd (omega (arith, leaf-kind nodes k t)))

    fits : node_start k + 47 ≤ length nodes
    fits = node-fits nodes n N k h

    fits' : node_start k + 47 ≤ length grown
    fits' = node-fits grown n G.still k h

    t' : T (leaf_right grown k)
    t' = leaf-still nodes grown k fits fits' same t

    es-same : entries_at grown k ≡ entries_at nodes k
    es-same = entries-same nodes grown k fits fits' same (leaf-valid nodes k t)

    p<' : p < length (entries_at grown k)
    p<' = omega (arith, p<, ap length es-same)

    entry-same : get_or (entries_at grown k) p leaf.none ≡ entry
    entry-same = ap (λ (xs : List Entry). get_or xs p leaf.none) es-same

    holder-same : number_word grown k p ≡ holder
    holder-same = ap (λ (w : ℕ). node_start k + 32 + slot_at p (slots_of w)) (same 1 (omega arith))

    number-there : get_or grown holder 0 ≡ entry.at
    number-there =
        let s = slot_at p (slots_at grown k) in
        let z : node_start k + 32 + s ≡ node_start k + (32 + s) = omega arith in
        ap (λ (i : ℕ). get_or grown i 0) (sym holder-same ∙ z)
        ∙ ap (λ (x : Entry). x.at) (sym (entry-there grown n G.still k h t' p p<') ∙ entry-same)

    pub link-grown : Becomes (λ j. one_at k j + own j) nodes n result
        (set b.1 k (leaf (alter layer_order (suc entry.ikey, 9) (λ o. some (link b.0)) (leaf_entries (node_in b.1 k)))))
    link-grown =
        let c10' : (get_or (entries_at grown k) p leaf.none).class ≡ 10 = ap (λ (x : Entry). x.class) entry-same ∙ c10 in
        let H = link-holding grown n G.still k h t' p p<' c10' in
        let W : Wrote grown (set grown holder b.0) n k (linked_at grown n G.still k h t' p p<' b.0) =
        subst (λ (w : ℕ). Wrote grown (set grown w b.0) n k (linked_at grown n G.still k h t' p p<' b.0)) holder-same
        (H.puts b.0) in
        let ik : link_key grown n G.still k h t' p p<' ≡ (suc entry.ikey, 9) = ap (λ (x : Entry). (suc x.ikey, 9)) entry-same in
        let L : linked_at grown n G.still k h t' p p<' b.0
        ≡ leaf (alter layer_order (suc entry.ikey, 9) (λ o. some (link b.0)) (leaf_entries (node_in b.1 k))) =
        linked-is grown n G.still k h t' p p<' (ap (min 9) c10') b.0
        ∙ ap₂ (λ (x : IkeyClass) (m : NodeList Pointer). leaf (alter layer_order x (λ o. some (link b.0)) (leaf_entries (node_in m k))))
        ik G.view in
        subst (λ (m : List ℕ). Becomes (λ j. one_at k j + own j) nodes n m
        (set b.1 k (leaf (alter layer_order (suc entry.ikey, 9) (λ o. some (link b.0)) (leaf_entries (node_in b.1 k))))))
        (sym (rooted-at G number-there))
        (record {
          still = W.still;
          view = W.view ∙ ap₂ (λ (m : NodeList Pointer) (x : Node Pointer). set m k x) G.view L;
          head = λ i l. W.head i l ∙ G.head i l;
          kept = λ j z u i l. W.others j (one_at-other k j (omega arith)) i l ∙ G.kept j (omega arith) u i l;
        })

-- ---- the top layer, whose root stands in the first word

pub record Rooted (nodes : List ℕ) (n : ℕ) (result : List ℕ) (b : ℕ × NodeList Pointer) : Type 0 where
  pub still : Nodes result n
  pub view : View result n ≡ b.1
  pub root_is : get_or result 0 0 ≡ b.0
  pub second : get_or result 1 0 ≡ get_or nodes 1 0

pub top-grown : (own : ℕ → ℕ) (nodes : List ℕ) (n root : ℕ) (result : List ℕ) (b : ℕ × NodeList Pointer)
    → LayerGrows own nodes n 0 root result b → get_or nodes 0 0 ≡ root
    → Rooted nodes n result b
top-grown own nodes n root result b G e =
    let g = G.grown in
    let N = G.still in
    let m = set g 0 b.0 in
    let len : length m ≡ length g = length-set g 0 b.0 in
    let same : (j : ℕ) → Same g m j = λ j i l. get_or-set_other g 0 (node_start j + i) b.0 0 (λ z. absurd (omega arith)) in
    let each : (j : ℕ) → j < n → T (node_sound m j) × (node_view m j ≡ node_view g j) =
    λ j l. node-same g m j (node-fits g n N j l) (omega (arith, len, N.long)) (same j) (N.sound j l) in
    subst (λ (m : List ℕ). Rooted nodes n m b) (sym (rooted-at G (G.head 0 (omega arith) ∙ e)))
    (record {
      still = record { long = len ∙ N.long; sound = λ j l. (each j l).0 };
      view = tabled-within (node_view g) (node_view m) 0 n (λ j l u. (each j (omega arith)).1) ∙ G.view;
      root_is = get_or-set_same g 0 b.0 0 (omega (arith, N.long));
      second = get_or-set_other g 0 1 b.0 0 (λ z. absurd (omega arith)) ∙ G.head 1 (omega arith);
    })

-- a layer whose root stays where it was
pub root-stays : (own : ℕ → ℕ) (nodes : List ℕ) (n holder root : ℕ) (result : List ℕ) (m : NodeList Pointer)
    → Becomes own nodes n result m → LayerGrows own nodes n holder root result (root, m)
root-stays own nodes n holder root result m B =
    record { grown = result; still = B.still; view = B.view; head = B.head; kept = B.kept; rooted = inl (refl, refl) }
