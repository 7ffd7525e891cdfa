-- Entries of words beside entries of the trees: their order, an entry more, and the cut of sixteen. Assumes nothing.
use mathlib.Core.Path.{◌≡◌, refl, sym, ap, ap₂, ◌∙◌}
use mathlib.Core.Bool.{Bool, true, false, cond, not}
use mathlib.Core.List.{List, [], ◌∷◌, ◌++◌, map}
use mathlib.Core.Option.{Option, none, some}
use Prim.Native.Nat.compare
use Prim.Native.Nat.{ℕ, zero, suc, ◌-◌, ◌≤◌, ◌<◌, min, compare, Ordering}
use native.Mathlib.Omega.{arith}
use lib.Dec.{T, eqb, leb→le, eqb-suc-suc}
use borrow.Author.Tests.{eqb-true, eqb-false, ne_eqb}
use lib.ListN.{length, take, drop}
use Rattle.bank.specs.Lists.{here_or_later}
use Rattle.bank.proofs.Tests.{and_left, and_right, and_both}
use Rattle.leaf_entries.specs.declared.Entry.{Entry}
use Rattle.leaf.specs.Lists.{every, first_where}
use Rattle.leaf.specs.Leaf.{rank, against, is_less, less, rising}
use Rattle.leaf.specs.Search.{place_greater}
use Rattle.leaf.specs.Cut.{ikey_of, outward, cut_of}
use Rattle.leaf.specs.Cut as cuts
use Rattle.forest.specs.Nodes.{of_class}
use Rattle.forest.specs.Trees as words
use Rattle.forest.specs.Trees.{seen_as}
use Rattle.order.specs.Map.{◌a∷◌, alter, lookup, pick, put, Sorted, ◌s∷◌}
use Rattle.trees.specs.Nodes.{IkeyClass, layer_order}
use Rattle.trees.specs.TreePut.{low_of_entries}
use Rattle.trees.specs.Cut.{first_passing, outward_from_eight, ikeys_differ, cut_place}
use Rattle.trees.specs.Layers.{Pointer, cell}
use Rattle.views.specs.Views.{entry_view}
use Rattle.order.specs.Bytes.{then}

abbrev pub view_of : Entry → IkeyClass × Pointer
view_of e = entry_view (seen_as e)

-- ---- keys

view-ikey : (e : Entry) → (view_of e).0.0 ≡ suc e.ikey
unfolding seen_as
view-ikey e = by (eqb e.class 10)
  where
    by : (b : Bool) → (entry_view (cond b ((e.ikey, 9), words.link e.at) ((e.ikey, e.class), words.cell e.at))).0.0
        ≡ suc e.ikey
    by true = refl
    by false = refl

pub pair : {a b c d : ℕ} → a ≡ b → c ≡ d → ◌≡◌ {A = IkeyClass} (a, c) (b, d)
pair p q = λ i. (p i, q i)

pub view-key : (e : Entry) → T (of_class e) → (view_of e).0 ≡ (suc e.ikey, rank e)
unfolding seen_as
view-key e t = by (eqb e.class 10) refl
  where
    c10 : e.class ≤ 10
    c10 = leb→le e.class 10 t

    by : (b : Bool) → eqb e.class 10 ≡ b → (entry_view
        (cond b ((e.ikey, 9), words.link e.at) ((e.ikey, e.class), words.cell e.at))).0 ≡ (suc e.ikey, min 9 e.class)
    by true q = pair refl (let z : e.class ≡ 10 = eqb-true _ _ q in let y : 9 ≡ min 9 e.class = omega arith in y)
    by false q = pair refl (let z : e.class ≡ 10 → ⊥ = eqb-false e.class 10 q in let y : e.class
        ≡ min 9 e.class = omega (arith, c10) in y)

-- an entry with a cell
pub view-cell : (e : Entry) → e.class ≤ 9 → view_of e ≡ ((suc e.ikey, e.class), cell e.at)
unfolding seen_as
view-cell e h = rw (ne_eqb e.class 10 (λ z. omega arith))

rank-small : (e : Entry) → e.class ≤ 9 → rank e ≡ e.class
rank-small e h = omega arith

-- the order of keys is the order of entries
pub against-view : (ikey class : ℕ) (d : Entry) → T (of_class d) → layer_order (suc ikey, class) (view_of d).0 ≡ against ikey class d
unfolding layer_order
against-view ikey class d t = ap (λ (k : IkeyClass). then (compare (suc ikey) k.0) (compare class k.1)) (view-key d t)
    ∙ rw (compare.suc-suc ikey d.ikey) refl

-- ---- strictly rising

pub sorted_rises : (es : List Entry) → T (every of_class es) → Sorted layer_order (map view_of es) → T (rising es)
unfolding rising every
sorted_rises [] t s = tt
sorted_rises (e ∷ []) t s = tt
sorted_rises (e ∷ d ∷ es) t ((x a∷ xs) s∷ s) =
    let te = and_left (of_class e) _ t in
    let td = and_left (of_class d) _ (and_right (of_class e) _ t) in
    let q : against e.ikey (rank e) d ≡ Ordering.lt =
    sym (against-view e.ikey (rank e) d td) ∙ ap (λ (k : IkeyClass). layer_order k (view_of d).0) (sym (view-key e te)) ∙ x in
    and_both (less e d) _ (rw q tt) (sorted_rises (d ∷ es) (and_right (of_class e) _ t) s)

-- ---- an entry more: where it belongs

module _ (e : Entry) (small : e.class ≤ 9) where
  abbrev pub key_of : IkeyClass
  key_of = (suc e.ikey, e.class)

  abbrev pub putting : Option Pointer → Option Pointer
  putting o = some (cell e.at)

  abbrev at : List Entry → ℕ
  at es = place_greater e.ikey (rank e) es

  pub altered : (es : List Entry) → T (every of_class es) → lookup layer_order key_of (map view_of es) ≡ none
      → alter layer_order key_of putting (map view_of es) ≡ map view_of (take (at es) es ++ e ∷ drop (at es) es)
  unfolding alter lookup every first_where
  altered [] t n = ap (◌∷ []) (sym (view-cell e small))
  altered (d ∷ es) t n =
      go (against e.ikey (rank e) d)
      (ap (λ (c : ℕ). layer_order (suc e.ikey, c) (view_of d).0) (sym (rank-small e small))
      ∙ against-view e.ikey (rank e) d (and_left (of_class d) _ t))
      (altered es (and_right (of_class d) _ t)) n
    where
      go : (o : Ordering) → layer_order key_of (view_of d).0 ≡ o
          → (lookup layer_order key_of (map view_of es) ≡ none
          → alter layer_order key_of putting (map view_of es) ≡ map view_of (take (at es) es ++ e ∷ drop (at es) es))
          → pick (layer_order key_of (view_of d).0) none (some (view_of d).1) (lookup layer_order key_of (map view_of es)) ≡ none
          → pick (layer_order key_of (view_of d).0) (put key_of (putting none) (view_of d ∷ map view_of es))
          (put key_of (putting (some (view_of d).1)) (map view_of es)) (view_of d ∷ alter layer_order key_of putting (map view_of es))
          ≡ map view_of (take (here_or_later (is_less o) (at es)) (d ∷ es) ++ e ∷ drop (here_or_later (is_less o) (at es)) (d ∷ es))
      go Ordering.lt q ih n = rw q (ap (◌∷ view_of d ∷ map view_of es) (sym (view-cell e small)))
      go Ordering.eq q ih n = let z : ◌≡◌ {A = ℕ} 0 1 = cc in absurd (omega arith)
      go Ordering.gt q ih n = rw q (ap (view_of d ∷◌) (ih (rw q at n)))

-- ---- the cut

low-at : (c : ℕ) (es : List Entry) → c < length es → low_of_entries (drop c (map view_of es)) ≡ suc (ikey_of es c)
low-at c [] h = absurd (omega arith)
low-at zero (e ∷ es) h = view-ikey e
low-at (suc c) (e ∷ es) h = low-at c es (omega arith)

differ_same : (es : List Entry) → length es ≡ 16 → (c : ℕ) → 1 ≤ c → c ≤ 15 → ikeys_differ (map view_of es) c ≡ cuts.differs es c
differ_same es h zero l u = absurd (omega arith)
differ_same es h (suc i) l u =
    let z : suc i - 1 ≡ i = omega arith in
    ap₂ (λ (a b : ℕ). not (eqb a b)) (low-at i es (omega arith)) (low-at (suc i) es (omega arith))
    ∙ ap not (eqb-suc-suc (ikey_of es i) (ikey_of es (suc i)) ∙ ap (λ (j : ℕ). eqb (ikey_of es j) (ikey_of es (suc i))) (sym z))

step : (b : Bool) (x : ℕ) {u v : ℕ} → u ≡ v → cond b x u ≡ cond b x v
step true x e = refl
step false x e = e

start : (b : Bool) (x : ℕ) {u v : ℕ} → u ≡ v → cond b x u ≡ cond b x (cond b x v)
start true x e = refl
start false x e = e

module _ (p q : ℕ → Bool) (s : (c : ℕ) → 1 ≤ c → c ≤ 15 → p c ≡ q c) where
  one : (c : ℕ) → 1 ≤ c → c ≤ 15 → {u v : ℕ} → u ≡ v → cond (p c) c u ≡ cond (q c) c v
  one c l h {u} {v} e = ap (λ (b : Bool). cond b c u) (s c l h) ∙ step (q c) c e

  outward-first : first_passing p 8 outward_from_eight ≡ outward q 8 0 8
  unfolding outward
  outward-first =
      ap (λ (b : Bool). cond b 8 (first_passing p 8 (7 ∷ 9 ∷ 6 ∷ 10 ∷ 5 ∷ 11 ∷ 4 ∷ 12 ∷ 3 ∷ 13 ∷ 2 ∷ 14 ∷ 1 ∷ 15 ∷ [])))
      (s 8 (omega arith) (omega arith))
      ∙ start (q 8) 8
      (one 7 (omega arith) (omega arith) (one 9 (omega arith) (omega arith)
      (one 6 (omega arith) (omega arith) (one 10 (omega arith) (omega arith)
      (one 5 (omega arith) (omega arith) (one 11 (omega arith) (omega arith)
      (one 4 (omega arith) (omega arith) (one 12 (omega arith) (omega arith)
      (one 3 (omega arith) (omega arith) (one 13 (omega arith) (omega arith)
      (one 2 (omega arith) (omega arith) (one 14 (omega arith) (omega arith)
      (one 1 (omega arith) (omega arith) (one 15 (omega arith) (omega arith) refl))))))))))))))

-- the cut of sixteen entries is the trees'
pub cut-same : (es : List Entry) → length es ≡ 16 → cut_place (map view_of es) ≡ cut_of es
unfolding cut_place
cut-same es h = outward-first (ikeys_differ (map view_of es)) (cuts.differs es) (differ_same es h)

-- the ikey at the cut is the right half's lowest
pub low-cut : (es : List Entry) (c : ℕ) → c < length es → low_of_entries (drop c (map view_of es)) ≡ suc (ikey_of es c)
low-cut es c h = low-at c es h
