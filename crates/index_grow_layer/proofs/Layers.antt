-- A law for each way in which a layer with an entry more returns. Assumes nothing.
use Prim.Native.Nat.{ℕ}
use mathlib.Core.Path.{◌≡◌, sym, ap, ◌∙◌}
use mathlib.Core.List.{List}
use lib.ListN.{set}
use borrow.Author.Rules.{rules}
use Rattle.internode_places.specs.declared.Internode.{Internode}
use Rattle.leaf_entries.specs.declared.Entry.{Entry}
use Rattle.forest.specs.Walk.{height_at}
use Rattle.model.specs.declared.Grown.{Grown}
use Rattle.model.specs.declared.Grown.TheVariants.{One, Two}
use Rattle.model.specs.Leaves.{fresh_node}
use Rattle.model.specs.Internodes.{internode_put, over_two}
use Rattle.model.specs.Grow.{node_grown, root_grown, layer_grown, node_rests, layer_rests}

module _ (m : List ℕ) (count holder root : ℕ) (e : Entry) {height : ℕ} {m1 : List ℕ} {g : Grown} (h : height ≡ height_at m 255 root)
    (f : (m1, g) ≡ node_grown m count height root e) where
  grown : layer_grown m count holder root e ≡ root_grown count holder root (m1, g)
  unfolding layer_grown
  grown = ap (root_grown count holder root) (ap (λ (i : ℕ). node_grown m count i root e) (sym h) ∙ sym f)

  pub layer-one : g ≡ One → m1 ≡ layer_grown m count holder root e
  layer-one q = sym (grown ∙ ap (λ (x : Grown). root_grown count holder root (m1, x)) q)

  pub layer-two : {ikey node top : ℕ} {x : Internode} {m2 m3 : List ℕ} → g ≡ Two ikey node → top ≡ fresh_node m1 count
      → x ≡ over_two root ikey node
      → m2 ≡ internode_put m1 top x → m3 ≡ set m2 holder top → m3 ≡ layer_grown m count holder root e
  layer-two q t o e2 e3 = rw (e3, e2, o, t) (sym (grown ∙ ap (λ (y : Grown). root_grown count holder root (m1, y)) q))

pub layer-rests : (m : List ℕ) (count root : ℕ) (e : Entry) {height r : ℕ} → height ≡ height_at m 255 root
    → r ≡ node_rests m count height root e → r ≡ layer_rests m count root e
unfolding layer_rests
layer-rests m count root e h f = f ∙ ap (λ (i : ℕ). node_rests m count i root e) h

pub ruleset grows = (rules, layer-one, layer-two, layer-rests)
