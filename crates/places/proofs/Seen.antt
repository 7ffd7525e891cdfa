-- Sound memory whose view is a tree: what stands at each number of a node or a cell, and the way of a key from the root down. Assumes
-- nothing.
use mathlib.Core.Path.{◌≡◌, refl, sym, ap, ◌∙◌, subst}
use mathlib.Core.Bool.{Bool, true, false}
use mathlib.Core.Logic.{⊎_elim}
use mathlib.Core.List.{List, [], ◌∷◌}
use mathlib.Core.Option.{Option, none, some}
use Prim.Native.Nat.{ℕ, zero, suc, ◌-◌, ◌≤◌, ◌<◌, ◌+◌}
use native.Mathlib.Omega.{arith}
use lib.Dec.{eqb}
use lib.ListN.{length, get_or, get_or-eq_default}
use borrow.Author.Tests.{eq-eqb, eqb-true}
use Rattle.order.specs.Bytes.{Bytes}
use Rattle.arena.specs.Parts.{part}
use Rattle.arena.specs.Free.{is_free}
use Rattle.arena.specs.Layout.{key_start, cell_start, mark_at, frame_at, key_at}
use Rattle.arena.specs.Memory.{Memory}
use Rattle.arena.proofs.Words.{lt-or-ge, part_length}
use Rattle.arena.proofs.Measures.{Right}
use Rattle.model.specs.Meet.{meet}
use Rattle.model.specs.Calls.{place}
use Rattle.trees.specs.FreeNumbers.{times_in}
use Rattle.trees.specs.Cells.{cell_at}
use Rattle.trees.specs.Layers.{Layered}
use Rattle.trees.specs.WholeTree.{layer_uses}
use Rattle.trees.proofs.WholeTree.{ones_below-le, below-no-links}
use Rattle.views.specs.Views.{cells_view, Sound}
use Rattle.views.proofs.Nodes.{nodes_in, cells_in, cell-at, cell-beyond, free-cell-view, used-cell-view, free-cells-view, cell-cases}
use Rattle.views.proofs.Nodes.{free-mark, right-mark}
use Rattle.views.proofs.Balance.{Balanced, counted-fails}
use Rattle.views.proofs.Whole.{ViewIsTree, lengths}
use Rattle.places.proofs.Meets.{Whole, Way, meets}

module _ (m : Memory) (sound : Sound m) where
  abbrev right : Right (length m.nodes) (length m.cells) (length m.bytes) (nodes_in m) (cells_in m)
  right = lengths m sound.lent

  no_key : (c : ℕ) → mark_at m.cells c ≡ 0 → key_at m.cells m.bytes c ≡ []
  unfolding part
  no_key c e = let z : mark_at m.cells c - 1 ≡ 0 = omega arith in rw z

  beyond-mark : (c : ℕ) → cells_in m ≤ c → mark_at m.cells c ≡ 0
  beyond-mark c h = get_or-eq_default m.cells 0 {n = cell_start c} (omega (arith, right.cells_whole))

  key-of : (c : ℕ) (o : Option (List ℕ × ℕ)) → get_or (cells_view m) c none ≡ o → (cell_at (cells_view m) c).0 ≡ (cell_at (o ∷ []) 0).0
  key-of c o e = rw e

  pub seen_key : (c : ℕ) → (cell_at (cells_view m) c).0 ≡ key_at m.cells m.bytes c
  seen_key c =
      ⊎_elim (λ h. go (eqb (mark_at m.cells c) 0) (eqb-true (mark_at m.cells c) 0) h refl)
      (λ h. key-of c none (cell-beyond m c h) ∙ sym (no_key c (beyond-mark c h))) (lt-or-ge c (cells_in m))
    where
      go : (b : Bool) → (b ≡ true → mark_at m.cells c ≡ 0) → c < cells_in m → eqb (mark_at m.cells c) 0 ≡ b
          → (cell_at (cells_view m) c).0 ≡ key_at m.cells m.bytes c
      go true f h q = key-of c none (cell-at m c h ∙ free-cell-view m.cells m.bytes c (f refl)) ∙ sym (no_key c (f refl))
      go false f h q =
          key-of c (some (key_at m.cells m.bytes c, frame_at m.cells c))
          (cell-at m c h ∙ used-cell-view m.cells m.bytes c
          (λ z. let y : true ≡ false = sym (eq-eqb (mark_at m.cells c) 0 z) ∙ q in let x : ◌≡◌ {A = ℕ} 0 1 = cc in omega arith))

  pub seen-frame : (c : ℕ) → 1 ≤ mark_at m.cells c → (cell_at (cells_view m) c).1 ≡ frame_at m.cells c
  seen-frame c h =
      ⊎_elim (λ g. frame-of (cell-at m c g ∙ used-cell-view m.cells m.bytes c (λ z. omega arith)))
      (λ g. absurd (omega (arith, beyond-mark c g))) (lt-or-ge c (cells_in m))
    where
      frame-of : get_or (cells_view m) c none ≡ some (key_at m.cells m.bytes c, frame_at m.cells c)
          → (cell_at (cells_view m) c).1 ≡ frame_at m.cells c
      frame-of e = rw e

  -- a cell in use is in memory, and has its whole key there
  pub marked-inside : (c : ℕ) → 1 ≤ mark_at m.cells c → c < cells_in m
  marked-inside c h = ⊎_elim (λ g. g) (λ g. absurd (omega (arith, beyond-mark c g))) (lt-or-ge c (cells_in m))

  pub whole-cell : (c : ℕ) → 1 ≤ mark_at m.cells c → Whole m.cells m.bytes c
  whole-cell c h =
      let inside = marked-inside c h in
      let most : mark_at m.cells c ≤ 257 =
      cell-cases m.cells m.bytes c (sound.cells-sound c inside) (λ f. omega (arith, free-mark m.cells m.bytes c f))
      (λ r. (right-mark m.cells m.bytes c r).1) in
      record { marked = h; long = part_length m.bytes (key_start c) (mark_at m.cells c - 1) (omega (arith, right.bytes_whole)) }

  module _ (w : Layered 31) (t : ViewIsTree m w) where
    -- a cell that the layers use is in use
    pub used-mark : (c : ℕ) → 0 < layer_uses 31 w c → 1 ≤ mark_at m.cells c
    used-mark c u =
        let (inside, used) = counted-fails (is_free cell_start m.cells) (cells_in m) (layer_uses 31 w c) c balance u in
        some-mark (mark_at m.cells c) used
      where
        balance : Balanced (is_free cell_start m.cells) (cells_in m) (layer_uses 31 w c) c
        balance = ap (λ (ks : List ℕ). layer_uses 31 w c + times_in ks c) (sym (free-cells-view m)) ∙ t.cells c

        some-mark : (n : ℕ) → eqb n 0 ≡ false → 1 ≤ n
        some-mark zero e = let z : ◌≡◌ {A = ℕ} 0 1 = cc (eq-eqb 0 0 refl) in absurd (omega arith)
        some-mark (suc n) e = omega arith

    -- the way of a key from the root down
    pub place-way : (K : List ℕ) → Bytes K → Way m K 31 w [] 0 (place m K)
    place-way K b =
        subst (λ (r : ℕ). Way m K 31 w [] 0 (meet 31 m K 0 0 r)) t.rooted
        (meets m K right.nodes-whole right.n-high (cell_at (cells_view m)) 31 w [] 0 (below-no-links K b) t.holds t.good
        (λ j. omega (arith, t.nodes j, ones_below-le (nodes_in m) j)) (λ c u. whole-cell c (used-mark c u)))
