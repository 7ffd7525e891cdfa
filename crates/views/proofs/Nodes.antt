-- Tables, and the views of nodes and cells as tables: what stands at a number, one number changed, and which are free.
-- Assumes nothing.
use mathlib.Core.Path.{◌≡◌, refl, sym, ap, ◌∙◌}
use mathlib.Core.Bool.{Bool, true, false, cond, ◌||◌}
use mathlib.Core.List.{List, [], ◌∷◌, map}
use mathlib.Core.Logic.{◌⊎◌, inl, inr, ⊎_elim}
use mathlib.Core.Option.{Option, none, some}
use Prim.Native.Nat.{ℕ, zero, suc, ◌+◌, ◌≤◌, ◌<◌}
use native.Mathlib.Omega.{arith}
use lib.Dec.{T, eqb, leb, eqb→eq, leb→le}
use lib.ListN.{length, get_or, set, get_or-eq_default}
use borrow.Author.Tests.{eq-eqb, ne_eqb}
use Rattle.bank.proofs.Tests.{and_left, and_right}
use Rattle.leaf.specs.Lists.{every}
use Rattle.arena.specs.Free.{cons_if, passing, is_free, free_nodes, free_cells}
use Rattle.arena.specs.Layout.{node_start, node_at, kind_at, key_at, cell_start, cell_at, mark_at, frame_at}
use Rattle.arena.specs.Memory.{Memory, node_count, cell_count}
use Rattle.arena.proofs.Words.{part_at}
use Rattle.forest.specs.Nodes.{all_zero, entries_at, ikeys_at, children_at, leaf_right, internode_right, node_free}
use Rattle.forest.specs.Cells.{cell_right, is_cell_free}
use Rattle.forest.specs.Trees.{seen_as}
use Rattle.forest.proofs.Inside.{leaf-kind, internode-kind}
use Rattle.trees.specs.Nodes.{Node, free, leaf, internode, NodeList, node_in}
use Rattle.trees.specs.FreeNumbers.{free_numbers}
use Rattle.trees.specs.Cells.{CellList, free_cell_numbers}
use Rattle.views.specs.Views.{tabled, entry_view, node_view, nodes_view, cell_view, cells_view, node_sound, cell_sound, Sound}

-- ---- tables

module _ {A : Type 0} where
  pub length-tabled : (f : ℕ → A) (i n : ℕ) → length (tabled f i n) ≡ n
  length-tabled f i zero = refl
  length-tabled f i (suc n) = ap suc (length-tabled f (suc i) n)

  tabled-from : (f : ℕ → A) (i n k : ℕ) (d : A) → k < n → get_or (tabled f i n) k d ≡ f (i + k)
  tabled-from f i zero k d h = absurd (omega arith)
  tabled-from f i (suc n) zero d h = let e : i ≡ i + 0 = omega arith in ap f e
  tabled-from f i (suc n) (suc k) d h =
      let e : suc i + k ≡ i + suc k = omega arith in
      tabled-from f (suc i) n k d (omega arith) ∙ ap f e

  -- what stands at a number, and beyond
  pub get_d-tabled : (f : ℕ → A) (n k : ℕ) (d : A) → k < n → get_or (tabled f 0 n) k d ≡ f k
  get_d-tabled f n k d h = let e : 0 + k ≡ k = omega arith in tabled-from f 0 n k d h ∙ ap f e

  pub get_d_beyond : (f : ℕ → A) (n k : ℕ) (d : A) → n ≤ k → get_or (tabled f 0 n) k d ≡ d
  get_d_beyond f n k d h = get_or-eq_default (tabled f 0 n) d {n = k} (omega (arith, length-tabled f 0 n))

  -- tables of functions that agree
  pub tabled-same : (f g : ℕ → A) (i n : ℕ) → ((k : ℕ) → i ≤ k → k < i + n → f k ≡ g k) → tabled f i n ≡ tabled g i n
  tabled-same f g i zero h = refl
  tabled-same f g i (suc n) h =
      let first : f i ≡ g i = h i (omega arith) (omega arith) in
      let later : tabled f (suc i) n ≡ tabled g (suc i) n = tabled-same f g (suc i) n (λ k a b. h k (omega arith) (omega arith)) in
      λ j. first j ∷ later j

  set-from : (f g : ℕ → A) (i n k : ℕ) (x : A) → g (i + k) ≡ x
      → ((j : ℕ) → i ≤ j → j < i + n → (j ≡ i + k → ⊥) → g j ≡ f j) → set (tabled f i n) k x ≡ tabled g i n
  set-from f g i zero k x e h = refl
  set-from f g i (suc n) zero x e h =
      let at : i ≡ i + 0 = omega arith in
      let first : x ≡ g i = sym e ∙ ap g (sym at) in
      let later : tabled f (suc i) n ≡ tabled g (suc i) n =
      tabled-same f g (suc i) n (λ j a b. sym (h j (omega arith) (omega arith) (λ q. omega arith))) in
      λ j. first j ∷ later j
  set-from f g i (suc n) (suc k) x e h =
      let at : suc i + k ≡ i + suc k = omega arith in
      let first : f i ≡ g i = sym (h i (omega arith) (omega arith) (λ q. omega arith)) in
      let later : set (tabled f (suc i) n) k x ≡ tabled g (suc i) n =
      set-from f g (suc i) n k x (ap g at ∙ e) (λ j a b ne. h j (omega arith) (omega arith) (λ q. ne (omega arith))) in
      λ j. first j ∷ later j

  -- one number changed
  pub set-tabled : (f g : ℕ → A) (n k : ℕ) (x : A) → g k ≡ x → ((j : ℕ) → j < n → (j ≡ k → ⊥) → g j ≡ f j)
      → set (tabled f 0 n) k x ≡ tabled g 0 n
  set-tabled f g n k x e h =
      let at : 0 + k ≡ k = omega arith in
      set-from f g 0 n k x (ap g at ∙ e) (λ j a b ne. h j (omega arith) (λ q. ne (omega arith)))

-- ---- what is free

abbrev free_node : {W : Type 0} → Node W → Bool
free_node free = true
free_node (leaf es) = false
free_node (internode ks cs) = false

frees-step : {W : Type 0} (i : ℕ) (x : Node W) (m : NodeList W) → free_numbers i (x ∷ m) ≡ cons_if (free_node x) i (free_numbers (suc i) m)
frees-step i free m = refl
frees-step i (leaf es) m = refl
frees-step i (internode ks cs) m = refl

frees-from : {W : Type 0} (f : ℕ → Node W) (test : ℕ → Bool) (i n : ℕ)
    → ((k : ℕ) → i ≤ k → k < i + n → free_node (f k) ≡ test k) → free_numbers i (tabled f i n) ≡ passing test i n
unfolding passing
frees-from f test i zero h = refl
frees-from f test i (suc n) h =
    let first : free_node (f i) ≡ test i = h i (omega arith) (omega arith) in
    let later : free_numbers (suc i) (tabled f (suc i) n) ≡ passing test (suc i) n =
    frees-from f test (suc i) n (λ k a b. h k (omega arith) (omega arith)) in
    frees-step i (f i) (tabled f (suc i) n) ∙ (λ j. cons_if (first j) i (later j))

abbrev free_cell : Option (List ℕ × ℕ) → Bool
free_cell none = true
free_cell (some x) = false

free_c-step : (i : ℕ) (x : Option (List ℕ × ℕ)) (cs : CellList)
    → free_cell_numbers i (x ∷ cs) ≡ cons_if (free_cell x) i (free_cell_numbers (suc i) cs)
free_c-step i none cs = refl
free_c-step i (some x) cs = refl

free_c-from : (f : ℕ → Option (List ℕ × ℕ)) (test : ℕ → Bool) (i n : ℕ)
    → ((k : ℕ) → i ≤ k → k < i + n → free_cell (f k) ≡ test k) → free_cell_numbers i (tabled f i n) ≡ passing test i n
unfolding passing
free_c-from f test i zero h = refl
free_c-from f test i (suc n) h =
    let first : free_cell (f i) ≡ test i = h i (omega arith) (omega arith) in
    let later : free_cell_numbers (suc i) (tabled f (suc i) n) ≡ passing test (suc i) n =
    free_c-from f test (suc i) n (λ k a b. h k (omega arith) (omega arith)) in
    free_c-step i (f i) (tabled f (suc i) n) ∙ (λ j. cons_if (first j) i (later j))

-- ---- one node

-- a word of zeros is 0
zero-at : (xs : List ℕ) (i : ℕ) → T (all_zero xs) → get_or xs i 0 ≡ 0
unfolding every
zero-at [] i t = refl
zero-at (x ∷ xs) zero t = eqb→eq x 0 (and_left (eqb x 0) _ t)
zero-at (x ∷ xs) (suc i) t = zero-at xs i (and_right (eqb x 0) _ t)

pub free-kind : (nodes : List ℕ) (k : ℕ) → T (node_free nodes k) → kind_at nodes k ≡ 0
unfolding node_free
free-kind nodes k t =
    let at : node_start k + 0 ≡ node_start k = omega arith in
    ap (λ (i : ℕ). get_or nodes i 0) (sym at) ∙ sym (part_at nodes (node_start k) 47 0 (omega arith)) ∙ zero-at (node_at nodes k) 0 t

module _ (nodes : List ℕ) (k : ℕ) where
  pub leaf-view : kind_at nodes k ≡ 1 → node_view nodes k ≡ leaf (map (λ e. entry_view (seen_as e)) (entries_at nodes k))
  unfolding node_view
  leaf-view e = rw (eq-eqb (kind_at nodes k) 1 e)

  pub inner-view : kind_at nodes k ≡ 2 → node_view nodes k ≡ internode (map suc (ikeys_at nodes k)) (children_at nodes k)
  unfolding node_view
  inner-view e = rw (ne_eqb (kind_at nodes k) 1 (λ q. omega arith), eq-eqb (kind_at nodes k) 2 e)

  pub other-view : (kind_at nodes k ≡ 1 → ⊥) → (kind_at nodes k ≡ 2 → ⊥) → node_view nodes k ≡ free
  unfolding node_view
  other-view one two = rw (ne_eqb (kind_at nodes k) 1 one, ne_eqb (kind_at nodes k) 2 two)

  pub free-view : kind_at nodes k ≡ 0 → node_view nodes k ≡ free
  free-view e = other-view (λ q. omega arith) (λ q. omega arith)

-- ---- each node right by itself: free, a leaf, or an internode

pub or_split : (a b : Bool) → T (a || b) → T a ⊎ T b
or_split true b t = inl tt
or_split false b t = inr t

pub or_left : (a b : Bool) → T a → T (a || b)
or_left true b t = tt
or_left false b t = absurd t

pub or_right : (a b : Bool) → T b → T (a || b)
or_right true b t = tt
or_right false b t = t

module _ (nodes : List ℕ) (k : ℕ) where
  pub node-cases : {P : Type 0} → T (node_sound nodes k) → (T (node_free nodes k) → P) → (T (leaf_right nodes k) → P)
      → (T (internode_right nodes k) → P) → P
  unfolding node_sound
  node-cases t f g h =
      ⊎_elim f (λ t. ⊎_elim g h (or_split (leaf_right nodes k) (internode_right nodes k) t))
      (or_split (node_free nodes k) (leaf_right nodes k || internode_right nodes k) t)

  pub free-sound : T (node_free nodes k) → T (node_sound nodes k)
  unfolding node_sound
  free-sound t = or_left (node_free nodes k) _ t

  pub leaf-sound : T (leaf_right nodes k) → T (node_sound nodes k)
  unfolding node_sound
  leaf-sound t = or_right (node_free nodes k) _ (or_left (leaf_right nodes k) (internode_right nodes k) t)

  pub internode-sound : T (internode_right nodes k) → T (node_sound nodes k)
  unfolding node_sound
  internode-sound t = or_right (node_free nodes k) _ (or_right (leaf_right nodes k) (internode_right nodes k) t)

  -- it is seen as free exactly where its kind is 0
  free_seen : T (node_sound nodes k) → free_node (node_view nodes k) ≡ is_free node_start nodes k
  free_seen t =
      node-cases t
      (λ f. let e = free-kind nodes k f in ap free_node (free-view nodes k e) ∙ sym (eq-eqb (kind_at nodes k) 0 e))
      (λ f. let e = leaf-kind nodes k f in ap free_node (leaf-view nodes k e) ∙ sym (ne_eqb (kind_at nodes k) 0 (λ q. omega arith)))
      (λ f.
      let e = internode-kind nodes k f in ap free_node (inner-view nodes k e) ∙ sym (ne_eqb (kind_at nodes k) 0 (λ q. omega arith)))

-- ---- one cell

module _ (cells bytes : List ℕ) (c : ℕ) where
  pub free-cell-view : mark_at cells c ≡ 0 → cell_view cells bytes c ≡ none
  unfolding cell_view
  free-cell-view e = rw (eq-eqb (mark_at cells c) 0 e)

  pub used-cell-view : (mark_at cells c ≡ 0 → ⊥) → cell_view cells bytes c ≡ some (key_at cells bytes c, frame_at cells c)
  unfolding cell_view
  used-cell-view ne = rw (ne_eqb (mark_at cells c) 0 ne)

  cell-free-seen : free_cell (cell_view cells bytes c) ≡ is_free cell_start cells c
  unfolding cell_view
  cell-free-seen = go (eqb (mark_at cells c) 0)
    where
      go : (b : Bool) → free_cell (cond b none (some (key_at cells bytes c, frame_at cells c))) ≡ b
      go true = refl
      go false = refl

  pub cell-cases : {P : Type 0} → T (cell_sound cells bytes c) → (T (is_cell_free cells bytes c) → P) → (T (cell_right cells bytes c) → P)
      → P
  unfolding cell_sound
  cell-cases t f g = ⊎_elim f g (or_split (is_cell_free cells bytes c) (cell_right cells bytes c) t)

  pub free-cell-sound : T (is_cell_free cells bytes c) → T (cell_sound cells bytes c)
  unfolding cell_sound
  free-cell-sound t = or_left (is_cell_free cells bytes c) (cell_right cells bytes c) t

  pub right-cell-sound : T (cell_right cells bytes c) → T (cell_sound cells bytes c)
  unfolding cell_sound
  right-cell-sound t = or_right (is_cell_free cells bytes c) (cell_right cells bytes c) t

  pub free-mark : T (is_cell_free cells bytes c) → mark_at cells c ≡ 0
  unfolding is_cell_free
  free-mark t =
      let at : cell_start c + 0 ≡ cell_start c = omega arith in
      ap (λ (i : ℕ). get_or cells i 0) (sym at) ∙ sym (part_at cells (cell_start c) 2 0 (omega arith))
      ∙ zero-at (cell_at cells c) 0 (and_left (all_zero (cell_at cells c)) _ t)

  pub right-mark : T (cell_right cells bytes c) → (1 ≤ mark_at cells c) × (mark_at cells c ≤ 257)
  unfolding cell_right
  right-mark t =
      let rest = and_right (leb 1 (mark_at cells c)) _ t in
      (leb→le _ _ (and_left (leb 1 (mark_at cells c)) _ t), leb→le _ _ (and_left (leb (mark_at cells c) 257) _ rest))

-- ---- all nodes and cells of a memory

module _ (m : Memory) where
  abbrev pub nodes_in : ℕ
  nodes_in = node_count (length m.nodes)

  abbrev pub cells_in : ℕ
  cells_in = cell_count (length m.cells)

  pub nodes-long : length (nodes_view m) ≡ nodes_in
  nodes-long = length-tabled (node_view m.nodes) 0 nodes_in

  pub node-at : (k : ℕ) → k < nodes_in → node_in (nodes_view m) k ≡ node_view m.nodes k
  node-at k h = get_d-tabled (node_view m.nodes) nodes_in k free h

  pub node-beyond : (k : ℕ) → nodes_in ≤ k → node_in (nodes_view m) k ≡ free
  node-beyond k h = get_d_beyond (node_view m.nodes) nodes_in k free h

  pub cells-long : length (cells_view m) ≡ cells_in
  cells-long = length-tabled (cell_view m.cells m.bytes) 0 cells_in

  pub cell-at : (c : ℕ) → c < cells_in → get_or (cells_view m) c none ≡ cell_view m.cells m.bytes c
  cell-at c h = get_d-tabled (cell_view m.cells m.bytes) cells_in c none h

  pub cell-beyond : (c : ℕ) → cells_in ≤ c → get_or (cells_view m) c none ≡ none
  cell-beyond c h = get_d_beyond (cell_view m.cells m.bytes) cells_in c none h

  -- the free ones, lowest first
  pub frees-view : Sound m → free_numbers 0 (nodes_view m) ≡ free_nodes m.nodes nodes_in
  frees-view sound =
      frees-from (node_view m.nodes) (is_free node_start m.nodes) 0 nodes_in
      (λ k a b. free_seen m.nodes k (sound.nodes-sound k (omega arith)))

  pub free-cells-view : free_cell_numbers 0 (cells_view m) ≡ free_cells m.cells cells_in
  free-cells-view =
      free_c-from (cell_view m.cells m.bytes) (is_free cell_start m.cells) 0 cells_in
      (λ c a b. cell-free-seen m.cells m.bytes c)
