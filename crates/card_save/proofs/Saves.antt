-- The row of a tree's cells gives the writer the entries of the index: a law for each need of the code. Assumes nothing.
use Prim.Native.Nat.{ℕ, zero, suc, ◌+◌, ◌*◌, ◌-◌, ◌/◌, ◌≤◌, ◌<◌, min}
use mathlib.Core.Path.{◌≡◌, refl, sym, ap, ap₂, ◌∙◌, subst}
use mathlib.Core.Bool.{Bool, true, false}
use mathlib.Core.Logic.{◌⊎◌, inl, inr}
use Rattle.lent_words.proofs.Words.{lt-or-ge}
use mathlib.Core.List.{List, [], ◌∷◌, ◌++◌, map}
use native.Mathlib.Omega.{arith}
use lib.Dec.{T, leb}
use lib.ListN.{length, get_or, length-append, length-replicate, get_or-append, get_or-eq_default}
use borrow.Author.Rules.{rules}
use Rattle.refusal.proofs.Tests.{holds}
use Rattle.refusal.specs.Answer.{Answer, accepted, refused, refused_telling}
use Rattle.refusal.specs.declared.Refusal.TheVariants as no
use Rattle.order.specs.Map.{Map, All, a[], ◌a∷◌}
use Rattle.order.proofs.Map.{all_map}
use Rattle.lent_words.specs.Parts.{zeros, part}
use Rattle.arena.specs.Layout.{cell_start, key_start, mark_at, frame_at, key_at}
use Rattle.arena.specs.Memory.{Memory, memory, node_count, cell_count}
use Rattle.arena.proofs.Measures.{Right, and-true, right-means}
use Rattle.forest.specs.Cells.{cell_right}
use Rattle.forest.specs.Walk.{is_tree}
use Rattle.forest.specs.IsTree.{Layers, IsTree}
use Rattle.forest.proofs.Accepts.{tree-found}
use Rattle.model.specs.Calls.{in_key_order}
use Rattle.model.specs.Listed.{cells_of_layer}
use Rattle.seek.specs.Lengths.{NodesLent}
use Rattle.views.proofs.Nodes.{right-mark}
use Rattle.views.proofs.Listed.{cells_right}
use Rattle.views.proofs.Few.{few-255}
use Rattle.index_listed.specs.Noted.{noted_all}
use Rattle.card_stream.specs.Image.{blocks_for}
use Rattle.card_writer.specs.Listing.{Lent, lens_of, frames_of, lent, entry_at, entries_at, Whole}
use Rattle.card_writer.specs.Save.{written}
use Rattle.card_writer.specs.declared.Written.{Written}
use Rattle.card_writer.specs.declared.Written.TheVariants as written_is
use Rattle.card_writer.proofs.Pieces.{get_d_map}
use Rattle.card_said.specs.Save.{entries_in, save_done}
use Rattle.card_save.proofs.Rows.{notes-fit, all-at}

-- a cell of an entry: within those lent, with a key that is not too long
pub record Sound (cells : List ℕ) (c : ℕ) : Type 0 where
  pub here : c * 2 < length cells
  pub short : mark_at cells c ≤ 257

right-sound : (cells bytes : List ℕ) (c : ℕ) → T (cell_right cells bytes c) → Sound cells c
right-sound cells bytes c t =
    let (low, high) = right-mark cells bytes c t in
    record {
      here = by (lt-or-ge (c * 2) (length cells)) low;
      short = high;
    }
  where
    by : (c * 2 < length cells) ⊎ (length cells ≤ c * 2) → 1 ≤ mark_at cells c → c * 2 < length cells
    by (inl h) low = h
    by (inr h) low = absurd (omega (arith, get_or-eq_default cells 0 {n = c * 2} h))

-- ---- entries of a row

module _ (cells bytes : List ℕ) where
  entry_row : (row : List ℕ) (i c : ℕ) → get_or row i 0 ≡ c → i < length row → Sound cells c
      → entry_at (lent row cells bytes) i ≡ (key_at cells bytes c, frame_at cells c)
  unfolding lens_of frames_of
  entry_row row i c e h s =
      let a : 256 * c ≡ key_start c = omega arith in
      let b : min (mark_at cells c - 1) 256 ≡ mark_at cells c - 1 = omega (arith, s.short) in
      rw (get_d_map (λ c. mark_at cells c - 1) row i h, get_d_map (frame_at cells) row i h, e, a, b)

  entries-row : (row : List ℕ) (i : ℕ) (cs : List ℕ) → ((k : ℕ) → k < length cs → get_or row (i + k) 0 ≡ get_or cs k 0)
      → i + length cs ≤ length row
      → All (Sound cells) cs → entries_at (lent row cells bytes) i (length cs) ≡ map (λ c. (key_at cells bytes c, frame_at cells c)) cs
  unfolding entries_at
  entries-row row i [] f h a[] = refl
  entries-row row i (c ∷ cs) f h (s a∷ ss) =
      ap₂ (λ (e : List ℕ × ℕ) (es : Map). e ∷ es)
      (entry_row row i c (let z : i + 0 ≡ i = omega arith in ap (λ (j : ℕ). get_or row j 0) (sym z) ∙ f 0 (omega arith)) (omega arith) s)
      (entries-row row (i + 1) cs (λ k l. let z : i + 1 + k ≡ i + suc k = omega arith in
      ap (λ (j : ℕ). get_or row j 0) z ∙ f (suc k) (omega arith)) (omega arith) ss)

-- ---- a tree

module _ (nodes cells bytes : List ℕ) (y : is_tree (memory nodes cells bytes) ≡ true) where
  lengths-right : Right (length nodes) (length cells) (length bytes) (node_count (length nodes)) (cell_count (length cells))
  unfolding is_tree
  lengths-right = right-means _ _ _ (and-true _ _ y).0

  pub save-root : 0 < length nodes
  save-root = omega (arith, lengths-right.nodes-whole)

  pub save-walk : NodesLent (length nodes) × (0 ≤ 31)
  save-walk = (record { few = lengths-right.n-high; whole = lengths-right.nodes-whole }, omega arith)

  abbrev cs : List ℕ
  cs = in_key_order (memory nodes cells bytes)

  few : length cs ≤ 255
  few = let (v, t) = tree-found (memory nodes cells bytes) (holds y) in few-255 (memory nodes cells bytes) v t.forest

  sound : All (Sound cells) cs
  sound =
      let (v, t) = tree-found (memory nodes cells bytes) (holds y) in
      all_map (λ c r. right-sound cells bytes c r) (cells_right (memory nodes cells bytes) v t.forest)

  module _ {order : List ℕ} {n : ℕ} (e : (order, n) ≡ noted_all (zeros 255, 0) (cells_of_layer (31 - 0) nodes (get_or nodes 0 0))) where
    noted-row : ◌≡◌ {A = List ℕ × ℕ} (order, n) (cs ++ zeros (255 - length cs), length cs)
    noted-row =
        let z : 255 ≡ length cs + (255 - length cs) = omega (arith, few) in
        e ∙ ap (λ (k : ℕ). noted_all (zeros k, 0) cs) z ∙ notes-fit [] cs (255 - length cs)
        ∙ ap (λ (k : ℕ). (cs ++ zeros (255 - length cs), k)) (let w : 0 + length cs ≡ length cs = omega arith in w)

    row_is : order ≡ cs ++ zeros (255 - length cs)
    row_is = ap (λ (p : List ℕ × ℕ). p.0) noted-row

    count-is : n ≡ length cs
    count-is = ap (λ (p : List ℕ × ℕ). p.1) noted-row

    row-length : length order ≡ 255
    row-length = ap length row_is ∙ simp (length-append, length-replicate) (omega (arith, few))

    pub save-whole : Whole (lent order cells bytes) n
    save-whole =
        let r = lengths-right in
        record {
          few = omega (arith, count-is, few);
          lengths = omega (arith, count-is, few, row-length);
          small = omega (arith, r.bytes_whole, r.c-high);
          bytes = λ k h.
              let s : Sound cells (get_or order k 0) =
              subst (λ (l : List ℕ). Sound cells (get_or l k 0)) (sym row_is)
              (all-at cs (zeros (255 - length cs)) sound k (omega (arith, count-is))) in
              omega (arith, s.here, r.cells_whole, r.bytes_whole);
        }

    pub save-same : (out : List ℕ) {r : List ℕ × Written} → r ≡ written (entries_at (lent order cells bytes) 0 n) out
        → r ≡ written (entries_in (memory nodes cells bytes)) out
    save-same out q =
        q
        ∙ ap (λ (es : Map). written es out)
        (ap (entries_at (lent order cells bytes) 0) count-is
        ∙ entries-row cells bytes order 0 cs
        (λ k h. ap (λ (l : List ℕ). get_or l (0 + k) 0) row_is
        ∙ ap (λ (j : ℕ). get_or (cs ++ zeros (255 - length cs)) j 0) (let z : 0 + k ≡ k = omega arith in z)
        ∙ get_or-append cs (zeros (255 - length cs)) 0 k h)
        (omega (arith, row-length, few)) sound)

-- ---- how `save` returns

-- what the writer answers, by number
abbrev said_written : Written → Answer
said_written (written_is.Blocks n) = accepted (n ∷ [])
said_written written_is.Short = refused_telling 18 [] []

module _ (m : Memory) (out : List ℕ) {t : Bool} (e : t ≡ is_tree m) where
  pub save-unfit : t ≡ false → ◌≡◌ {A = List ℕ × Answer} (out, refused no.Memory []) (save_done m out)
  unfolding save_done
  save-unfit f = rw (← e, f)

  pub save-tree : t ≡ true → is_tree m ≡ true
  save-tree f = sym e ∙ f

  module _ (y : t ≡ true) {after : List ℕ} {r : Written} (q : (after, r) ≡ written (entries_in m) out) where
    save-said : ◌≡◌ {A = List ℕ × Answer} (after, said_written r) (save_done m out)
    unfolding save_done written
    save-said = ap (λ (p : List ℕ × Written). (p.0, said_written p.1)) q ∙ by (leb (512 * blocks_for (entries_in m)) (length out)) refl
      where
        by : (b : Bool) → leb (512 * blocks_for (entries_in m)) (length out) ≡ b
            → ((written (entries_in m) out).0, said_written (written (entries_in m) out).1) ≡ save_done m out
        by true g = rw (← e, y, g)
        by false g = rw (← e, y, g)

    pub save-blocks : {n : ℕ} → r ≡ written_is.Blocks n → ◌≡◌ {A = List ℕ × Answer} (after, accepted (n ∷ [])) (save_done m out)
    save-blocks f = ap (λ (w : Written). (after, said_written w)) (sym f) ∙ save-said

    pub save-short : r ≡ written_is.Short → ◌≡◌ {A = List ℕ × Answer} (after, refused_telling 18 [] []) (save_done m out)
    save-short f = ap (λ (w : Written). (after, said_written w)) (sym f) ∙ save-said
