-- A cell freed in lent memory: it is seen as nothing, and every other cell is as it was. Assumes nothing.
use mathlib.Core.Path.{◌≡◌, sym, ap, ◌∙◌, subst}
use mathlib.Core.Bool.{cond}
use mathlib.Core.Logic.{⊎_elim, inl, inr}
use mathlib.Core.List.{List}
use mathlib.Core.Option.{none, some}
use Prim.Native.Nat.{ℕ, zero, suc, ◌+◌, ◌*◌, ◌-◌, ◌≤◌, ◌<◌}
use native.Mathlib.Omega.{arith}
use native.Mathlib.Decide.{ℕ_discrete}
use lib.Dec.{T, eqb}
use lib.ListN.{length, set, length-replicate}
use Rattle.bank.proofs.Tests.{and_both}
use Rattle.order.specs.Bytes as order
use Rattle.order.specs.Bytes.{Bytes}
use Rattle.leaf.specs.Lists.{every}
use Rattle.arena.specs.Parts.{part, put_part, zeros}
use Rattle.arena.specs.Layout.{cell_start, key_start, mark_at, frame_at, key_at, freed_cell, freed_key}
use Rattle.arena.proofs.Words.{part-kept, put-out}
use Rattle.arena.proofs.Cells.{cells-apart, keys-apart, cell-stored, cell-kept, mark-kept, cells-length, mark-freed, bytes-stored}
use Rattle.arena.proofs.Cells.{bytes-kept, bytes-length}
use Rattle.forest.specs.Nodes.{all_zero}
use Rattle.forest.specs.Cells.{cell_right, is_cell_free}
use Rattle.views.specs.Views.{tabled, cell_view, cell_sound}
use Rattle.order.proofs.Bytes.{bytes_drop, bytes_take, bytes-append}
use Rattle.views.proofs.Nodes.{set-tabled, free-cell-view, cell-cases, free-mark, free-cell-sound, right-cell-sound, right-mark}

pub zeros-zero : (n : ℕ) → T (all_zero (zeros n))
unfolding every
zeros-zero zero = tt
zeros-zero (suc n) = zeros-zero n

module _ (cells bytes : List ℕ) (C : ℕ) (long : length cells ≡ C * 2) (wide : length bytes ≡ C * 256) (c : ℕ) (h : c < C) where
  two : length (zeros 2) ≡ 2
  two = length-replicate {A = ℕ} 2 0

  many : length (zeros 256) ≡ 256
  many = length-replicate {A = ℕ} 256 0

  cells_fit : cell_start c + 2 ≤ length cells
  cells_fit = omega arith

  bytes_fit : key_start c + 256 ≤ length bytes
  bytes_fit = omega arith

  pub freed-cells-length : length (freed_cell cells c) ≡ length cells
  freed-cells-length = cells-length cells c cells_fit (zeros 2) two

  pub freed-bytes-length : length (freed_key bytes c) ≡ length bytes
  freed-bytes-length = bytes-length bytes c bytes_fit (zeros 256) many

  here-free : T (is_cell_free (freed_cell cells c) (freed_key bytes c) c)
  unfolding is_cell_free
  here-free =
      rw (cell-stored cells c cells_fit (zeros 2) two, bytes-stored bytes c bytes_fit (zeros 256) many)
      (and_both (all_zero (zeros 2)) _ (zeros-zero 2) (zeros-zero 256))

  module _ (j : ℕ) (ne : j ≡ c → ⊥) where
    mark-same : mark_at (freed_cell cells c) j ≡ mark_at cells j
    mark-same = mark-kept cells c cells_fit (zeros 2) two j ne

    frame_same : frame_at (freed_cell cells c) j ≡ frame_at cells j
    frame_same =
        put-out cells (cell_start c) (zeros 2) (rw two cells_fit) (cell_start j + 1)
        (rw two (⊎_elim (λ p. inl (omega arith)) (λ p. inr (omega arith)) (cells-apart j c ne)))

    bytes_same : (b n : ℕ) → b + n ≤ 256 → j < C → part (freed_key bytes c) (key_start j + b) n ≡ part bytes (key_start j + b) n
    bytes_same b n g i =
        part-kept bytes (key_start c) (zeros 256) (rw many bytes_fit) (key_start j + b) n (omega arith)
        (rw many (⊎_elim (λ p. inl (omega arith)) (λ p. inr (omega arith)) (keys-apart j c ne)))

    key-same : j < C → mark_at cells j ≤ 257 → key_at (freed_cell cells c) (freed_key bytes c) j ≡ key_at cells bytes j
    key-same i g =
        let z : key_start j + 0 ≡ key_start j = omega arith in
        ap (λ (x : ℕ). part (freed_key bytes c) (key_start j) (x - 1)) mark-same
        ∙ ap (λ (x : ℕ). part (freed_key bytes c) x (mark_at cells j - 1)) (sym z)
        ∙ bytes_same 0 (mark_at cells j - 1) (omega arith) i ∙ ap (λ (x : ℕ). part bytes x (mark_at cells j - 1)) z

    still-free : j < C → T (is_cell_free cells bytes j) → T (is_cell_free (freed_cell cells c) (freed_key bytes c) j)
    unfolding is_cell_free
    still-free i t = rw (
      cell-kept cells c cells_fit (zeros 2) two j (omega arith) ne,
      bytes-kept bytes c bytes_fit (zeros 256) many j (omega arith) ne,
    ) t

    still-right : j < C → T (cell_right cells bytes j) → T (cell_right (freed_cell cells c) (freed_key bytes c) j)
    unfolding cell_right
    still-right i t =
        let (low, most) = right-mark cells bytes j t in
        rw (mark-same, bytes_same (mark_at cells j - 1) (257 - mark_at cells j) (omega arith) i) t

  module _ (sound : (j : ℕ) → j < C → T (cell_sound cells bytes j)) where
    pub freed-sound : (j : ℕ) → j < C → T (cell_sound (freed_cell cells c) (freed_key bytes c) j)
    freed-sound j i = go (ℕ_discrete j c)
      where
        go : Dec (j ≡ c) → T (cell_sound (freed_cell cells c) (freed_key bytes c) j)
        go (yes e) = free-cell-sound _ _ j (subst (λ (x : ℕ). T (is_cell_free (freed_cell cells c) (freed_key bytes c) x)) (sym e) here-free)
        go (no ne) = cell-cases cells bytes j (sound j i) (λ f. free-cell-sound _ _ j (still-free j ne i f))
            (λ r. right-cell-sound _ _ j (still-right j ne i r))

    most-mark : (j : ℕ) → j < C → mark_at cells j ≤ 257
    most-mark j i = cell-cases cells bytes j (sound j i) (λ f. omega (arith, free-mark cells bytes j f))
        (λ r. (right-mark cells bytes j r).1)

    other-view : (j : ℕ) → j < C → (j ≡ c → ⊥) → cell_view (freed_cell cells c) (freed_key bytes c) j ≡ cell_view cells bytes j
    unfolding cell_view
    other-view j i ne =
        let mark = mark-same j ne in
        let key = key-same j ne i (most-mark j i) in
        let frame = frame_same j ne in
        λ x. cond (eqb (mark x) 0) none (some (key x, frame x))

    pub freed-view : tabled (cell_view (freed_cell cells c) (freed_key bytes c)) 0 C ≡ set (tabled (cell_view cells bytes) 0 C) c none
    freed-view =
        sym (set-tabled (cell_view cells bytes) (cell_view (freed_cell cells c) (freed_key bytes c)) C c none
        (free-cell-view (freed_cell cells c) (freed_key bytes c) c (mark-freed cells c cells_fit)) (λ j i ne. other-view j i ne))

-- bytes stay bytes
pub bytes-zeros : (n : ℕ) → Bytes (zeros n)
bytes-zeros zero = order.none
bytes-zeros (suc n) = order.more {x = 0} (omega arith) (bytes-zeros n)

pub freed-bytes : (bytes : List ℕ) (c : ℕ) → Bytes bytes → Bytes (freed_key bytes c)
unfolding put_part
freed-bytes bytes c b =
    bytes-append (bytes-append (bytes_take (key_start c) b) (bytes-zeros 256)) (bytes_drop (key_start c + length (zeros 256)) b)
