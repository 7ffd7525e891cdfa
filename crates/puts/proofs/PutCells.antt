-- A cell taken for a key and its frame number: it is seen with both, and every other cell is as it was. Assumes nothing.
use mathlib.Core.Path.{◌≡◌, refl, sym, ap, ap₂, ◌∙◌, subst}
use mathlib.Core.Bool.{cond}
use mathlib.Core.Logic.{⊎_elim, inl, inr}
use mathlib.Core.List.{List, [], ◌∷◌, ◌++◌, append-nil}
use mathlib.Core.Option.{none, some}
use Prim.Native.Nat.{ℕ, ◌+◌, ◌*◌, ◌-◌, ◌≤◌, ◌<◌}
use native.Mathlib.Omega.{arith}
use native.Mathlib.Decide.{ℕ_discrete}
use lib.Dec.{T, eqb, leb, le→leb}
use lib.ListN.{length, set, length-replicate}
use Rattle.bank.proofs.Tests.{and_both}
use Rattle.order.specs.Bytes.{Bytes}
use Rattle.order.proofs.Bytes.{bytes_drop, bytes_take, bytes-append}
use Rattle.arena.specs.Parts.{part, put_part, zeros}
use Rattle.arena.specs.Layout.{cell_start, key_start, mark_at, frame_at, key_at, key_bytes, put_cell, put_key}
use Rattle.arena.proofs.Words.{part-kept, part-part, put-out, middle}
use Rattle.arena.proofs.Cells.{cells-apart, keys-apart, key-length, cell-kept, mark-kept, cells-length, mark-stored, frame-stored}
use Rattle.arena.proofs.Cells.{key-stored, bytes-stored, bytes-kept, bytes-length}
use Rattle.forest.specs.Cells.{cell_right, is_cell_free}
use Rattle.views.specs.Views.{tabled, cell_view, cell_sound}
use Rattle.views.proofs.Nodes.{set-tabled, used-cell-view, cell-cases, free-mark, free-cell-sound, right-cell-sound, right-mark}
use Rattle.places.proofs.FreedCells.{zeros-zero, bytes-zeros}

module _ (cells bytes : List ℕ) (C : ℕ) (long : length cells ≡ C * 2) (wide : length bytes ≡ C * 256) (c : ℕ) (h : c < C)
    (key : List ℕ) (short : length key ≤ 256) (frame : ℕ) where
  abbrev ws : List ℕ
  ws = (length key + 1) ∷ frame ∷ []

  abbrev bs : List ℕ
  bs = key_bytes key

  many : length bs ≡ 256
  many = key-length key short

  cells_fit : cell_start c + 2 ≤ length cells
  cells_fit = omega arith

  bytes_fit : key_start c + 256 ≤ length bytes
  bytes_fit = omega arith

  abbrev cells_after : List ℕ
  cells_after = put_cell cells c (length key) frame

  abbrev bytes_after : List ℕ
  bytes_after = put_key bytes c key

  pub put-cells-length : length cells_after ≡ length cells
  put-cells-length = cells-length cells c cells_fit ws refl

  pub put-bytes-length : length bytes_after ≡ length bytes
  put-bytes-length = bytes-length bytes c bytes_fit bs many

  mark-is : mark_at cells_after c ≡ length key + 1
  mark-is = mark-stored cells c cells_fit (length key) frame

  -- bytes of the cell
  inside-part : (o n : ℕ) → o + n ≤ 256 → part bytes_after (key_start c + o) n ≡ part bs o n
  inside-part o n l =
      sym (part-part bytes_after (key_start c) 256 o n (omega (arith, put-bytes-length)) l)
      ∙ ap (λ (x : List ℕ). part x o n) (bytes-stored bytes c bytes_fit bs many)

  rest_part : part bs (length key) (256 - length key) ≡ zeros (256 - length key)
  rest_part =
      ap (λ (x : List ℕ). part x (length key) (256 - length key)) (sym (append-nil (key ++ zeros (256 - length key))))
      ∙ middle key (zeros (256 - length key)) [] (length key) (256 - length key) refl (length-replicate {A = ℕ} (256 - length key) 0)

  key-is : key_at cells_after bytes_after c ≡ key
  key-is = key-stored cells bytes c key frame cells_fit bytes_fit short

  here-right : T (cell_right cells_after bytes_after c)
  unfolding cell_right
  here-right =
      let y : length key + 1 - 1 ≡ length key = omega arith in
      let z : 257 - (length key + 1) ≡ 256 - length key = omega arith in
      rw (mark-is, y, z, inside-part (length key) (256 - length key) (omega arith), rest_part)
      (and_both (leb 1 (length key + 1)) _ (le→leb 1 (length key + 1) (omega arith))
      (and_both (leb (length key + 1) 257) _ (le→leb (length key + 1) 257 (omega arith)) (zeros-zero (256 - length key))))

  module _ (j : ℕ) (ne : j ≡ c → ⊥) where
    mark-same : mark_at cells_after j ≡ mark_at cells j
    mark-same = mark-kept cells c cells_fit ws refl j ne

    frame_same : frame_at cells_after j ≡ frame_at cells j
    frame_same =
        put-out cells (cell_start c) ws cells_fit (cell_start j + 1)
        (⊎_elim (λ p. inl (omega arith)) (λ p. inr (omega arith)) (cells-apart j c ne))

    bytes_same : (b n : ℕ) → b + n ≤ 256 → j < C → part bytes_after (key_start j + b) n ≡ part bytes (key_start j + b) n
    bytes_same b n g i =
        part-kept bytes (key_start c) bs (rw many bytes_fit) (key_start j + b) n (omega arith)
        (rw many (⊎_elim (λ p. inl (omega arith)) (λ p. inr (omega arith)) (keys-apart j c ne)))

    key-same : j < C → mark_at cells j ≤ 257 → key_at cells_after bytes_after j ≡ key_at cells bytes j
    key-same i g =
        let z : key_start j + 0 ≡ key_start j = omega arith in
        ap (λ (x : ℕ). part bytes_after (key_start j) (x - 1)) mark-same
        ∙ ap (λ (x : ℕ). part bytes_after x (mark_at cells j - 1)) (sym z)
        ∙ bytes_same 0 (mark_at cells j - 1) (omega arith) i ∙ ap (λ (x : ℕ). part bytes x (mark_at cells j - 1)) z

    still-free : j < C → T (is_cell_free cells bytes j) → T (is_cell_free cells_after bytes_after j)
    unfolding is_cell_free
    still-free i t = rw (cell-kept cells c cells_fit ws refl j (omega arith) ne, bytes-kept bytes c bytes_fit bs many j (omega arith) ne) t

    still-right : j < C → T (cell_right cells bytes j) → T (cell_right cells_after bytes_after j)
    unfolding cell_right
    still-right i t =
        let (low, most) = right-mark cells bytes j t in
        rw (mark-same, bytes_same (mark_at cells j - 1) (257 - mark_at cells j) (omega arith) i) t

  module _ (sound : (j : ℕ) → j < C → T (cell_sound cells bytes j)) where
    pub put-sound : (j : ℕ) → j < C → T (cell_sound cells_after bytes_after j)
    put-sound j i = go (ℕ_discrete j c)
      where
        go : Dec (j ≡ c) → T (cell_sound cells_after bytes_after j)
        go (yes e) = right-cell-sound _ _ j (subst (λ (x : ℕ). T (cell_right cells_after bytes_after x)) (sym e) here-right)
        go (no ne) = cell-cases cells bytes j (sound j i) (λ f. free-cell-sound _ _ j (still-free j ne i f))
            (λ r. right-cell-sound _ _ j (still-right j ne i r))

    most-mark : (j : ℕ) → j < C → mark_at cells j ≤ 257
    most-mark j i = cell-cases cells bytes j (sound j i) (λ f. omega (arith, free-mark cells bytes j f))
        (λ r. (right-mark cells bytes j r).1)

    other-view : (j : ℕ) → j < C → (j ≡ c → ⊥) → cell_view cells_after bytes_after j ≡ cell_view cells bytes j
    unfolding cell_view
    other-view j i ne =
        let mark = mark-same j ne in
        let its-key = key-same j ne i (most-mark j i) in
        let its-frame = frame_same j ne in
        λ x. cond (eqb (mark x) 0) none (some (its-key x, its-frame x))

    pub put_view : tabled (cell_view cells_after bytes_after) 0 C ≡ set (tabled (cell_view cells bytes) 0 C) c (some (key, frame))
    put_view =
        sym (set-tabled (cell_view cells bytes) (cell_view cells_after bytes_after) C c (some (key, frame))
        (used-cell-view cells_after bytes_after c (λ z. omega (arith, mark-is))
        ∙ ap₂ (λ (k : List ℕ) (f : ℕ). some (k, f)) key-is (frame-stored cells c cells_fit (length key) frame))
        (λ j i ne. other-view j i ne))

-- bytes stay bytes
pub put-bytes : (bytes : List ℕ) (c : ℕ) (key : List ℕ) → Bytes bytes → Bytes key → Bytes (put_key bytes c key)
unfolding put_part
put-bytes bytes c key b k =
    bytes-append (bytes-append (bytes_take (key_start c) b) (bytes-append k (bytes-zeros (256 - length key))))
    (bytes_drop (key_start c + length (key_bytes key)) b)
