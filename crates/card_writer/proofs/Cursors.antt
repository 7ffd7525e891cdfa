-- A cursor gives the rest of the stream, byte by byte. Assumes nothing.
use Prim.Native.Nat.{ℕ, zero, suc, ◌+◌, ◌*◌, ◌-◌, ◌<◌, ◌≤◌, min}
use mathlib.Core.Path.{◌≡◌, sym, ap, ◌∙◌}
use mathlib.Core.Bool.{Bool, true, false, cond}
use mathlib.Core.List.{List, [], ◌++◌}
use mathlib.Core.Logic.{⊎_elim}
use native.Mathlib.Omega.{arith}
use native.Mathlib.Nat.{add-zero}
use lib.Dec.{eqb}
use lib.ListN.{length, get_or, drop, get_or-append, get_or-eq_default}
use lib.Seq.{get_or-drop, drop-drop, drop_at, drop-nil}
use borrow.Author.Tests.{ne_eqb, lt-ltb, le-ltb, le-leb, lt-leb}
use Rattle.lent_words.specs.Parts.{part}
use Rattle.lent_words.proofs.Words.{lt-or-ge, part_length}
use Rattle.card_block.specs.Words.{low_first}
use Rattle.card_block.proofs.Words.{low-length}
use Rattle.card_stream.specs.Stream.{entry_bytes}
use Rattle.card_stream.proofs.ReadBack.{entry_length}
use Rattle.card_writer.specs.declared.Cursor.{Cursor}
use Rattle.card_writer.specs.Listing.{Lent, len_at, entry_at, Whole}
use Rattle.card_writer.specs.Cursor.{size_of, piece, pieces_from, rest_of, next_of, Placed}
use Rattle.card_writer.proofs.Digits.{digit-short}

-- the bytes of piece p: the number of entries, or an entry
module _ (m : Lent) (n p at : ℕ) where
  pub piece-number : {r : ℕ} → p ≡ 0 → at < 4 → r ≡ get_or (low_first 8 n) at 0 → r ≡ get_or (piece m n p) at 0
  unfolding piece
  piece-number h l e = rw h (e ∙ digit-short 8 4 n at (omega arith) l)

  pub piece-past : p ≡ 0 → 4 ≤ at → 0 ≡ get_or (piece m n p) at 0
  unfolding piece
  piece-past h l = rw h (sym (get_or-eq_default (low_first 4 n) 0 (rw low-length l)))

  pub piece-entry : {r : ℕ} → (p ≡ 0 → ⊥) → r ≡ get_or (entry_bytes (entry_at m (p - 1))) at 0 → r ≡ get_or (piece m n p) at 0
  unfolding piece
  piece-entry h e = let s : suc (p - 1) ≡ p = omega arith in e ∙ ap (λ (x : ℕ). get_or (piece m n x) at 0) s

-- how long a piece is
piece-length : (m : Lent) (n p : ℕ) → Whole m n → p ≤ n → length (piece m n p) ≡ size_of m.lens p
unfolding piece size_of
piece-length m n zero w h = low-length 4 n
piece-length m n (suc k) w h =
    let e : suc k - 1 ≡ k = omega arith in
    let l : length (part m.keys (256 * get_or m.places k 0) (len_at m k)) ≡ len_at m k =
    part_length m.keys (256 * get_or m.places k 0) (len_at m k) (omega (arith, w.bytes k (omega arith))) in
    rw (ne_eqb (suc k) 0 (omega arith), e) (entry_length (part m.keys (256 * get_or m.places k 0) (len_at m k)) (get_or m.frames k 0)
    ∙ ap (λ (x : ℕ). 10 + x) l)

module _ (m : Lent) (n : ℕ) (w : Whole m n) (c : Cursor) (q : Placed m.lens n c) where
  -- the rest begins in the present piece
  rest-here : c.piece ≤ n → rest_of m n c ≡ drop c.at (piece m n c.piece ++ pieces_from m n (c.piece + 1) (n - c.piece))
  unfolding rest_of pieces_from
  rest-here h = let e : n + 1 - c.piece ≡ suc (n - c.piece) = omega arith in rw e

  rest-none : n < c.piece → rest_of m n c ≡ []
  unfolding rest_of pieces_from
  rest-none h = let e : n + 1 - c.piece ≡ 0 = omega arith in rw e (drop-nil c.at)

  rest-at-start : n + 1 - (c.piece + 1) ≡ n - c.piece
      → rest_of m n (record { piece = c.piece + 1; at = 0 }) ≡ pieces_from m n (c.piece + 1) (n - c.piece)
  unfolding rest_of
  rest-at-start e = rw e

  pub byte-here : {r : ℕ} → c.piece ≤ n → r ≡ get_or (piece m n c.piece) c.at 0 → r ≡ get_or (rest_of m n c) 0 0
  byte-here h e =
      let l : length (piece m n c.piece) ≡ size_of m.lens c.piece = piece-length m n c.piece w h in
      rw (rest-here h)
      (e ∙ sym (get_or-drop c.at _ 0 0 ∙ ap (λ (i : ℕ). get_or (piece m n c.piece ++ pieces_from m n (c.piece + 1) (n - c.piece)) i 0)
      (add-zero c.at)
      ∙ get_or-append (piece m n c.piece) _ 0 c.at (omega (arith, q.in_piece))))

  pub byte-none : n < c.piece → 0 ≡ get_or (rest_of m n c) 0 0
  byte-none h = rw (rest-none h)

  -- one place further, one byte less
  same-piece : c.piece ≤ n → rest_of m n (record { piece = c.piece; at = c.at + 1 }) ≡ drop 1 (rest_of m n c)
  unfolding rest_of
  same-piece h = sym (drop-drop 1 c.at _)

  next-piece : c.piece ≤ n → size_of m.lens c.piece ≤ c.at + 1
      → rest_of m n (record { piece = c.piece + 1; at = 0 }) ≡ drop 1 (rest_of m n c)
  next-piece h k =
      let l : length (piece m n c.piece) ≡ size_of m.lens c.piece = piece-length m n c.piece w h in
      let a : length (piece m n c.piece) ≡ c.at + 1 = omega (arith, q.in_piece) in
      let e : n + 1 - (c.piece + 1) ≡ n - c.piece = omega arith in
      rest-at-start e ∙ sym (ap (drop 1) (rest-here h) ∙ drop-drop 1 c.at _
      ∙ drop_at (piece m n c.piece) (pieces_from m n (c.piece + 1) (n - c.piece)) (c.at + 1) a)

  pub next-rest : rest_of m n (next_of m.lens n c) ≡ drop 1 (rest_of m n c)
  unfolding next_of
  next-rest =
      ⊎_elim
      (λ h. rw (lt-leb c.piece n h, rest-none h))
      (λ h.
      rw (le-leb c.piece n h)
      (⊎_elim
      (λ k. rw (lt-ltb (c.at + 1) (size_of m.lens c.piece) k) (same-piece h))
      (λ k. rw (le-ltb (c.at + 1) (size_of m.lens c.piece) k) (next-piece h k))
      (lt-or-ge (c.at + 1) (size_of m.lens c.piece))))
      (lt-or-ge n c.piece)

-- how a cursor moves
module _ (lens : List ℕ) (n : ℕ) (c : Cursor) where
  pub next-stays : n < c.piece → c ≡ next_of lens n c
  unfolding next_of
  next-stays h = rw (lt-leb c.piece n h)

  pub next-in : {size : ℕ} → c.piece ≤ n → size ≡ size_of lens c.piece → c.at + 1 < size
      → record { piece = c.piece; at = c.at + 1 } ≡ next_of lens n c
  unfolding next_of
  next-in h e l = let k : c.at + 1 < size_of lens c.piece = rw e at l in
      rw (le-leb c.piece n h, lt-ltb (c.at + 1) (size_of lens c.piece) k)

  pub next-over : {size : ℕ} → c.piece ≤ n → size ≡ size_of lens c.piece → size ≤ c.at + 1
      → record { piece = c.piece + 1; at = 0 } ≡ next_of lens n c
  unfolding next_of
  next-over h e l = let k : size_of lens c.piece ≤ c.at + 1 = rw e at l in
      rw (le-leb c.piece n h, le-ltb (c.at + 1) (size_of lens c.piece) k)

-- no piece is empty, and none is over 266 bytes
sizes : (lens : List ℕ) (p : ℕ) → (0 < size_of lens p) × (size_of lens p ≤ 266)
unfolding size_of
sizes lens p = go (eqb p 0)
  where
    go : (b : Bool) → (0 < cond b 4 (10 + min (get_or lens (p - 1) 0) 256)) × (cond b 4 (10 + min (get_or lens (p - 1) 0) 256) ≤ 266)
    go true = (omega arith, omega arith)
    go false = (omega arith, omega arith)

pub next-placed : (lens : List ℕ) (n : ℕ) (c : Cursor) → Placed lens n c → Placed lens n (next_of lens n c)
unfolding next_of
next-placed lens n c q =
    ⊎_elim
    (λ h. rw (lt-leb c.piece n h) q)
    (λ h.
    rw (le-leb c.piece n h)
    (⊎_elim
    (λ k.
    rw (lt-ltb (c.at + 1) (size_of lens c.piece) k)
    (record { within = q.within; in_piece = k; small = omega (arith, (sizes lens c.piece).1) }))
    (λ k.
    rw (le-ltb (c.at + 1) (size_of lens c.piece) k)
    (record { within = omega arith; in_piece = (sizes lens (c.piece + 1)).0; small = omega arith }))
    (lt-or-ge (c.at + 1) (size_of lens c.piece))))
    (lt-or-ge n c.piece)
