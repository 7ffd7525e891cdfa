-- Laws on the pieces of a stream, byte by byte. Assumes nothing.
use Prim.Native.Nat.{ℕ, zero, suc, ◌+◌, ◌*◌, ◌-◌, ◌/◌, ◌<◌, ◌≤◌, min}
use Rattle.arena.specs.Layout.{mark_at, frame_at}
use mathlib.Core.Path.{◌≡◌, refl, sym, ap, ◌∙◌}
use mathlib.Core.List.{List, [], ◌∷◌, ◌++◌, map}
use native.Mathlib.Omega.{arith}
use lib.ListN.{length, get_or, get_or-append, get_or-eq_default}
use lib.Seq.{get_or-append-add}
use borrow.Author.Tests.{ne_eqb}
use Rattle.lent_words.specs.Parts.{part}
use Rattle.lent_words.proofs.Words.{part_length, part_at}
use Rattle.card_block.specs.Words.{low_first}
use Rattle.card_block.proofs.Words.{low-length}
use Rattle.card_stream.specs.Stream.{entry_bytes}
use Rattle.card_writer.specs.Listing.{Lent, lens_of, frames_of, lent, entry_at, Whole}
use Rattle.card_writer.specs.Cursor.{size_of}
use Rattle.card_writer.proofs.Digits.{digit-short}

-- the size of a piece
module _ (lens : List ℕ) (p : ℕ) where
  pub size_none : p ≡ 0 → 4 ≡ size_of lens p
  unfolding size_of
  size_none h = rw h

  pub size-entry : {l : ℕ} → (p ≡ 0 → ⊥) → l ≡ min (get_or lens (p - 1) 0) 256 → 10 + l ≡ size_of lens p
  unfolding size_of
  size-entry h e = rw (ne_eqb p 0 h, e)

-- the words of a cell
module _ (cells : List ℕ) (c i : ℕ) where
  pub word-beyond : length cells / 2 < c → 0 ≡ get_or cells (c * 2 + i) 0
  word-beyond l = sym (get_or-eq_default cells 0 {n = c * 2 + i} (omega arith))

  pub word-past : length cells ≤ c * 2 + i → 0 ≡ get_or cells (c * 2 + i) 0
  word-past l = sym (get_or-eq_default cells 0 {n = c * 2 + i} l)

pub get_d_map : (f : ℕ → ℕ) (xs : List ℕ) (i : ℕ) → i < length xs → get_or (map f xs) i 0 ≡ f (get_or xs i 0)
get_d_map f [] i l = absurd (omega arith)
get_d_map f (x ∷ xs) zero l = refl
get_d_map f (x ∷ xs) (suc i) l = get_d_map f xs i (omega arith)

module _ (order cells : List ℕ) (k : ℕ) (h : k < length order) where
  pub len_read : {mark less r : ℕ} → mark ≡ get_or cells (get_or order k 0 * 2 + 0) 0 → less ≡ mark - 1 → r ≡ min less 256
      → r ≡ min (get_or (lens_of order cells) k 0) 256
  unfolding lens_of
  len_read p q e =
      let z : get_or order k 0 * 2 + 0 ≡ get_or order k 0 * 2 = omega arith in
      rw (get_d_map (λ c. mark_at cells c - 1) order k h, e, q, p, z)

  pub frame-read : {r : ℕ} → r ≡ get_or cells (get_or order k 0 * 2 + 1) 0 → r ≡ get_or (frames_of order cells) k 0
  unfolding frames_of
  frame-read e = rw (get_d_map (frame_at cells) order k h, e)

-- room for the key of a piece
pub piece-room : (order cells bytes : List ℕ) (n p : ℕ) → Whole (lent order cells bytes) n → (p ≡ 0 → ⊥) → p ≤ n
    → 256 * get_or order (p - 1) 0 + 256 ≤ length bytes
piece-room order cells bytes n p w h l = w.bytes (p - 1) (omega arith)

-- an element behind a part of known length
behind : (xs ys : List ℕ) (n i : ℕ) → length xs ≡ n → n ≤ i → get_or (xs ++ ys) i 0 ≡ get_or ys (i - n) 0
behind xs ys n i e h =
    let j : i ≡ length xs + (i - n) = omega arith in
    ap (λ (k : ℕ). get_or (xs ++ ys) k 0) j ∙ get_or-append-add xs ys (i - n) 0

-- the bytes of entry k
module _ (order cells bytes : List ℕ) (k at : ℕ) {len : ℕ} (e : len ≡ min (get_or (lens_of order cells) k 0) 256)
    (h : 256 * get_or order k 0 + 256 ≤ length bytes) where
  key-length : length (part bytes (256 * get_or order k 0) (min (get_or (lens_of order cells) k 0) 256)) ≡ len
  key-length = part_length bytes (256 * get_or order k 0) (min (get_or (lens_of order cells) k 0) 256) (omega arith) ∙ sym e

  pub byte-of-length : {r : ℕ} → at < 2 → r ≡ get_or (low_first 8 len) at 0 → r ≡ get_or (entry_bytes (entry_at (lent order cells bytes) k)) at 0
  unfolding entry_bytes
  byte-of-length l f =
      let n : ℕ = length (part bytes (256 * get_or order k 0) (min (get_or (lens_of order cells) k 0) 256)) in
      f ∙ digit-short 8 2 len at (omega arith) l ∙ ap (λ (x : ℕ). get_or (low_first 2 x) at 0) (sym key-length)
      ∙ sym (get_or-append (low_first 2 n) _ 0 at (rw low-length l))

  past-length : 2 ≤ at → get_or (entry_bytes (entry_at (lent order cells bytes) k)) at 0
      ≡ get_or (part bytes (256 * get_or order k 0) (min (get_or (lens_of order cells) k 0) 256) ++ low_first 8 (get_or (frames_of order cells) k 0))
      (at - 2) 0
  unfolding entry_bytes
  past-length l = behind (low_first 2 (length (part bytes (256 * get_or order k 0) (min (get_or (lens_of order cells) k 0) 256)))) _ 2 at
      (low-length 2 _) l

  pub byte-of-key : 2 ≤ at → at - 2 < len
      → get_or bytes (256 * get_or order k 0 + (at - 2)) 0 ≡ get_or (entry_bytes (entry_at (lent order cells bytes) k)) at 0
  byte-of-key l j =
      sym (past-length l ∙ get_or-append (part bytes (256 * get_or order k 0) (min (get_or (lens_of order cells) k 0) 256))
      (low_first 8 (get_or (frames_of order cells) k 0)) 0 (at - 2) (rw key-length j)
      ∙ part_at bytes (256 * get_or order k 0) (min (get_or (lens_of order cells) k 0) 256) (at - 2) (omega arith))

  past-key : 2 ≤ at → len ≤ at - 2
      → get_or (entry_bytes (entry_at (lent order cells bytes) k)) at 0 ≡ get_or (low_first 8 (get_or (frames_of order cells) k 0)) (at - 2 - len) 0
  past-key l j = past-length l
      ∙ behind (part bytes (256 * get_or order k 0) (min (get_or (lens_of order cells) k 0) 256)) (low_first 8 (get_or (frames_of order cells) k 0))
      len (at - 2) key-length j

  pub byte-of-frame : {r f : ℕ} → 2 ≤ at → len ≤ at - 2 → at - 2 - len < 8 → f ≡ get_or (frames_of order cells) k 0
      → r ≡ get_or (low_first 8 f) (at - 2 - len) 0
      → r ≡ get_or (entry_bytes (entry_at (lent order cells bytes) k)) at 0
  byte-of-frame l j n g f = f ∙ ap (λ (x : ℕ). get_or (low_first 8 x) (at - 2 - len) 0) g ∙ sym (past-key l j)

  pub byte_past : 2 ≤ at → len ≤ at - 2 → 8 ≤ at - 2 - len → 0 ≡ get_or (entry_bytes (entry_at (lent order cells bytes) k)) at 0
  byte_past l j n = sym (past-key l j ∙ get_or-eq_default (low_first 8 (get_or (frames_of order cells) k 0)) 0 (rw low-length n))
