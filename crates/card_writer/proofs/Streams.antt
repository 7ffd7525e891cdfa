-- The pieces make up the stream, and its blocks are the writer's. Assumes nothing.
use Prim.Native.Nat.{ℕ, zero, suc, ◌+◌, ◌*◌, ◌-◌, ◌<◌, ◌≤◌}
use mathlib.Core.Path.{◌≡◌, refl, sym, ap, subst, ◌∙◌}
use mathlib.Core.List.{List, [], ◌∷◌, ◌++◌}
use native.Mathlib.Omega.{arith}
use native.Mathlib.Numerals.{add-one}
use lib.ListN.{length, get_or, take, drop, length-append, length-take, length-drop, length-replicate}
use lib.Seq.{get_or-drop, get_or-take, drop-drop, ext_get_or, take_at}
use borrow.Rule.Slice.PartMut.{put_mid}
use Rattle.order.specs.Map.{Map}
use Rattle.order.specs.Lists.{flattened}
use Rattle.lent_words.specs.Parts.{put_part, zeros}
use Rattle.card_block.specs.Words.{low_first}
use Rattle.card_block.specs.Check.{block_of}
use Rattle.card_block.proofs.Written.{block-front}
use Rattle.card_stream.specs.Image.{blocks_of}
use Rattle.card_stream.proofs.Images.{image-more}
use Rattle.card_stream.specs.Stream.{entry_bytes, unfilled, lacking, stream_of}
use Rattle.card_writer.specs.declared.Cursor.{Cursor}
use Rattle.card_writer.specs.Listing.{Lent, lens_of, frames_of, lent, entry_at, entries_at, Whole}
use Rattle.card_writer.specs.Cursor.{size_of, piece, pieces_from, rest_of, further, Placed, front}
use Rattle.card_writer.proofs.Fills.{front_length, further-rest, further-placed}

-- the entries, one piece after the other
entries-length : (m : Lent) (k n : ℕ) → length (entries_at m k n) ≡ n
unfolding entries_at
entries-length m k zero = refl
entries-length m k (suc n) = ap suc (entries-length m (k + 1) n)

pieces-entries : (m : Lent) (n k c : ℕ) → pieces_from m n (k + 1) c ≡ flattened entry_bytes (entries_at m k c)
unfolding pieces_from piece entries_at
pieces-entries m n k zero = refl
pieces-entries m n k (suc c) =
    ap (λ (p : ℕ). piece m n p ++ pieces_from m n (k + 1 + 1) c) (add-one k)
    ∙ ap (λ (l : List ℕ). entry_bytes (entry_at m k) ++ l) (pieces-entries m n (k + 1) c)

-- what the first cursor gives is the stream without its fill
abbrev pub at_start : Cursor
at_start = record { piece = 0; at = 0 }

pub start-placed : (lens : List ℕ) (n : ℕ) → Placed lens n at_start
unfolding size_of
start-placed lens n = record { within = omega arith; in_piece = omega arith; small = omega arith }

pub rest-start : (m : Lent) (n : ℕ) → rest_of m n at_start ≡ unfilled (entries_at m 0 n)
unfolding rest_of pieces_from piece unfilled
rest-start m n =
    let e : n + 1 - 0 ≡ suc n = omega arith in
    rw (e, entries-length m 0 n) (ap (λ (l : List ℕ). low_first 4 n ++ l) (pieces-entries m n 0 n))

-- zeros behind a list read as nothing does
zeros-at : (z i : ℕ) → get_or (zeros z) i 0 ≡ 0
zeros-at zero i = refl
zeros-at (suc z) zero = refl
zeros-at (suc z) (suc i) = zeros-at z i

padded-at : (u : List ℕ) (z i : ℕ) → get_or (u ++ zeros z) i 0 ≡ get_or u i 0
padded-at [] z i = zeros-at z i
padded-at (x ∷ u) z zero = refl
padded-at (x ∷ u) z (suc i) = padded-at u z i

front_at : (k : ℕ) (r : List ℕ) (i : ℕ) → i < k → get_or (front k r) i 0 ≡ get_or r i 0
unfolding front
front_at zero r i h = absurd (omega arith)
front_at (suc k) r zero h = refl
front_at (suc k) r (suc i) h = front_at k (drop 1 r) i (omega arith) ∙ get_or-drop 1 r i 0 ∙ ap (λ (j : ℕ). get_or r j 0) (one_more i)
  where
    one_more : (i : ℕ) → 1 + i ≡ suc i
    one_more i = omega arith

-- a part of the filled stream
front-part : (u : List ℕ) (z p k : ℕ) → p + k ≤ length u + z → front k (drop p u) ≡ take k (drop p (u ++ zeros z))
front-part u z p k h =
    let l : length (take k (drop p (u ++ zeros z))) ≡ k = simp (length-take, length-drop, length-append, length-replicate) (omega arith) in
    ext_get_or 0 _ _ (front_length k (drop p u) ∙ sym l)
    (λ i j.
    let n : i < k = rw (front_length k (drop p u)) at j in
    front_at k (drop p u) i n ∙ get_or-drop p u i 0
    ∙ sym (get_or-take k (drop p (u ++ zeros z)) i 0 n ∙ get_or-drop p (u ++ zeros z) i 0 ∙ padded-at u z (p + i)))

in-stream : (es : Map) (i : ℕ) → 504 * i + 504 ≤ length (stream_of es)
    → front 504 (drop (504 * i) (unfilled es)) ≡ take (504 * i + 504 - 504 * i) (drop (504 * i) (stream_of es))
unfolding stream_of
in-stream es i h =
    let z : ℕ = lacking (length (unfilled es)) in
    let e : 504 * i + 504 - 504 * i ≡ 504 = omega arith in
    let l : length (unfilled es ++ zeros z) ≡ length (unfilled es) + z = simp (length-append, length-replicate) in
    rw e (front-part (unfilled es) z (504 * i) 504 (omega arith))

-- what is behind the first 504 bytes does not matter to a block
block-over : (number : ℕ) (f block : List ℕ) → length f ≡ 504 → 504 ≤ length block → block_of number (put_part block 0 f) ≡ block_of number f
unfolding put_part
block-over number f block l h =
    let k : 504 ≤ length (f ++ drop (0 + length f) block) = simp (length-append, length-drop) (omega arith) in
    block-front number (f ++ drop (0 + length f) block) k
    ∙ ap (block_of number) (take_at f (drop (0 + length f) block) 504 l)

-- a block filled from a cursor on, and sealed
pub cursor-block : (block r : List ℕ) (number : ℕ) {b1 b2 : List ℕ} → length block ≡ 512 → b1 ≡ put_part block 0 (front 504 r)
    → b2 ≡ block_of number b1
    → b2 ≡ block_of number (front 504 r)
cursor-block block r number h p q =
    q ∙ ap (block_of number) p ∙ block-over number (front 504 r) block (front_length 504 r) (omega arith)

-- one block more of the image
module _ (order cells bytes : List ℕ) (n blocks : ℕ) (out₀ : List ℕ) (c : Cursor) (i : ℕ) where
  pub write-more : {out block : List ℕ} → i < blocks → length (stream_of (entries_at (lent order cells bytes) 0 n)) ≡ 504 * blocks
      → 512 * blocks ≤ length out₀
      → rest_of (lent order cells bytes) n c ≡ drop (504 * i) (unfilled (entries_at (lent order cells bytes) 0 n))
      → out ≡ blocks_of i (stream_of (entries_at (lent order cells bytes) 0 n)) ++ drop (512 * i) out₀
      → block ≡ block_of i (front 504 (rest_of (lent order cells bytes) n c))
      → put_mid (512 * i) (512 * i + 512 - 512 * i) out block ≡ blocks_of (i + 1) (stream_of (entries_at (lent order cells bytes) 0 n)) ++ drop
      (512 * (i + 1)) out₀
  write-more h l k e f g =
      let s : List ℕ = stream_of (entries_at (lent order cells bytes) 0 n) in
      image-more s out₀ blocks i h (omega arith) k f
      (g ∙ ap (block_of i) (ap (front 504) e ∙ in-stream (entries_at (lent order cells bytes) 0 n) i (omega arith)))

-- all blocks
pub write-none : (stream out : List ℕ) → out ≡ blocks_of 0 stream ++ drop (512 * 0) out
unfolding blocks_of
write-none stream out = refl

module _ (order cells bytes : List ℕ) (n : ℕ) (c : Cursor) (i : ℕ) {d : Cursor} (w : Whole (lent order cells bytes) n)
    (q : Placed (lens_of order cells) n c) (f : d ≡ further (lens_of order cells) n 504 c) where
  pub placed_on : Placed (lens_of order cells) n d
  placed_on = subst (λ (t : Cursor). Placed (lens_of order cells) n t) (sym f) (further-placed (lent order cells bytes) n w 504 c q)

  pub rest-on : rest_of (lent order cells bytes) n c ≡ drop (504 * i) (unfilled (entries_at (lent order cells bytes) 0 n))
      → rest_of (lent order cells bytes) n d ≡ drop (504 * (i + 1)) (unfilled (entries_at (lent order cells bytes) 0 n))
  rest-on e =
      let j : 504 * (i + 1) ≡ 504 * i + 504 = omega arith in
      rw (f, further-rest (lent order cells bytes) n w 504 c q, e, j) (drop-drop 504 (504 * i) _)
