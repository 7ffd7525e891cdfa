-- The length of a stream, and the two ways in which saving ends. Assumes nothing.
use Prim.Native.Nat.{ℕ, suc, ◌+◌, ◌*◌, ◌-◌, ◌/◌, ◌<◌, ◌≤◌}
use mathlib.Core.Path.{◌≡◌, ap, ◌∙◌}
use mathlib.Core.List.{List, ◌++◌}
use native.Mathlib.Omega.{arith}
use lib.ListN.{length, get_or, drop, length-append}
use borrow.Author.Tests.{lt-leb, le-leb, ne_eqb}
use Rattle.order.specs.Map.{Map}
use Rattle.order.specs.Lists.{flattened}
use Rattle.lent_words.specs.Parts.{part}
use Rattle.lent_words.proofs.Words.{part_length}
use Rattle.card_block.proofs.Words.{low-length}
use Rattle.card_stream.specs.Image.{blocks_of, blocks_for, image_of}
use Rattle.card_stream.specs.Stream.{entry_bytes, unfilled, stream_of}
use Rattle.card_stream.proofs.ReadBack.{entry_length}
use Rattle.card_stream.proofs.Accepted.{stream-length}
use Rattle.card_writer.specs.declared.Written.{Written}
use Rattle.card_writer.specs.declared.Written.TheVariants.{Blocks, Short}
use Rattle.card_writer.specs.Listing.{Lent, len_at, entry_at, entries_at, Whole}
use Rattle.card_writer.specs.Cursor.{size_of}
use Rattle.card_writer.specs.Save.{written}

-- how many bytes the entries from k on have
unfoldable pub bytes_from : Lent → ℕ → ℕ → ℕ
bytes_from m k n = length (flattened entry_bytes (entries_at m k n))

-- the loop that adds them up: before the first entry, one entry further, behind the last
module _ (m : Lent) (n : ℕ) (w : Whole m n) where
  pub total_first : 4 + bytes_from m 0 (n - 0) ≡ length (unfilled (entries_at m 0 n))
  unfolding bytes_from unfilled
  total_first = let e : n - 0 ≡ n = omega arith in rw e (simp (length-append, low-length))

  entry-size : (k : ℕ) → k < n → length (entry_bytes (entry_at m k)) ≡ size_of m.lens (k + 1)
  unfolding size_of
  entry-size k h =
      let e : k + 1 - 1 ≡ k = omega arith in
      let l : length (part m.keys (256 * get_or m.places k 0) (len_at m k)) ≡ len_at m k =
      part_length m.keys (256 * get_or m.places k 0) (len_at m k) (omega (arith, w.bytes k h)) in
      rw (ne_eqb (k + 1) 0 (omega arith), e) (entry_length (part m.keys (256 * get_or m.places k 0) (len_at m k)) (get_or m.frames k 0)
      ∙ ap (λ (x : ℕ). 10 + x) l)

  pub total-next : (sum i : ℕ) {size all : ℕ} → i < n → sum + bytes_from m i (n - i) ≡ all → size ≡ size_of m.lens (i + 1)
      → sum + size + bytes_from m (i + 1) (n - (i + 1)) ≡ all
  unfolding bytes_from entries_at
  total-next sum i h e f =
      let j : n - i ≡ suc (n - (i + 1)) = omega arith in
      let g : sum + length (entry_bytes (entry_at m i) ++ flattened entry_bytes (entries_at m (i + 1) (n - (i + 1)))) ≡ _ = rw j at e in
      omega (arith, simp length-append at g, entry-size i h)

  pub total-last : (sum i : ℕ) {all : ℕ} → n ≤ i → sum + bytes_from m i (n - i) ≡ all → sum ≡ all
  unfolding bytes_from entries_at
  total-last sum i h e = let j : n - i ≡ 0 = omega arith in omega (arith, rw j at e)

module _ (es : Map) (out : List ℕ) {sum : ℕ} (e : sum ≡ length (unfilled es)) where
  pub blocks-hold : length (stream_of es) ≡ 504 * ((sum + 503) / 504)
  unfolding blocks_for
  blocks-hold = rw e (stream-length es)

  pub save-short : length out < 512 * ((sum + 503) / 504) → ◌≡◌ {A = List ℕ × Written} (out, Short) (written es out)
  unfolding written blocks_for
  save-short h = rw (← e, lt-leb (512 * ((sum + 503) / 504)) (length out) h)

  pub save-done : {after : List ℕ} → 512 * ((sum + 503) / 504) ≤ length out
      → after ≡ blocks_of ((sum + 503) / 504) (stream_of es) ++ drop (512 * ((sum + 503) / 504)) out
      → ◌≡◌ {A = List ℕ × Written} (after, Blocks ((sum + 503) / 504)) (written es out)
  unfolding written blocks_for image_of
  save-done h f = rw (f, ← e, le-leb (512 * ((sum + 503) / 504)) (length out) h)
