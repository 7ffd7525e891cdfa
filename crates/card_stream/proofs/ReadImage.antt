-- Reading what was written: every check is good, and the stream gives the same entries. Assumes nothing.
use Prim.Native.Nat.{ℕ, zero, suc, ◌+◌, ◌*◌, ◌<◌, ◌≤◌}
use mathlib.Core.Path.{◌≡◌, refl, ap, ◌∙◌}
use mathlib.Core.List.{List, [], ◌++◌, append_assoc}
use mathlib.Core.Logic.{⊎_elim}
use native.Mathlib.Omega.{arith}
use lib.ListN.{length, take, drop}
use lib.Seq.{take-add, take_at, drop_at, take_all}
use Rattle.order.specs.Map.{Map}
use Rattle.lent_words.specs.Parts.{part}
use Rattle.lent_words.proofs.Words.{lt-or-ge, part_length}
use Rattle.card_block.specs.Check.{block_of}
use Rattle.card_block.proofs.Written.{written-good}
use Rattle.card_stream.specs.Image.{held_by, blocks_of}
use Rattle.card_stream.proofs.Images.{image-length}
use Rattle.card_block.proofs.Filled.{block-length}
use Rattle.card_stream.specs.Stream.{stream_of, Writable}
use Rattle.card_stream.specs.Parse.{right, parse}
use Rattle.card_stream.proofs.ReadBack.{read_back}
use Rattle.card_stream.specs.Payload.{payload, first_bad}

-- the last of n + 1 blocks
module _ (n : ℕ) (s rest : List ℕ) (h : 504 * n + 504 ≤ length s) where
  held-length : length (held_by n s) ≡ 504
  held-length = part_length s (504 * n) 504 h

  last-from : drop (512 * n) (blocks_of n s ++ (block_of n (held_by n s) ++ rest)) ≡ block_of n (held_by n s) ++ rest
  last-from = drop_at (blocks_of n s) (block_of n (held_by n s) ++ rest) (512 * n) (image-length n s (omega arith))

  last_block : part (blocks_of n s ++ (block_of n (held_by n s) ++ rest)) (512 * n) 512 ≡ block_of n (held_by n s)
  unfolding part
  last_block = rw last-from (take_at (block_of n (held_by n s)) rest 512 (block-length n (held_by n s) (omega (arith, held-length))))

  last-payload : part (blocks_of n s ++ (block_of n (held_by n s) ++ rest)) (512 * n) 504 ≡ held_by n s
  unfolding part block_of
  last-payload =
      let f : take 504 (held_by n s) ≡ held_by n s = take_all 504 (held_by n s) (omega (arith, held-length)) in
      rw (last-from, f, append_assoc (held_by n s) _ rest) (take_at (held_by n s) _ 504 held-length)

-- a part is so many bytes behind those before it
pub part-is : (s : List ℕ) (at n : ℕ) → part s at n ≡ take n (drop at s)
unfolding part
part-is s at n = refl

-- what the blocks of an image hold
pub payload-image : (n : ℕ) (s rest : List ℕ) → 504 * n ≤ length s → payload n (blocks_of n s ++ rest) ≡ take (504 * n) s
unfolding payload blocks_of
payload-image zero s rest h = refl
payload-image (suc n) s rest h =
    let b : List ℕ = block_of n (held_by n s) in
    let e : 504 * suc n ≡ 504 * n + 504 = omega arith in
    rw (
      append_assoc (blocks_of n s) b rest,
      e,
      take-add (504 * n) 504 s,
      payload-image n s (b ++ rest) (omega arith),
      last-payload n s rest
          (omega arith),
    )
    (ap (λ (l : List ℕ). take (504 * n) s ++ l) (part-is s (504 * n) 504))

-- its blocks are the writer's, and every check is good
block_at : (n : ℕ) (s rest : List ℕ) (i : ℕ) → 504 * n ≤ length s → i < n
    → part (blocks_of n s ++ rest) (512 * i) 512 ≡ block_of i (held_by i s)
unfolding blocks_of
block_at zero s rest i h l = absurd (omega arith)
block_at (suc n) s rest i h l =
    let b : List ℕ = block_of n (held_by n s) in
    rw (append_assoc (blocks_of n s) b rest)
    (⊎_elim
    (λ k. block_at n s (b ++ rest) i (omega arith) k)
    (λ k. let e : i ≡ n = omega arith in rw e (last_block n s rest (omega arith)))
    (lt-or-ge i n))

good-from : (n : ℕ) (s rest : List ℕ) (i c : ℕ) → 504 * n ≤ length s → i + c ≡ n → first_bad i c (blocks_of n s ++ rest) ≡ n
unfolding first_bad
good-from n s rest i zero h e = omega arith
good-from n s rest i (suc c) h e =
    rw (block_at n s rest i h (omega arith), written-good i (held_by i s) (part_length s (504 * i) 504 (omega arith)))
    (good-from n s rest (i + 1) c h (omega arith))

-- the image of entries that can be written, in n blocks, with anything behind it
module _ (es : Map) (w : Writable es) (n : ℕ) (e : length (stream_of es) ≡ 504 * n) (rest : List ℕ) where
  pub checks-good : first_bad 0 n (blocks_of n (stream_of es) ++ rest) ≡ n
  checks-good = good-from n (stream_of es) rest 0 n (omega arith) (omega arith)

  pub same_entries : parse (payload n (blocks_of n (stream_of es) ++ rest)) ≡ right es
  same_entries =
      rw (payload-image n (stream_of es) rest (omega arith), take_all (504 * n) (stream_of es) (omega arith)) (read_back es w)
