-- Laws on blocks and images: what the writer leaves, step by step. Assumes nothing.
use Prim.Native.Nat.{ℕ, zero, suc, ◌+◌, ◌*◌, ◌-◌, ◌<◌, ◌≤◌}
use mathlib.Core.Path.{◌≡◌, refl, sym}
use mathlib.Core.List.{List, ◌++◌, append_assoc}
use native.Mathlib.Omega.{arith}
use native.Mathlib.Numerals.{add-one}
use lib.ListN.{length, take, drop, length-append}
use lib.Seq.{take_at, drop_at, drop-drop}
use borrow.Rule.Slice.PartMut.{put_mid}
use Rattle.lent_words.specs.Parts.{part}
use Rattle.lent_words.proofs.Words.{part_length}
use Rattle.card_block.specs.Check.{block_of}
use Rattle.card_block.proofs.Filled.{block-length}
use Rattle.card_stream.specs.Image.{held_by, blocks_of}

-- so many blocks have 512 bytes each
pub image-length : (n : ℕ) (stream : List ℕ) → 504 * n ≤ length stream → length (blocks_of n stream) ≡ 512 * n
unfolding blocks_of
image-length zero stream h = refl
image-length (suc n) stream h =
    simp length-append
    (omega (
      arith,
      image-length n stream (omega arith),
      block-length n (held_by n stream) (rw (part_length stream (504 * n) 504 (omega arith)) (omega arith)),
    ))

-- no block yet, one more, and all
pub image-none : (stream out : List ℕ) → out ≡ blocks_of 0 stream ++ drop (512 * 0) out
unfolding blocks_of
image-none stream out = refl

pub image-more : (stream out₀ : List ℕ) (n i : ℕ) {out block : List ℕ} → i < n → 504 * n ≤ length stream → 512 * n ≤ length out₀
    → out ≡ blocks_of i stream ++ drop (512 * i) out₀ → block ≡ block_of i (take (504 * i + 504 - 504 * i) (drop (504 * i) stream))
    → put_mid (512 * i) (512 * i + 512 - 512 * i) out block ≡ blocks_of (i + 1) stream ++ drop (512 * (i + 1)) out₀
unfolding blocks_of part
image-more stream out₀ n i h l m e f =
    let t : 504 * i + 504 - 504 * i ≡ 504 = omega arith in
    let u : 512 * i + 512 - 512 * i ≡ 512 = omega arith in
    let v : 512 * (i + 1) ≡ 512 * i + 512 = omega arith in
    let w : length (blocks_of i stream) ≡ 512 * i = image-length i stream (omega arith) in
    rw (
      e,
      f,
      t,
      u,
      v,
      add-one i,
      take_at (blocks_of i stream) (drop (512 * i) out₀) (512 * i) w,
      drop_at (blocks_of i stream)
          (drop (512 * i) out₀) (512 * i) w,
      drop-drop 512 (512 * i) out₀,
    )
    (sym (append_assoc (blocks_of i stream) (block_of i (take 504 (drop (504 * i) stream))) (drop (512 * i + 512) out₀)))

pub image-all : (stream out₀ : List ℕ) (n i : ℕ) {out : List ℕ} → i ≤ n → n ≤ i → out ≡ blocks_of i stream ++ drop (512 * i) out₀
    → out ≡ blocks_of n stream ++ drop (512 * n) out₀
image-all stream out₀ n i h k e = let d : i ≡ n = omega arith in rw (← d) e
