-- A change confined to one aligned word of a good block is refused with 16. Assumes nothing.
use Prim.Native.Nat.{ℕ, ◌+◌, ◌*◌, ◌/◌, ◌≤◌, ◌<◌, min}
use mathlib.Core.Path.{◌≡◌, refl, sym, ap, ◌∙◌}
use mathlib.Core.Bool.{true, false}
use mathlib.Core.List.{List, [], ◌∷◌}
use native.Mathlib.Omega.{arith}
use lib.Dec.{eqb}
use lib.ListN.{length}
use borrow.Author.Tests.{eqb-true, ne_eqb}
use Rattle.refusal.specs.Answer.{refused_telling, all_hold}
use Rattle.order.specs.Bytes.{Bytes}
use Rattle.lent_words.specs.Parts.{part}
use Rattle.arena.specs.Memory.{Memory, did}
use Rattle.card_block.specs.Check.{good_block}
use Rattle.card_stream.specs.Payload.{first_bad, changed}
use Rattle.card_stream.proofs.Changed.{first-bad-good, first-bad-most, changed-length, changed-found}
use Rattle.card_said.specs.Load.{whole_blocks, blocks_in, bad_block, checks_good, load_done}
use Rattle.card_said.proofs.Ruled.{Fits}
use Rattle.card_said.proofs.Written.{whole_length}

-- 16 with the first bad block, and memory as it was
pub bad-refused : (m : Memory) → Fits m → (image : List ℕ) → whole_blocks (length image) ≡ true → (bad_block image ≡ blocks_in image → ⊥)
    → load_done m image ≡ did (refused_telling 16 (bad_block image ∷ []) []) m
unfolding load_done all_hold
bad-refused m f image w d = rw (f, w, ne_eqb (bad_block image) (blocks_in image) d) refl

-- word k of block i
module _ (m : Memory) (f : Fits m) (image : List ℕ) (i k : ℕ) (word : List ℕ) (bi : Bytes image) (bw : Bytes word)
    (w : whole_blocks (length image) ≡ true) (h : i < blocks_in image) (g : k < 128) (lw : length word ≡ 4)
    (d : changed image i k word ≡ image → ⊥) where
  same_length : length (changed image i k word) ≡ length image
  same_length =
      changed-length image (blocks_in image) i k word (whole_length image w) h g lw ∙ sym (whole_length image w)

  -- where the block was good, 16 is given, with the block or one before it that was bad
  pub word-found : good_block i (part image (512 * i) 512) ≡ true
      → load_done m (changed image i k word) ≡ did (refused_telling 16 (min i (bad_block image) ∷ []) []) m
  word-found good =
      let n : ℕ = blocks_in image in
      let b : blocks_in (changed image i k word) ≡ n = ap (λ (l : ℕ). l / 512) same_length in
      let e : bad_block (changed image i k word) ≡ min i (bad_block image) =
      ap (λ (l : ℕ). first_bad 0 l (changed image i k word)) b
      ∙ changed-found image n i k word (whole_length image w) h g lw bi bw good d in
      bad-refused m f (changed image i k word) (ap whole_blocks same_length ∙ w) (λ z. omega (arith, e, b, z))
      ∙ ap (λ (block : ℕ). did (refused_telling 16 (block ∷ []) []) m) e

  -- where every check was good, with that block
  pub word-found-there : checks_good image ≡ true → load_done m (changed image i k word) ≡ did (refused_telling 16 (i ∷ []) []) m
  word-found-there good =
      let n : ℕ = blocks_in image in
      let a : bad_block image ≡ n = eqb-true (bad_block image) n good in
      let e : min i (bad_block image) ≡ i = omega (arith, a) in
      word-found (first-bad-good n image a i h) ∙ ap (λ (block : ℕ). did (refused_telling 16 (block ∷ []) []) m) e
