-- Loops that hand bytes to a machine: one after the other, and block after block. Assumes nothing.
use Prim.Native.Nat.{ℕ, ◌+◌, ◌*◌, ◌-◌, ◌<◌, ◌≤◌}
use mathlib.Core.Path.{◌≡◌, refl}
use mathlib.Core.List.{List, foldl-append}
use native.Mathlib.Omega.{arith}
use native.Mathlib.Numerals.{add-one}
use lib.ListN.{length, get_or, take, drop, drop_of_length-le}
use lib.Seq.{drop-cons}
use Rattle.lent_words.specs.Parts.{part}
use Rattle.lent_words.proofs.Words.{between}
use Rattle.card_stream.specs.Cuts.{arrived}
use Rattle.card_stream.specs.Payload.{payload}

module _ {S : Type 0} (step : S → ℕ → S) where
  -- a loop over the bytes of an arrival: one byte further, and behind the last
  pub further : (bytes : List ℕ) (i : ℕ) (s : S) {t u : S} → i < length bytes → arrived step s (drop i bytes) ≡ u
      → t ≡ step s (get_or bytes i 0) → arrived step t (drop (i + 1) bytes) ≡ u
  further bytes i s h e f = rw (f, add-one i) (rw (drop-cons bytes i 0 h) at e)

  pub at_last : (bytes : List ℕ) (i : ℕ) (s : S) {u : S} → length bytes ≤ i → arrived step s (drop i bytes) ≡ u → s ≡ u
  at_last bytes i s h e = rw (drop_of_length-le bytes h) at e

  -- a loop over the blocks of an image: before the first, one block further, and behind the last
  pub blocks-none : (image : List ℕ) (s : S) → s ≡ arrived step s (payload 0 image)
  unfolding payload
  blocks-none image s = refl

  pub blocks_more : (image : List ℕ) (i : ℕ) (s₀ s : S) {t : S} → s ≡ arrived step s₀ (payload i image)
      → t ≡ arrived step s (take (512 * i + 504 - 512 * i) (drop (512 * i) image)) → t ≡ arrived step s₀ (payload (i + 1) image)
  unfolding payload
  blocks_more image i s₀ s e f =
      rw (add-one i, foldl-append step s₀ (payload i image) (part image (512 * i) 504), ← e, ← (between image (512 * i) 504)) f

  pub blocks_last : (image : List ℕ) (n i : ℕ) (s₀ : S) {s : S} → i ≤ n → n ≤ i → s ≡ arrived step s₀ (payload i image)
      → s ≡ arrived step s₀ (payload n image)
  blocks_last image n i s₀ h k e = let d : i ≡ n = omega arith in rw (← d) e
