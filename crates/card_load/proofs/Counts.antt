-- The first word of an image is the number of its entries. Assumes nothing.
use Prim.Native.Nat.{ℕ, zero, suc, ◌+◌, ◌*◌, ◌≤◌, ◌<◌}
use mathlib.Core.Path.{◌≡◌, refl, sym, ap, ◌∙◌}
use mathlib.Core.List.{List, [], ◌∷◌, ◌++◌, append_assoc}
use native.Mathlib.Omega.{arith}
use lib.ListN.{length, take, drop, length-append, take-append-drop}
use lib.Seq.{length-take-le}
use Rattle.order.specs.Bytes.{Bytes}
use Rattle.order.specs.Map.{Map}
use Rattle.order.proofs.Bytes.{bytes-append, bytes_take, bytes_drop}
use Rattle.lent_words.specs.Parts.{part}
use Rattle.lent_words.proofs.Words.{part_length}
use Rattle.card_block.specs.Words.{little_endian}
use Rattle.card_block.proofs.Words.{little-low, little-front}
use Rattle.card_stream.specs.Stream.{stream_of, unfilled, Writable}
use Rattle.card_stream.specs.Parse.{right, parse}
use Rattle.card_stream.proofs.OnlyWritten.{only-written}
use Rattle.card_stream.proofs.Accepted.{payload-bytes, payload-length}
use Rattle.card_stream.specs.Payload.{payload}

little-take : (n : ℕ) (bytes : List ℕ) → n ≤ length bytes → little_endian n (take n bytes) ≡ little_endian n bytes
little-take n bytes h =
    sym (little-front n (take n bytes) (drop n bytes) (length-take-le n bytes h)) ∙ ap (little_endian n) (take-append-drop n bytes)

-- a number in front of anything
little-append : (n : ℕ) (l r : List ℕ) → n ≤ length l → little_endian n (l ++ r) ≡ little_endian n l
unfolding little_endian
little-append zero l r h = refl
little-append (suc n) [] r h = absurd (omega arith)
little-append (suc n) (x ∷ l) r h = ap (λ (y : ℕ). x + 256 * y) (little-append n l r (omega arith))

payload-first : (n : ℕ) (image : List ℕ) → 512 * suc n ≤ length image → little_endian 4 (payload (suc n) image) ≡ little_endian 4 image
unfolding payload part
payload-first zero image h =
    sym (little-append 4 (take 504 image) (drop 504 image) (rw (length-take-le 504 image (omega arith)) (omega arith)))
    ∙ ap (little_endian 4) (take-append-drop 504 image)
payload-first (suc n) image h =
    little-append 4 (payload (suc n) image) (part image (512 * suc n) 504) (omega (arith, payload-length (suc n) image (omega arith)))
    ∙ payload-first n image (omega arith)

stream-count : (es : Map) → length es ≤ 255 → little_endian 4 (stream_of es) ≡ length es
unfolding stream_of unfilled
stream-count es h = rw append_assoc (little-low 4 (length es) _ (omega arith))

module _ (image : List ℕ) (b : Bytes image) {es : Map} where
  pub image-count : (n : ℕ) → 1 ≤ n → 512 * n ≤ length image → parse (payload n image) ≡ right es → little_endian 4 image ≡ length es
  image-count zero i j e = absurd (omega arith)
  image-count (suc n) i j e =
      let (w, s) = only-written (payload-bytes (suc n) b) e in
      sym (payload-first n image j) ∙ ap (little_endian 4) s ∙ stream-count es w.few
