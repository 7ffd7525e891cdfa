-- Labels as keys: their bytes, the class of each edition in its layer, and what is behind the layer. Assumes nothing.
use Prim.Native.Nat.{ℕ, ◌/◌, ◌%◌, ◌<◌}
use mathlib.Core.Path.{◌≡◌, refl, ap}
use mathlib.Core.List.{[], ◌∷◌}
use native.Mathlib.Omega.{arith}
use lib.ListN.{drop}
use Rattle.order.specs.Bytes.{Bytes, more}
use Rattle.order.specs.Layer.{class_at}
use Rattle.order.proofs.Bytes.{bytes-append}
use Rattle.label_said.specs.Label.{Edition, first, second, Fields, byte_of, frame_bytes, high_first, label_of, Fits}
use Rattle.label_said.proofs.Numbers.{high-bytes}

-- each byte is below 256
pub label-bytes : (e : Edition) (x : Fields) → Fits e x → Bytes (label_of e x)
label-bytes e x h =
    more (edition-byte e)
    (bytes-append (high-bytes 2 x.station h.station-fits)
    (bytes-append (high-bytes 4 x.burst h.burst-fits) (high-bytes (frame_bytes e) x.frame h.frame-fits)))
  where
    edition-byte : (d : Edition) → byte_of d < 256
    edition-byte first = omega arith
    edition-byte second = omega arith

module _ (x : Fields) where
  -- a label of edition 1 ends in its layer
  pub first-class : class_at (label_of first x) 0 ≡ 8
  unfolding high_first
  first-class = refl

  -- one of edition 2 goes on behind it
  pub second-class : class_at (label_of second x) 0 ≡ 9
  unfolding high_first
  second-class = refl

  -- with the low byte of its frame
  pub second-behind : drop 8 (label_of second x) ≡ x.frame % 256 ∷ []
  unfolding high_first
  second-behind = ap (λ (a : ℕ). a ∷ []) (let z : x.frame % 256 / 1 ≡ x.frame % 256 = omega arith in z)
