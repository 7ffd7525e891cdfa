-- The order of labels, by their bytes, is that of their fields, and edition 1 comes first. Assumes nothing.
use Prim.Native.Nat.{Ordering}
use Prim.Native.Nat.{ℕ, ◌^◌, ◌<◌, compare}
use mathlib.Core.Path.{◌≡◌, refl, sym, ap, ap₂, ◌∙◌}
use mathlib.Core.List.{[], ◌++◌, append-nil}
use Rattle.order.specs.Bytes.{then, bytewise}
use Rattle.order.proofs.Compare.{then-eq}
use Rattle.label_said.specs.Label.{Edition, first, second, Fields, frame_bytes, high_first, label_of, Fits, by_fields}
use Rattle.label_said.proofs.Numbers.{order-of-bytes}

-- within an edition
pub labels-in-order : (e : Edition) (x y : Fields) → Fits e x → Fits e y → bytewise (label_of e x) (label_of e y) ≡ by_fields x y
unfolding bytewise
labels-in-order e x y h k = by e h.frame-fits k.frame-fits
  where
    behind : (n : ℕ) → x.frame < 256 ^ n → y.frame < 256 ^ n
        → bytewise (high_first 2 x.station ++ (high_first 4 x.burst ++ high_first n x.frame))
        (high_first 2 y.station ++ (high_first 4 y.burst ++ high_first n y.frame)) ≡ by_fields x y
    behind n hf kf =
        order-of-bytes 2 x.station y.station (high_first 4 x.burst ++ high_first n x.frame)
        (high_first 4 y.burst ++ high_first n y.frame) h.station-fits k.station-fits
        ∙ ap (then (compare x.station y.station))
        (order-of-bytes 4 x.burst y.burst (high_first n x.frame) (high_first n y.frame) h.burst-fits k.burst-fits
        ∙ ap (then (compare x.burst y.burst))
        (ap₂ bytewise (sym (append-nil (high_first n x.frame))) (sym (append-nil (high_first n y.frame)))
        ∙ order-of-bytes n x.frame y.frame [] [] hf kf ∙ then-eq (compare x.frame y.frame)))

    by : (d : Edition) → x.frame < 256 ^ frame_bytes d → y.frame < 256 ^ frame_bytes d → bytewise (label_of d x) (label_of d y) ≡ by_fields x y
    by first hf kf = behind 1 hf kf
    by second hf kf = behind 2 hf kf

-- every label of edition 1 precedes every label of edition 2
pub first-precedes : (x y : Fields) → bytewise (label_of first x) (label_of second y) ≡ Ordering.lt
unfolding bytewise
first-precedes x y = refl
