-- The bytes of fields of one, two and four bytes, as the code divides them. Assumes nothing.
use Prim.Native.Nat.{ℕ, ◌/◌, ◌%◌}
use mathlib.Core.Path.{◌≡◌, ap, ap₂}
use mathlib.Core.List.{List, [], ◌∷◌, ◌++◌}
use native.Mathlib.Omega.{arith}
use lib.ListN.{get_or}
use Rattle.label_said.specs.Label.{first, second, fields, high_first, label_of}

one_byte : (x : ℕ) → high_first 1 x ≡ x ∷ []
unfolding high_first
one_byte x = ap (λ (a : ℕ). a ∷ []) (let z : x / 1 ≡ x = omega arith in z)

two_bytes : (x : ℕ) → high_first 2 x ≡ x / 256 ∷ x % 256 ∷ []
unfolding high_first
two_bytes x = ap (λ (a : ℕ). x / 256 ∷ a ∷ []) (let z : x % 256 / 1 ≡ x % 256 = omega arith in z)

four_bytes : (x : ℕ) → high_first 4 x ≡ x / 16777216 ∷ x / 65536 % 256 ∷ x / 256 % 256 ∷ x % 256 ∷ []
unfolding high_first
four_bytes x =
    let p : x % 16777216 / 65536 ≡ x / 65536 % 256 = omega arith in
    let q : x % 16777216 % 65536 / 256 ≡ x / 256 % 256 = omega arith in
    let r : x % 16777216 % 65536 % 256 / 1 ≡ x % 256 = omega arith in
    ap₂ (λ (a : ℕ) (l : List ℕ). x / 16777216 ∷ a ∷ l) p (ap₂ (λ (a b : ℕ). a ∷ b ∷ []) q r)

-- station and burst, byte by byte
pub station-burst : (s b : ℕ)
    → s / 256 ∷ s % 256 ∷ b / 16777216 ∷ b / 65536 % 256 ∷ b / 256 % 256 ∷ b % 256 ∷ [] ≡ high_first 2 s ++ high_first 4 b
station-burst s b = rw (two_bytes s, four_bytes b)

-- a label of them: the edition in front, the frame behind
module _ (s b f : ℕ) {m : List ℕ} (e : m ≡ high_first 2 s ++ high_first 4 b) where
  pub first-built : 1 ∷ get_or m 0 0 ∷ get_or m 1 0 ∷ get_or m 2 0 ∷ get_or m 3 0 ∷ get_or m 4 0 ∷ get_or m 5 0 ∷ f ∷ [] ≡ label_of first (fields s b f)
  first-built = rw (e, two_bytes s, four_bytes b, one_byte f)

  pub second-built : 2 ∷ get_or m 0 0 ∷ get_or m 1 0 ∷ get_or m 2 0 ∷ get_or m 3 0 ∷ get_or m 4 0 ∷ get_or m 5 0 ∷ f / 256 ∷ f % 256 ∷ []
      ≡ label_of second (fields s b f)
  second-built = rw (e, two_bytes s, four_bytes b, two_bytes f)
