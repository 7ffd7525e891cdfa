-- Bytes that come to a machine one after the other.
use Rattle.std.specs.Prelude.{ℕ}
use mathlib.Core.List.{List, foldl}

-- where a machine stands behind these bytes: `step` takes one byte
module _ {S : Type 0} (step : S → ℕ → S) where
  abbrev pub arrived : S → List ℕ → S
  arrived s bytes = foldl step s bytes
