-- The cut of sixteen entries.
use Rattle.std.specs.Prelude.{ℕ, zero, suc, ◌+◌, ◌-◌, ◌≤◌, ◌≡◌, Bool, cond, not, List, T, eqb, get_or}
use Rattle.leaf_entries.specs.declared.Entry.{Entry}
use Rattle.leaf.specs.Leaf.{none}

-- the ikey at a position
abbrev pub ikey_of : List Entry → ℕ → ℕ
ikey_of es i = (get_or es i none).ikey

-- the ikeys on both sides of a cut at c differ
abbrev pub differs : List Entry → ℕ → Bool
differs es c = not (eqb (ikey_of es (c - 1)) (ikey_of es c))

-- how far two places are apart
abbrev pub apart : ℕ → ℕ → ℕ
apart a b = (a - b) + (b - a)

-- The cut by statement: from 1 to 15, the ikeys on both sides differ, no such place is nearer to 8, and of two that are
-- equally near it is the lower.
pub record IsCut (es : List Entry) (c : ℕ) : Type 0 where
  pub least : 1 ≤ c
  pub most : c ≤ 15
  pub between : T (differs es c)
  pub nearest : (d : ℕ) → 1 ≤ d → d ≤ 15 → T (differs es d) → apart c 8 ≤ apart d 8
  pub lower : (d : ℕ) → 1 ≤ d → d ≤ 15 → T (differs es d) → apart d 8 ≡ apart c 8 → c ≤ d

-- the first place that passes, outward from m, at each distance the lower one first; k distances are tried, from `far` on
unfoldable pub outward : (ℕ → Bool) → ℕ → ℕ → ℕ → ℕ
outward test m far zero = m
outward test m far (suc k) =
    cond (test (m - far)) (m - far) (cond (test (m + far)) (m + far) (outward test m (suc far) k))

-- the cut by computation: 8, then 7 and 9, then 6 and 10, up to 1 and 15
abbrev pub cut_of : List Entry → ℕ
cut_of es = outward (differs es) 8 0 8
