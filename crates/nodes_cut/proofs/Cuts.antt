-- A law for each way in which the search for the cut returns. Assumes nothing.
use Prim.Native.Nat.{ℕ, suc, ◌+◌, ◌-◌, ◌≤◌, ◌<◌}
use mathlib.Core.Path.{◌≡◌, sym, ap, ◌∙◌}
use mathlib.Core.Bool.{true, false, cond, not}
use mathlib.Core.List.{List}
use native.Mathlib.Numerals.{add-one}
use native.Mathlib.Omega.{arith}
use borrow.Author.Rules.{rules}
use borrow.Author.Tests.{eq-eqb, ne_eqb}
use Rattle.leaf_entries.specs.declared.Entry.{Entry}
use Rattle.leaf.specs.Cut.{ikey_of, differs, outward, cut_of}

module _ (es : List Entry) (far : ℕ) (l : far < 8) (e : cut_of es ≡ outward (differs es) 8 far (8 - far)) where
  opened : cut_of es ≡ cond (differs es (8 - far)) (8 - far)
      (cond (differs es (8 + far)) (8 + far) (outward (differs es) 8 (suc far) (8 - suc far)))
  unfolding outward
  opened = e ∙ ap (outward (differs es) 8 far) (let z : 8 - far ≡ suc (8 - suc far) = omega arith in z)

  differ : (c : ℕ) → (ikey_of es (c - 1) ≡ ikey_of es c → ⊥) → differs es c ≡ true
  differ c n = ap not (ne_eqb (ikey_of es (c - 1)) (ikey_of es c) n)

  same : (c : ℕ) → ikey_of es (c - 1) ≡ ikey_of es c → differs es c ≡ false
  same c n = ap not (eq-eqb (ikey_of es (c - 1)) (ikey_of es c) n)

  pub cut_low : (ikey_of es (8 - far - 1) ≡ ikey_of es (8 - far) → ⊥) → 8 - far ≡ cut_of es
  cut_low n = rw (opened, differ (8 - far) n)

  module _ (s : ikey_of es (8 - far - 1) ≡ ikey_of es (8 - far)) where
    pub cut_high : (ikey_of es (8 + far - 1) ≡ ikey_of es (8 + far) → ⊥) → 8 + far ≡ cut_of es
    cut_high n = rw (opened, same (8 - far) s, differ (8 + far) n)

    pub cut-next : ikey_of es (8 + far - 1) ≡ ikey_of es (8 + far) → cut_of es ≡ outward (differs es) 8 (far + 1) (8 - (far + 1))
    cut-next n = rw (opened, same (8 - far) s, same (8 + far) n, add-one far)

pub cut-none : (es : List Entry) (far : ℕ) → 8 ≤ far → far ≤ 8 → cut_of es ≡ outward (differs es) 8 far (8 - far) → 8 ≡ cut_of es
unfolding outward
cut-none es far l h e = let z : far ≡ 8 = omega arith in sym (rw z at e)

pub ruleset cuts = (rules, cut_low, cut_high, cut-next, cut-none)
