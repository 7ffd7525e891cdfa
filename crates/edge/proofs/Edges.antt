-- Laws on edges: one for each way that a test of them returns. Assumes nothing.
use mathlib.Core.Path.{◌≡◌, sym, ◌∙◌}
use mathlib.Core.Bool.{Bool, true, false, ◌&&◌}
use Prim.Native.Nat.{ℕ, suc, ◌^◌}
use native.Mathlib.Omega.{arith}
use borrow.Author.Rules.{rules}
use borrow.Author.Tests.{not-true, not-false, le-leb, lt-ltb}
use lib.Dec.{leb, ltb, leb-suc-suc}
use mir.Val.{Fits}
use mir.Syntax.{w64}
use Rattle.std.specs.Prelude.{Option, Some, None}
use Rattle.edge.specs.Edges.{left_of, right_of}

module _ (e : Option ℕ) (ikey : ℕ) where
  pub from-open : e ≡ None → true ≡ leb (left_of e) (suc ikey)
  from-open k = rw k (sym (le-leb 0 (suc ikey) (omega arith)))

  pub from-known : {left : ℕ} → e ≡ Some left → leb left ikey ≡ leb (left_of e) (suc ikey)
  from-known {left} k = rw k (sym (leb-suc-suc left ikey))

  pub before-open : Fits w64 ikey → e ≡ None → true ≡ ltb (suc ikey) (right_of e)
  before-open f k = rw k (sym (lt-ltb (suc ikey) (suc (2 ^ 64)) (omega (arith, f.fits))))

  pub before-known : {right : ℕ} → e ≡ Some right → ltb ikey right ≡ ltb (suc ikey) (right_of e)
  before-known {right} k = rw k (sym (leb-suc-suc (suc ikey) right))

module _ (low high : Option ℕ) where
  pub between-open : low ≡ None → true ≡ ltb (left_of low) (right_of high)
  between-open k = rw k (by high)
    where
      by : (e : Option ℕ) → true ≡ ltb 0 (right_of e)
      by (Some x) = sym (lt-ltb 0 (suc x) (omega arith))
      by None = sym (lt-ltb 0 (suc (2 ^ 64)) (omega arith))

  pub between_known : {left : ℕ} {r : Bool} → low ≡ Some left → r ≡ ltb (suc left) (right_of high) → r ≡ ltb (left_of low) (right_of high)
  between_known k e = rw k e

module _ (a b : Bool) where
  pub and-not : {r : Bool} → r ≡ a → r ≡ false → false ≡ (a && b)
  and-not e f = let g : a ≡ false = sym e ∙ f in rw g

  pub and_so : {r q : Bool} → r ≡ a → r ≡ true → q ≡ b → q ≡ (a && b)
  and_so e f h = let g : a ≡ true = sym e ∙ f in rw g h

pub ruleset edges = (
  rules,
  not-true,
  not-false,
  from-open,
  from-known,
  before-open,
  before-known,
  between-open,
  between_known,
  and-not,
  and_so,
)
