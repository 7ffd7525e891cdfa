-- A law for each way in which a judgement of lent cells, or the comparison of a stored suffix, returns. Assumes nothing.
use Prim.Native.Nat.{ℕ, ◌+◌, ◌*◌, ◌-◌, ◌%◌, min}
use mathlib.Core.Path.{◌≡◌, refl, sym, ap, ap₂, ◌∙◌}
use mathlib.Core.Bool.{Bool, true, false, ◌&&◌}
use mathlib.Core.List.{List}
use native.Mathlib.Omega.{arith}
use native.Mathlib.Decide.{dec_lt}
use lib.Dec.{leb, ltb, eqb, compare_is_eq}
use Rattle.std.specs.Ordering.{is_eq}
use lib.ListN.{length, get_or, take, drop}
use lib.Seq.{drop-drop}
use borrow.Author.Rules.{rules}
use borrow.Author.Tests.{leb-true, ltb-true, eqb-true}
use Rattle.bank.proofs.Moves.{drop-take}
use Rattle.order.specs.Bytes.{bytewise}
use Rattle.std.specs.declared.cmp.Ordering.{Ordering as Ordered}
use Rattle.std.specs.declared.cmp.Ordering.TheVariants.{Less, Equal, Greater}
use Rattle.ikey.specs.Said.{order_of}
use Rattle.ikey.proofs.Ikeys.{rest_of}
use Rattle.lent_cells.specs.Cells.{length_word, cells_in, lent_right, Lent, cell_right, Cell, stored_suffix, same_bytes}

-- true is not false
pub never : {A : Type 0} → true ≡ false → A
never e = absurd (let z : ◌≡◌ {A = ℕ} 0 1 = cc in omega arith)

pub both : {a b : Bool} → a && b ≡ true → (a ≡ true) × (b ≡ true)
both {a = true} {b = true} e = (refl, refl)
both {a = true} {b = false} e = never (sym e)
both {a = false} e = never (sym e)

-- ---- the lent lengths

-- what right lent lengths say
pub lent-right : (cells bytes : List ℕ) → lent_right cells bytes ≡ true → Lent cells bytes
unfolding lent_right
lent-right cells bytes e =
    let p = (both {a = eqb (length cells % 2) 0} e).1 in
    let q = both {a = leb 1 (cells_in cells)} p in
    let s = both {a = leb (cells_in cells) 255} q.1 in
    record {
      some = leb-true 1 (cells_in cells) q.0;
      few = leb-true (cells_in cells) 255 s.0;
      room = eqb-true (length bytes) (256 * cells_in cells) s.1;
    }

-- ---- a cell

-- what a right cell is
pub cell-right : (cells : List ℕ) (cell : ℕ) → cell_right cells cell ≡ true → Cell cells cell
unfolding cell_right
cell-right cells cell e =
    let p = both {a = ltb cell (cells_in cells)} e in
    let q = both {a = leb 1 (length_word cells cell)} p.1 in
    record {
      lent = ltb-true cell (cells_in cells) p.0;
      taken = leb-true 1 (length_word cells cell) q.0;
      short = leb-true (length_word cells cell) 257 q.1;
    }

-- ---- the stored suffix

-- from a start on, or from the end where that is nearer
part-from : (bytes : List ℕ) (a n start m : ℕ) → m ≡ min start n
    → take (a + n - (a + m)) (drop (a + m) bytes) ≡ drop start (take n (drop a bytes))
part-from bytes a n start m e =
    elim (dec_lt n start) [
      | yes l ↦
          ap (λ (k : ℕ). take k (drop (a + m) bytes)) (let z : a + n - (a + m) ≡ 0 = omega arith in z)
          ∙ ap (λ (k : ℕ). take k (drop start (drop a bytes))) (let z : 0 ≡ n - start = omega arith in z)
          ∙ sym (drop-take start n (drop a bytes))
      | no l ↦
          ap₂ (λ (k j : ℕ). take k (drop j bytes)) (let z : a + n - (a + m) ≡ n - start = omega arith in z)
          (let z : a + m ≡ a + start = omega arith in z)
          ∙ ap (take (n - start)) (sym (drop-drop start a bytes))
          ∙ sym (drop-take start n (drop a bytes))
    ]

module _ (cells bytes : List ℕ) (cell : ℕ) (key : List ℕ) (start : ℕ) (r : Ordered) {m : ℕ}
    (e : m ≡ min start (get_or cells (2 * cell) 0 - 1))
    (o : order_of r ≡ bytewise (take (256 * cell + (get_or cells (2 * cell) 0 - 1) - (256 * cell + m)) (drop (256 * cell + m) bytes))
    (take (length key - start) (drop start key))) where
  suffixes : order_of r ≡ bytewise (stored_suffix cells bytes cell start) (drop start key)
  unfolding stored_suffix
  suffixes = o ∙ ap₂ bytewise (part-from bytes (256 * cell) (get_or cells (2 * cell) 0 - 1) start m e) (rest_of key start)

  pub suffix-same : {b : Bool} → b ≡ is_eq r → b ≡ same_bytes (stored_suffix cells bytes cell start) (drop start key)
  suffix-same q = q ∙ by r ∙ ap compare_is_eq suffixes
    where
      by : (q : Ordered) → is_eq q ≡ compare_is_eq (order_of q)
      by Less = refl
      by Equal = refl
      by Greater = refl

pub ruleset cells = (
  rules,
  suffix-same,
)
