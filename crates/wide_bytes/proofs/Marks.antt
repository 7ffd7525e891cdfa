-- One mark for each slot of a list: all marks are set exactly where each slot stands once. Assumes nothing.
use mathlib.Core.Path.{◌≡◌, refl, sym, ap, ◌∙◌, subst}
use mathlib.Core.Bool.{Bool, true, false}
use mathlib.Core.List.{List, [], ◌∷◌, ◌++◌}
use Prim.Native.Nat.{ℕ, ◌+◌, ◌*◌, ◌/◌, ◌%◌, ◌^◌, ◌≤◌, ◌<◌, min}
use native.Mathlib.Nat.{not-suc-le-zero, zero-div, mod-lt, mod-eq_of_lt, zero-lt-suc, one-mul}
use native.Mathlib.Omega.{arith}
use native.Mathlib.Decide.{dec_lt}
use lib.ListN.{length, get_or, length-append, get_or-append}
use lib.Seq.{get_or_at}
use lib.Bits.{bit_and, bit_or, and_mask, and_le_l, and_le_r, or_lt, or_add_and}
use lib.Pow.{pow_pos, pow-lt}
use lib.Dec.{T, eqb, eqb→eq}
use Rattle.bank.specs.Lists.{count, each_once}
use Rattle.bank.proofs.Tests.{equal, same_test}
use Rattle.bank.proofs.Counts.{count_none, count-append, once, once-if-all, slot_lt}
use Rattle.bank.proofs.Marks.{bit, bit-or, ones, all_ones, marked-one, more-marks}

pub is_false : (b : Bool) → (T b → ⊥) → false ≡ b
is_false true f = absurd (f tt)
is_false false f = refl

-- ---- lists of slots below a number

abbrev pub Below : ℕ → List ℕ → Type 0
Below w ps = (i : ℕ) → i < length ps → get_or ps i 0 < w

module _ (w p : ℕ) (ps : List ℕ) where
  longer : length (ps ++ p ∷ []) ≡ length ps + 1
  longer = length-append ps (p ∷ [])

  below-front : Below w (ps ++ p ∷ []) → Below w ps
  below-front h i l = subst (λ (x : ℕ). x < w) (get_or-append ps (p ∷ []) 0 i l) (h i (omega (arith, longer)))

  below_last : Below w (ps ++ p ∷ []) → p < w
  below_last h = subst (λ (x : ℕ). x < w) (get_or_at ps p [] 0 (length ps) refl) (h (length ps) (omega (arith, longer)))

  below_more : Below w ps → p < w → Below w (ps ++ p ∷ [])
  below_more h l i m =
      elim (dec_lt i (length ps)) [
        | yes n ↦ subst (λ (x : ℕ). x < w) (sym (get_or-append ps (p ∷ []) 0 i n)) (h i n)
        | no n ↦ subst (λ (x : ℕ). x < w) (sym (get_or_at ps p [] 0 i (omega (arith, longer)))) l
      ]

-- ---- marks

pub shifted_one : (p : ℕ) → p < 64 → (1 * 2 ^ p) % 2 ^ 64 ≡ 2 ^ p
shifted_one p h = ap (λ (x : ℕ). x % 2 ^ 64) (one-mul (2 ^ p)) ∙ mod-eq_of_lt (pow-lt h)

-- mark s is set exactly where s stands in the list, and no mark from w on
pub record Marked (w marks : ℕ) (ps : List ℕ) : Type 0 where
  pub small : marks < 2 ^ w
  pub set : (s : ℕ) → bit marks s ≡ min 1 (count s ps)

marked_more : (w : ℕ) {marks : ℕ} {ps : List ℕ} (p : ℕ) → w ≤ 64 → p < w → Marked w marks ps
    → Marked w (bit_or marks ((1 * 2 ^ p) % 2 ^ 64)) (ps ++ p ∷ [])
marked_more w {marks} {ps} p h l m =
    rw (shifted_one p (omega arith))
    (record {
      small = or_lt w marks (2 ^ p) m.small (pow-lt l);
      set = λ s.
          bit-or marks (2 ^ p) s
          ∙ more-marks (bit marks s) (bit (2 ^ p) s) (count s ps) (count s (p ∷ [])) (m.set s) (marked-one p s)
          (rw (← marked-one p s) (mod-lt (2 ^ p / 2 ^ s) (zero-lt-suc 1)))
          ∙ ap (min 1) (sym (count-append s ps (p ∷ [])));
    })

-- Slots passed by the loop: those that can be marked are, and what is laid over each other is below 64 exactly where each of them is.
pub record Passed (marks over : ℕ) (ps : List ℕ) : Type 0 where
  pub marked : (w : ℕ) → w ≤ 64 → Below w ps → Marked w marks ps
  pub small : Below 64 ps → over < 64
  pub below : over < 64 → Below 64 ps

pub passed_none : Passed 0 0 []
passed_none =
    record {
      marked = λ w h b. record { small = pow_pos w; set = λ s. rw (zero-div, count_none) };
      small = λ b. omega arith;
      below = λ l i h. absurd (not-suc-le-zero h);
    }

pub passed-more : {marks over : ℕ} {ps : List ℕ} (p : ℕ) → Passed marks over ps
    → Passed (bit_or marks ((1 * 2 ^ bit_and p 63) % 2 ^ 64)) (bit_or over p) (ps ++ p ∷ [])
passed-more {marks} {over} {ps} p m =
    record {
      marked = λ w h b.
          let l = below_last w p ps b in
          rw (and_mask p 6 ∙ mod-eq_of_lt (let n : p < 64 = omega arith in n))
          (marked_more w p h l (m.marked w h (below-front w p ps b)));
      small = λ b. or_lt 6 over p (m.small (below-front 64 p ps b)) (below_last 64 p ps b);
      below = λ l.
          below_more 64 p ps (m.below (omega (arith, or_add_and over p, and_le_r over p)))
          (omega (arith, or_add_and over p, and_le_l over p));
    }

module _ {marks over : ℕ} (w : ℕ) (ps : List ℕ) (l : length ps ≡ w) (h : w ≤ 64) (m : Passed marks over ps) where
  each_below : T (each_once ps) → Below w ps
  each_below t i k = omega (arith, slot_lt ps t i k)

  -- a slot that cannot be marked is none
  pub passed_over : 63 < over → false ≡ each_once ps
  passed_over o =
      is_false (each_once ps) (λ t. omega (arith, m.small (λ i k. let n : get_or ps i 0 < w = each_below t i k in omega arith)))

  -- as many slots as marks, and every mark is set: none is missing, so none stands twice
  pub passed-all : (all : ℕ) → over ≤ 63 → all + 1 ≡ 2 ^ w → eqb marks all ≡ each_once ps
  passed-all all o d = same_test (eqb marks all) (each_once ps) there back
    where
      there : T (eqb marks all) → T (each_once ps)
      there t =
          let set = (m.marked 64 (omega arith) (m.below (omega arith))).set in
          once-if-all ps (λ s k.
          omega (arith, set s, all_ones w marks s (ap (λ (x : ℕ). x + 1) (eqb→eq marks all t) ∙ d) (omega arith)))

      back : T (each_once ps) → T (eqb marks all)
      back t =
          let n = m.marked w h (each_below t) in
          let full : marks + 1 ≡ 2 ^ w = ones w marks n.small (λ s k. n.set s ∙ omega (arith, once ps t s (omega arith))) in
          equal (let e : marks ≡ all = omega (arith, d, full) in e)
