-- A call that is accepted keeps the width, and leaves a valid bank. Assumes nothing.
use mathlib.Core.Path.{◌≡◌, ◌∙◌}
use mathlib.Core.Bool.{Bool, true, ◌&&◌}
use mathlib.Core.List.{List, [], ◌∷◌}
use Prim.Native.Nat.{ℕ, ◌≤◌, ◌<◌}
use native.Mathlib.Omega.{arith}
use lib.Dec.{T, leb, ltb, leb→le, ltb→lt}
use Rattle.refusal.specs.Answer.{Rule, all_hold}
use Rattle.bank.specs.Lists.{turned, swapped, each_once}
use Rattle.bank.specs.Bank.{Bank, width, place_in_use}
use Rattle.bank.specs.Calls.{
  Change,
  from_value,
  set_size,
  swap_free_slots,
  insert_from_back,
  insert_first_free,
  remove,
  remove_to_back,
  remove_slot,
  exchange,
  rotate,
  change_rules,
  after,
}
use Rattle.bank.proofs.Tests.{and_left, and_right, holds, is_true}
use Rattle.bank.proofs.Moves.{length-turned, once-turned, length-swapped, once-swapped}

-- a valid bank of width w
pub record Fits (w : ℕ) (b : Bank) : Type 0 where
  pub wide : width b ≡ w
  pub sized : b.size ≤ w
  pub once : T (each_once b.slots)

-- the tests of an accepted call: of rules, the first and those behind it
abbrev pub first_of : List Rule → Bool
first_of [] = true
first_of (rule ∷ rules) = rule.holds

abbrev pub later_of : List Rule → List Rule
later_of [] = []
later_of (rule ∷ rules) = rules

pub first-test : (rules : List Rule) → all_hold rules ≡ true → T (first_of rules)
unfolding all_hold
first-test [] e = tt
first-test (rule ∷ rules) e = and_left rule.holds (all_hold rules) (holds e)

pub second-test : (rules : List Rule) → all_hold rules ≡ true → T (first_of (later_of rules))
unfolding all_hold
second-test [] e = tt
second-test (rule ∷ rules) e =
    first-test rules (is_true (all_hold rules) (and_right rule.holds (all_hold rules) (holds e)))

module _ (w : ℕ) (b : Bank) (f : Fits w b) where
  turned-fits : (i j k n : ℕ) → i ≤ j → j ≤ k → n ≤ w → Fits w (record { size = n; slots = turned i j k b.slots })
  turned-fits i j k n h l m =
      record {
        wide = length-turned i j k b.slots h l ∙ f.wide;
        sized = m;
        once = once-turned i j k b.slots h l f.once;
      }

  swapped_fits : (i j : ℕ) → i < width b → j < width b → Fits w (record { size = b.size; slots = swapped i j b.slots })
  swapped_fits i j h l =
      record {
        wide = length-swapped i j b.slots h l ∙ f.wide;
        sized = f.sized;
        once = once-swapped i j b.slots h l f.once;
      }

  pub fits_after : (c : Change) → all_hold (change_rules c b) ≡ true → Fits w (after c b)
  fits_after from_value e = f
  fits_after (set_size n) e =
      let h = leb→le n (width b) (first-test (change_rules (set_size n) b) e) in
      record { wide = f.wide; sized = omega (arith, f.wide); once = f.once }
  fits_after (swap_free_slots i j) e =
      let t = first-test (change_rules (swap_free_slots i j) b) e in
      let free = leb b.size i && ltb i (width b) in
      let u = and_left (free && leb b.size j) (ltb j (width b)) t in
      swapped_fits i j
      (ltb→lt i (width b) (and_right (leb b.size i) (ltb i (width b)) (and_left free (leb b.size j) u)))
      (ltb→lt j (width b) (and_right (free && leb b.size j) (ltb j (width b)) t))
  fits_after (insert_from_back i) e =
      let h = leb→le i b.size (first-test (change_rules (insert_from_back i) b) e) in
      let l = ltb→lt b.size (width b) (second-test (change_rules (insert_from_back i) b) e) in
      turned-fits _ _ _ _ (omega arith) (omega arith) (omega (arith, f.wide))
  fits_after (insert_first_free i) e =
      let h = leb→le i b.size (first-test (change_rules (insert_first_free i) b) e) in
      let l = ltb→lt b.size (width b) (second-test (change_rules (insert_first_free i) b) e) in
      turned-fits _ _ _ _ (omega arith) (omega arith) (omega (arith, f.wide))
  fits_after (remove i) e =
      let h = ltb→lt i b.size (first-test (change_rules (remove i) b) e) in
      turned-fits _ _ _ _ (omega arith) (omega (arith, f.sized, f.wide)) (omega (arith, f.sized))
  fits_after (remove_to_back i) e =
      let h = ltb→lt i b.size (first-test (change_rules (remove_to_back i) b) e) in
      turned-fits _ _ _ _ (omega arith) (omega (arith, f.sized, f.wide)) (omega (arith, f.sized))
  fits_after (remove_slot s) e =
      let h = ltb→lt (place_in_use s b) b.size (first-test (change_rules (remove_slot s) b) e) in
      turned-fits _ _ _ _ (omega arith) (omega (arith, f.sized, f.wide)) (omega (arith, f.sized))
  fits_after (exchange i j) e =
      let t = first-test (change_rules (exchange i j) b) e in
      swapped_fits i j
      (ltb→lt i (width b) (and_left (ltb i (width b)) (ltb j (width b)) t))
      (ltb→lt j (width b) (and_right (ltb i (width b)) (ltb j (width b)) t))
  fits_after (rotate i j) e =
      let t = first-test (change_rules (rotate i j) b) e in
      let h = leb→le i j (and_left (leb i j) (leb j (width b)) t) in
      let l = leb→le j (width b) (and_right (leb i j) (leb j (width b)) t) in
      turned-fits _ _ _ _ h l f.sized
