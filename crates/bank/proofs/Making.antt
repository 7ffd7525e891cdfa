-- One law for each way in which a call that makes a bank returns, whatever holds it, and what an accepted one says. Assumes nothing.
use mathlib.Core.Path.{◌≡◌, refl, sym, ap, ◌∙◌}
use mathlib.Core.Bool.{Bool, true, false, cond}
use mathlib.Core.List.{List, [], ◌∷◌}
use Prim.Native.Nat.{ℕ, ◌≤◌, ◌<◌}
use native.Mathlib.Omega.{arith}
use lib.Dec.{leb}
use borrow.Author.Tests.{le-leb, lt-leb, leb-true}
use Rattle.refusal.specs.Answer.{Answer, accepted, refused}
use Rattle.refusal.specs.declared.Refusal.TheVariants.{Width, Position}
use Rattle.bank.specs.Bank.{sorted}
use Rattle.bank.specs.Holder.{Holder, made_sorted_in, made_empty_in}

module _ {Held : Type 0} (h : Holder Held) (w : ℕ) (missing : List ℕ) where
  pub sorted-width : (n : ℕ) → h.good_width ≡ false → refused Width missing ≡ made_sorted_in h w n missing
  unfolding made_sorted_in
  sorted-width n e = rw e

  pub sorted-position : (n : ℕ) → h.good_width ≡ true → w < n → refused Position missing ≡ made_sorted_in h w n missing
  unfolding made_sorted_in
  sorted-position n e l = rw (e, lt-leb n w l)

  pub sorted-made : {next : Held} {given : List ℕ} (n : ℕ) → h.good_width ≡ true → n ≤ w → next ≡ h.held_of (sorted w n)
      → given ≡ h.values next → accepted given ≡ made_sorted_in h w n missing
  unfolding made_sorted_in
  sorted-made n e l d v = rw (e, le-leb n w l, v, d)

  pub empty-width : h.good_width ≡ false → refused Width missing ≡ made_empty_in h w missing
  unfolding made_empty_in
  empty-width e = rw e

  pub empty-made : {next : Held} {given : List ℕ} → h.good_width ≡ true → next ≡ h.held_of (sorted w 0) → given ≡ h.values next
      → accepted given ≡ made_empty_in h w missing
  unfolding made_empty_in
  empty-made e d v = rw (e, v, d)

  -- the empty bank is the sorted one with none taken
  pub empty-sorted : made_empty_in h w missing ≡ made_sorted_in h w 0 missing
  unfolding made_empty_in made_sorted_in
  empty-sorted = rw (le-leb 0 w (omega arith))

  -- what an accepted make_sorted says of its arguments and its values
  pub record Started (n : ℕ) (values : List ℕ) : Type 0 where
    pub good : h.good_width ≡ true
    pub taken : n ≤ w
    pub made : values ≡ h.values (h.held_of (sorted w n))

  pub started : (n : ℕ) (values : List ℕ) → made_sorted_in h w n missing ≡ accepted values → Started n values
  unfolding made_sorted_in
  started n values = by h.good_width (leb n w) refl (leb-true n w)
    where
      by : (p q : Bool) → h.good_width ≡ p → (q ≡ true → n ≤ w)
          → cond p (cond q (accepted (h.values (h.held_of (sorted w n)))) (record { number = 4; values = missing }))
          (record { number = 1; values = missing }) ≡ accepted values
          → Started n values
      by true true d f e = record { good = d; taken = f refl; made = sym (ap (λ (a : Answer). a.values) e) }
      by true false d f e = absurd (let z : ◌≡◌ {A = ℕ} 4 0 = ap (λ (a : Answer). a.number) e in omega arith)
      by false q d f e = absurd (let z : ◌≡◌ {A = ℕ} 1 0 = ap (λ (a : Answer). a.number) e in omega arith)

pub ruleset makings = (sorted-width, sorted-position, sorted-made, empty-width, empty-made)
