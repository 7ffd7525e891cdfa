-- Bytes up to the first separator, found by their number; the fields of a line by the places of its spaces. Assumes nothing.
use Prim.Native.Nat.{ℕ, suc, ◌+◌, ◌≤◌, ◌<◌}
use mathlib.Core.Path.{◌≡◌, refl, ap, sym, ◌∙◌}
use mathlib.Core.Bool.{Bool, true, false, cond}
use mathlib.Core.List.{List, [], ◌∷◌}
use native.Mathlib.Numerals.{add-one}
use native.Mathlib.Omega.{arith}
use lib.Dec.{eqb}
use Rattle.std.specs.Prelude.{Option, MatchOption, unwrap_or}
use Rattle.std.specs.List.{AllWithin, HoldsAt}
use Rattle.std.proofs.lemmas.Iterator.{index_from_first}
use lib.ListN.{length, take, drop}
use lib.Seq.{take-length as take_whole}
use borrow.Author.Tests.{eq-eqb, ne_eqb}
use Rattle.text.specs.Split.{up_to, behind, split}

module _ (sep : ℕ) where
  up-le-step : (t : Bool) (b : ℕ) (us bs : List ℕ) → length us ≤ length bs → length (cond t [] (b ∷ us)) ≤ suc (length bs)
  up-le-step true b us bs h = omega arith
  up-le-step false b us bs h = omega arith

  pub up_le : (s : List ℕ) → length (up_to sep s) ≤ length s
  unfolding up_to
  up_le [] = omega arith
  up_le (b ∷ bs) = up-le-step (eqb b sep) b (up_to sep bs) bs (up_le bs)

  take_step : (t : Bool) (b : ℕ) (us bs : List ℕ) → take (length us) bs ≡ us
      → take (length (cond t [] (b ∷ us))) (b ∷ bs) ≡ cond t [] (b ∷ us)
  take_step true b us bs h = refl
  take_step false b us bs h = ap (λ (l : List ℕ). b ∷ l) h

  pub take-up : (s : List ℕ) → take (length (up_to sep s)) s ≡ up_to sep s
  unfolding up_to
  take-up [] = refl
  take-up (b ∷ bs) = take_step (eqb b sep) b (up_to sep bs) bs (take-up bs)

  none-step : (t : Bool) (b : ℕ) (us bs : List ℕ) (ps : List (List ℕ)) → (length us ≡ length bs → ps ≡ [])
      → length (cond t [] (b ∷ us)) ≡ suc (length bs) → cond t (us ∷ ps) ps ≡ []
  none-step true b us bs ps f h = absurd (omega arith)
  none-step false b us bs ps f h = f (omega arith)

  behind-none : (s : List ℕ) → length (up_to sep s) ≡ length s → behind sep s ≡ []
  unfolding up_to behind
  behind-none [] h = refl
  behind-none (b ∷ bs) h = none-step (eqb b sep) b (up_to sep bs) bs (behind sep bs) (behind-none bs) h

  more-step : (t : Bool) (b : ℕ) (us bs : List ℕ) (ps : List (List ℕ)) → us ∷ ps ≡ split sep bs
      → (length us < length bs → ps ≡ split sep (drop (suc (length us)) bs))
      → length (cond t [] (b ∷ us)) < suc (length bs) → cond t (us ∷ ps) ps ≡ split sep (drop (suc (length (cond t [] (b ∷ us)))) (b ∷ bs))
  more-step true b us bs ps e f h = e
  more-step false b us bs ps e f h = f (omega arith)

  behind_more : (s : List ℕ) → length (up_to sep s) < length s → behind sep s ≡ split sep (drop (suc (length (up_to sep s))) s)
  unfolding up_to behind
  behind_more [] h = absurd (omega arith)
  behind_more (b ∷ bs) h = more-step (eqb b sep) b (up_to sep bs) bs (behind sep bs) refl (behind_more bs) h

  -- one part, or a part and those of the rest
  pub split_one : (s : List ℕ) {a : ℕ} → a ≡ length (up_to sep s) → a ≡ length s → split sep s ≡ s ∷ []
  split_one s e h =
      let n : length (up_to sep s) ≡ length s = omega arith in
      let u : up_to sep s ≡ s = sym (take-up s) ∙ rw n (take_whole s) in
      rw (behind-none s n) (ap (λ (l : List ℕ). l ∷ []) u)

  pub split-more : (s : List ℕ) {a : ℕ} → a ≡ length (up_to sep s) → (a ≡ length s → ⊥) → split sep s ≡ take a s ∷ split sep (drop (a + 1) s)
  split-more s {a} e h =
      let l : length (up_to sep s) ≤ length s = up_le s in
      let n : length (up_to sep s) < length s = omega arith in
      rw (add-one a, e, behind_more s n) (ap (λ (l : List ℕ). l ∷ split sep (drop (suc (length (up_to sep s))) s)) (sym (take-up s)))

  -- the place of the first separator
  here : (b : ℕ) (bs : List ℕ) → b ≡ sep → length (up_to sep (b ∷ bs)) ≡ 0
  unfolding up_to
  here b bs e = rw (eq-eqb b sep e)

  further : (b : ℕ) (bs : List ℕ) → (b ≡ sep → ⊥) → length (up_to sep (b ∷ bs)) ≡ length (up_to sep bs) + 1
  unfolding up_to
  further b bs e = rw (ne_eqb b sep e) (omega arith)

  pub first_is : (s : List ℕ) (r : Option ℕ)
      → MatchOption r (AllWithin (λ b. b ≡ sep → ⊥) s 0 (length s))
      (λ i. (i < length s) × HoldsAt (λ b. b ≡ sep) s i × AllWithin (λ b. b ≡ sep → ⊥) s 0 i)
      → {n : ℕ} → n ≡ unwrap_or r (length s) → (n ≡ length (up_to sep s)) × (n ≤ length s)
  unfolding up_to
  first_is s r m {n} e =
      let place : length (up_to sep s) ≡ unwrap_or r (length s) =
      index_from_first (λ bs. length (up_to sep bs)) (λ b. b ≡ sep) (λ b. b ≡ sep → ⊥) refl here further s r m in
      let g : n ≡ length (up_to sep s) = e ∙ sym place in
      (g, omega (arith, up_le s))
