-- A law for each way in which a replayed line is found to differ or to agree. Assumes nothing.
use Prim.Native.Nat.{ℕ}
use mathlib.Core.Path.{◌≡◌, refl}
use mathlib.Core.Bool.{Bool, true, false}
use mathlib.Core.List.{List}
use lib.Dec.{eqb}
use borrow.Author.Tests.{eq-eqb, ne_eqb}
use Rattle.hex_digits.specs.Digits.{hex_at}
use Rattle.replay_slots.specs.declared.asked.Said.{Said}
use Rattle.replay_slots.specs.Lines.{replayed_of, agreed}

module _ (text : List ℕ) {said : Said} {number : ℕ} where
  pub number-differs : said ≡ replayed_of text → number ≡ hex_at text 4 1 → (said.number ≡ number → ⊥) →
      false ≡ agreed text
  unfolding agreed
  number-differs e n h = rw (← e, ← n, ne_eqb said.number number h) refl

  pub first-differs : {first : ℕ} → said ≡ replayed_of text → number ≡ hex_at text 4 1 → first ≡ hex_at text 74 16 →
      said.number ≡ number → (said.first ≡ first → ⊥) → false ≡ agreed text
  unfolding agreed
  first-differs {first} e n f q h = rw (← e, ← n, ← f, eq-eqb said.number number q, ne_eqb said.first first h) refl

  pub second-differs : {first second : ℕ} → said ≡ replayed_of text → number ≡ hex_at text 4 1 →
      first ≡ hex_at text 74 16 → second ≡ hex_at text 91 4 → said.number ≡ number → said.first ≡ first →
      (said.second ≡ second → ⊥) → false ≡ agreed text
  unfolding agreed
  second-differs {first} {second} e n f s q h d =
      rw (← e, ← n, ← f, ← s, eq-eqb said.number number q, eq-eqb said.first first h, ne_eqb said.second second d) refl

  pub third-decides : {first second third : ℕ} → said ≡ replayed_of text → number ≡ hex_at text 4 1 →
      first ≡ hex_at text 74 16 → second ≡ hex_at text 91 4 → third ≡ hex_at text 96 4 → said.number ≡ number →
      said.first ≡ first → said.second ≡ second → eqb said.third third ≡ agreed text
  unfolding agreed
  third-decides {first} {second} {third} e n f s t q h d =
      rw (← e, ← n, ← f, ← s, ← t, eq-eqb said.number number q, eq-eqb said.first first h, eq-eqb said.second second d) refl
