-- What two and four bytes come to, and a law for each way in which a reader returns. Assumes nothing.
use Prim.Native.Nat.{ℕ, ◌+◌, ◌*◌}
use mathlib.Core.Path.{◌≡◌, refl}
use mathlib.Core.List.{List, [], ◌∷◌}
use native.Mathlib.Omega.{arith}
use native.Mathlib.Nat.{add-zero}
use lib.ListN.{length, get_or, drop}
use lib.Seq.{get_or-drop}
use borrow.Author.Tests.{eq-eqb, ne_eqb}
use Rattle.std.specs.Int.{w16, w32, from_be_bytes}
use Rattle.refusal.specs.Answer.{accepted, refused_telling}
use Rattle.order.specs.Layer.{big_endian}
use Rattle.order.proofs.Layer.{big_endian-snoc}
use Rattle.label_said.specs.Read.{read_said, read_first_said}

-- ---- numbers

pub two_is : (l : List ℕ) (at : ℕ) {n : ℕ} → n ≡ from_be_bytes w16 (get_or l at 0 ∷ get_or l (at + 1) 0 ∷ []) → n ≡ big_endian 2 (drop at l)
unfolding big_endian
two_is l at {n} p =
    let m = drop at l in
    let z : big_endian 0 m ≡ 0 = refl in
    let q : n ≡ get_or l at 0 * 256 + get_or l (at + 1) 0 = p in
    omega (arith, big_endian-snoc 0 m, big_endian-snoc 1 m, rw (add-zero at) at (get_or-drop at l 0 0), get_or-drop at l 1 0)

pub four_is : (l : List ℕ) (at : ℕ) {n : ℕ}
    → n ≡ from_be_bytes w32 (get_or l at 0 ∷ get_or l (at + 1) 0 ∷ get_or l (at + 2) 0 ∷ get_or l (at + 3) 0 ∷ []) → n ≡ big_endian 4 (drop at l)
unfolding big_endian
four_is l at {n} p =
    let m = drop at l in
    let z : big_endian 0 m ≡ 0 = refl in
    let q : n ≡ get_or l at 0 * 16777216 + get_or l (at + 1) 0 * 65536 + get_or l (at + 2) 0 * 256 + get_or l (at + 3) 0 = p in
    omega (
      arith,
      big_endian-snoc 0 m,
      big_endian-snoc 1 m,
      big_endian-snoc 2 m,
      big_endian-snoc 3 m,
      rw (add-zero at) at (get_or-drop at l 0 0),
      get_or-drop at l 1 0,
      get_or-drop at l 2 0,
      get_or-drop at l 3 0,
    )

one-is : (l : List ℕ) → get_or l 7 0 ≡ big_endian 1 (drop 7 l)
unfolding big_endian
one-is l = let z : big_endian 0 (drop 7 l) ≡ 0 = refl in omega (arith, big_endian-snoc 0 (drop 7 l), get_or-drop 7 l 0 0)

-- ---- a reader of both editions

module _ (l : List ℕ) {x : ℕ} (e : x ≡ get_or l 0 0) where
  pub read-unknown : (x ≡ 1 → ⊥) → (x ≡ 2 → ⊥) → refused_telling 19 (x ∷ []) [] ≡ read_said l
  unfolding read_said
  read-unknown p q = rw (← e, ne_eqb x 1 p, ne_eqb x 2 q)

  pub read-not-8 : x ≡ 1 → (length l ≡ 8 → ⊥) → refused_telling 19 (x ∷ []) [] ≡ read_said l
  unfolding read_said
  read-not-8 p h = rw (← e, eq-eqb x 1 p, ne_eqb (length l) 8 h)

  pub read-not-9 : x ≡ 2 → (length l ≡ 9 → ⊥) → refused_telling 19 (x ∷ []) [] ≡ read_said l
  unfolding read_said
  read-not-9 p h = rw (← e, p, ne_eqb (length l) 9 h)

  pub read-8 : {s b : ℕ} → x ≡ 1 → length l ≡ 8 → s ≡ big_endian 2 (drop 1 l) → b ≡ big_endian 4 (drop 3 l)
      → accepted (1 ∷ s ∷ b ∷ get_or l 7 0 ∷ []) ≡ read_said l
  unfolding read_said
  read-8 p h es eb = rw (← e, p, h, es, eb, one-is l)

  pub read-9 : {s b f : ℕ} → x ≡ 2 → length l ≡ 9 → s ≡ big_endian 2 (drop 1 l) → b ≡ big_endian 4 (drop 3 l)
      → f ≡ big_endian 2 (drop 7 l) → accepted (2 ∷ s ∷ b ∷ f ∷ []) ≡ read_said l
  unfolding read_said
  read-9 p h es eb ef = rw (← e, p, h, es, eb, ef)

-- ---- a reader of edition 1 alone

module _ (l : List ℕ) {x : ℕ} (e : x ≡ get_or l 0 0) where
  pub first-unknown : (x ≡ 1 → ⊥) → refused_telling 19 (x ∷ []) [] ≡ read_first_said l
  unfolding read_first_said
  first-unknown p = rw (← e, ne_eqb x 1 p)

  pub first-not-8 : x ≡ 1 → (length l ≡ 8 → ⊥) → refused_telling 19 (x ∷ []) [] ≡ read_first_said l
  unfolding read_first_said
  first-not-8 p h = rw (← e, eq-eqb x 1 p, ne_eqb (length l) 8 h)

  pub first-8 : {s b : ℕ} → x ≡ 1 → length l ≡ 8 → s ≡ big_endian 2 (drop 1 l) → b ≡ big_endian 4 (drop 3 l)
      → accepted (s ∷ b ∷ get_or l 7 0 ∷ []) ≡ read_first_said l
  unfolding read_first_said
  first-8 p h es eb = rw (← e, p, h, es, eb, one-is l)

pub ruleset readings = (two_is, four_is, read-unknown, read-not-8, read-not-9, read-8, read-9, first-unknown, first-not-8, first-8)
