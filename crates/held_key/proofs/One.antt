-- One outcome each. A call that makes or moves a key says all that the plain call says, and the key holds the slice that was passed.
-- The contracts of the questions and of the parts are those of the plain calls: `One.antt` of crate `key` has their laws.
-- Assumes nothing.
use Prim.Native.Nat.{ℕ}
use mathlib.Core.Path.{◌≡◌, refl, sym, ap, ◌∙◌}
use mathlib.Core.Bool.{Bool, true, false}
use mathlib.Core.List.{List, [], ◌∷◌}
use lib.Dec.{leb}
use lib.ListN.{length}
use denote.Ref.{Bor}
use Rattle.refusal.specs.Answer.{Answer, accepted, refused, answered, ◌unless◌}
use Rattle.refusal.specs.declared.Refusal.TheVariants as no
use Rattle.key_layer.specs.Keys.{numbers_at, fits, asked, moved, new_said}
use Rattle.keys_held.specs.declared.Keyed.{Keyed}
use Rattle.keys_held.specs.Held.{keyed_of, said_keyed}

-- one answer and one slice give one key
pub keyed-one : (s : Bor (List ℕ)) (said : Answer) (a b : Keyed) → a ≡ keyed_of s said → b ≡ keyed_of s said → a ≡ b
keyed-one s said a b p q = p ∙ sym q

-- the key holds the slice that was passed: the same bytes, at the same place
pub keyed-slice : (s : Bor (List ℕ)) (said : Answer) (r : Keyed) → r ≡ keyed_of s said → r.key.bytes ≡ s
keyed-slice s said r e = ap (λ (x : Keyed). x.key.bytes) e

-- of an answer with three numbers, accepted or refused, nothing is lost
three-asked : (s : Bor (List ℕ)) (fit : Bool) (x y z i c a : ℕ)
    → let said = answered ((7 unless fit) ∷ []) (x ∷ y ∷ z ∷ []) (i ∷ c ∷ a ∷ []) in said_keyed (keyed_of s said) ≡ said
three-asked s true x y z i c a = refl
three-asked s false x y z i c a = refl

three-moved : (s : Bor (List ℕ)) (fit allowed : Bool) (x y z i c a : ℕ)
    → let said = answered ((7 unless fit) ∷ (8 unless allowed) ∷ []) (x ∷ y ∷ z ∷ []) (i ∷ c ∷ a ∷ []) in said_keyed (keyed_of s said) ≡ said
three-moved s true true x y z i c a = refl
three-moved s true false x y z i c a = refl
three-moved s false allowed x y z i c a = refl

module _ (s : Bor (List ℕ)) (i c a : ℕ) {r : Keyed} where
  -- `shift`, `shift_by` and `unshift` say what the plain moves say
  pub moved-said : (allowed : Bool) (to : ℕ) → r ≡ keyed_of s (moved s.now i c a allowed to)
      → said_keyed r ≡ moved s.now i c a allowed to
  unfolding moved numbers_at
  moved-said allowed to e =
      ap said_keyed e ∙ three-moved s (fits s.now i c a) allowed _ _ _ i c a

  -- and `unshift_all` what the plain one says
  pub back-said : r ≡ keyed_of s (asked s.now i c a (numbers_at s.now 0)) → said_keyed r ≡ asked s.now i c a (numbers_at s.now 0)
  unfolding asked numbers_at
  back-said e = ap said_keyed e ∙ three-asked s (fits s.now i c a) _ _ _ i c a

module _ (s : Bor (List ℕ)) {r : Keyed} (e : r ≡ keyed_of s (new_said s.now)) where
  -- a new key has the numbers of layer 0
  pub new-said : leb (length s.now) 256 ≡ true → said_keyed r ≡ accepted (numbers_at s.now 0)
  unfolding new_said numbers_at
  new-said h = ap said_keyed e ∙ ap (λ (t : Bool). said_keyed (keyed_of s (answered ((7 unless t) ∷ []) (numbers_at s.now 0) []))) h

  -- or, over 256 bytes, the refusal 7 and three zeros
  pub new-refused : leb (length s.now) 256 ≡ false → said_keyed r ≡ refused no.Key (0 ∷ 0 ∷ 0 ∷ [])
  unfolding new_said numbers_at
  new-refused h = ap said_keyed e ∙ ap (λ (t : Bool). said_keyed (keyed_of s (answered ((7 unless t) ∷ []) (numbers_at s.now 0) []))) h
