-- The fields of a line by the places of its spaces. Assumes nothing.
use Prim.Native.Nat.{ℕ, ◌+◌, ◌-◌, ◌≤◌}
use mathlib.Core.Path.{◌≡◌, ap, sym, ◌∙◌}
use mathlib.Core.List.{List, [], ◌∷◌}
use native.Mathlib.Omega.{arith}
use lib.ListN.{length, take, drop, length-take, length-drop}
use lib.Seq.{take_all, length-take-le}
use borrow.Author.Tests.{le-leb, lt-leb}
use Prim.Native.Nat.{◌<◌}
use Rattle.arena.specs.Parts.{put_part}
use Rattle.text.specs.declared.inside.Line.TheVariants as line-is
use Rattle.text.specs.Split.{up_to, split}
use Rattle.text.specs.Command.{read_fields, read, Heard, heard, taken}
use Rattle.text.proofs.Splits.{split_one, split-more}

pub take_count : {n : ℕ} (s : List ℕ) → n ≤ length s → n ≡ length (take n s)
take_count {n} s h = sym (length-take-le n s h)

-- what stands behind a place, as the code has it
abbrev from : ℕ → List ℕ → List ℕ
from k s = take (length s - k) (drop k s)

from_is : (k : ℕ) (s : List ℕ) → from k s ≡ drop k s
from_is k s = take_all (length s - k) (drop k s) (rw (length-drop k s) (omega arith))

pub prefix-short : (a b : ℕ) (s : List ℕ) → length s ≤ 1200 → length (take b (from (a + 1) s)) ≤ 1200
prefix-short a b s h = rw (from_is (a + 1) s) (simp (length-take, length-drop) (omega arith))

module _ (s d : List ℕ) (a : ℕ) (ea : a ≡ length (up_to 32 s)) where
  pub one_field : {x : Heard} → a ≡ length s → x ≡ taken (read_fields (s ∷ [])) d → x ≡ taken (read_fields (split 32 s)) d
  one_field h e = e ∙ ap (λ (fs : List (List ℕ)). taken (read_fields fs) d) (sym (split_one 32 s ea h))

  module _ (na : a ≡ length s → ⊥) (b : ℕ) (eb : b ≡ length (up_to 32 (from (a + 1) s))) where
    rest-split : split 32 s ≡ take a s ∷ split 32 (from (a + 1) s)
    rest-split = rw (from_is (a + 1) s) (split-more 32 s ea na)

    pub two_fields : {x : Heard} → b ≡ length (from (a + 1) s) → x ≡ taken (read_fields (take a s ∷ from (a + 1) s ∷ [])) d
        → x ≡ taken (read_fields (split 32 s)) d
    two_fields h e =
        e
        ∙ ap (λ (fs : List (List ℕ)). taken (read_fields (take a s ∷ fs)) d) (sym (split_one 32 (from (a + 1) s) eb h))
        ∙ ap (λ (fs : List (List ℕ)). taken (read_fields fs) d) (sym rest-split)

    module _ (nb : b ≡ length (from (a + 1) s) → ⊥) (k : ℕ) (ek : k ≡ length (up_to 32 (from (b + 1) (from (a + 1) s)))) where
      last-split : split 32 s ≡ take a s ∷ take b (from (a + 1) s) ∷ split 32 (from (b + 1) (from (a + 1) s))
      last-split =
          rest-split
          ∙ ap (λ (fs : List (List ℕ)). take a s ∷ fs)
          (rw (from_is (b + 1) (from (a + 1) s)) (split-more 32 (from (a + 1) s) eb nb))

      pub three-fields : {x : Heard} → k ≡ length (from (b + 1) (from (a + 1) s))
          → x ≡ taken (read_fields (take a s ∷ take b (from (a + 1) s) ∷ from (b + 1) (from (a + 1) s) ∷ [])) d
          → x ≡ taken (read_fields (split 32 s)) d
      three-fields h e =
          e
          ∙ ap (λ (fs : List (List ℕ)). taken (read_fields (take a s ∷ take b (from (a + 1) s) ∷ fs)) d)
          (sym (split_one 32 (from (b + 1) (from (a + 1) s)) ek h))
          ∙ ap (λ (fs : List (List ℕ)). taken (read_fields fs) d) (sym last-split)

      pub more-fields : {x : Heard} → (k ≡ length (from (b + 1) (from (a + 1) s)) → ⊥) → x ≡ heard line-is.Bad d
          → x ≡ taken (read_fields (split 32 s)) d
      unfolding read_fields put_part
      more-fields h e =
          let f = last-split ∙ ap (λ (fs : List (List ℕ)). take a s ∷ take b (from (a + 1) s) ∷ fs)
          (split-more 32 (from (b + 1) (from (a + 1) s)) ek h) in
          e ∙ ap (λ (fs : List (List ℕ)). taken (read_fields fs) d) (sym f)

module _ (s d : List ℕ) where
  pub too_long : 1200 < length s → heard line-is.Bad d ≡ taken (read s) d
  unfolding read put_part
  too_long h = rw (lt-leb (length s) 1200 h)

  pub not-long : {x : Heard} → length s ≤ 1200 → x ≡ taken (read_fields (split 32 s)) d → x ≡ taken (read s) d
  unfolding read
  not-long h e = rw (le-leb (length s) 1200 h) e
