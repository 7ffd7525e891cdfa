-- A refusal's number and a part of the caller's bytes, asked for one after the other, are one answer: 0 and the part, or 7 and the empty
-- part. Assumes nothing.
use Prim.Native.Nat.{ℕ}
use mathlib.Core.Path.{◌≡◌, refl, ap₂, ◌∙◌}
use mathlib.Core.Bool.{Bool, true, false, cond}
use mathlib.Core.List.{List, [], ◌∷◌}
use lib.ListN.{length, drop}
use denote.Ref.{Bor}
use Rattle.refusal.specs.Answer.{Answer, answered, ◌unless◌}
use Rattle.key_layer.specs.Keys.{fits, asked, suffix_from, data_from, IsTail}
use Rattle.key.specs.Parts.{suffix_said, data_said, IsSuffix, IsData}

-- nothing is left behind the end
drop_all : (bytes : List ℕ) → drop (length bytes) bytes ≡ []
drop_all [] = refl
drop_all (b ∷ bytes) = drop_all bytes

-- a number beside bytes
abbrev beside : ℕ → List ℕ → Answer
beside n bytes = record { number = n; values = bytes }

-- the part from `start` on, or the empty one, beside its number
both : (t : Bool) (start : ℕ) (bytes back : List ℕ)
    → beside (answered ((7 unless t) ∷ []) [] back).number (drop (cond t start (length bytes)) bytes)
    ≡ answered ((7 unless t) ∷ []) (drop start bytes) []
both true start bytes back = refl
both false start bytes back = ap₂ beside refl (drop_all bytes)

module _ (s : Bor (List ℕ)) (i c a n : ℕ) (p : Bor (List ℕ)) (e : n ≡ (asked s.now i c a []).number) where
  pub suffix-told : IsTail s (suffix_from s.now i c a) p → IsSuffix s i c a (record { refusal = n; bytes = p })
  unfolding asked suffix_from suffix_said
  suffix-told tail = (ap₂ beside e tail.0 ∙ both (fits s.now i c a) a s.now (i ∷ c ∷ a ∷ []), tail.1)

  pub data-told : IsTail s (data_from s.now i c a) p → IsData s i c a (record { refusal = n; bytes = p })
  unfolding asked data_from data_said
  data-told tail = (ap₂ beside e tail.0 ∙ both (fits s.now i c a) 0 s.now (i ∷ c ∷ a ∷ []), tail.1)
