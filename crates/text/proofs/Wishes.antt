-- What a line of one, two and three fields asks for. Assumes nothing.
use Prim.Native.Nat.{ℕ}
use mathlib.Core.Path.{◌≡◌, refl, sym, ◌∙◌}
use mathlib.Core.Bool.{Bool, true, false, not, cond}
use mathlib.Core.List.{List, [], ◌∷◌}
use native.Mathlib.Omega.{arith}
use lib.ListN.{length}
use borrow.Author.Tests.{not-true, not-false}
use Rattle.std.specs.Prelude.{Option, Some, None}
use Rattle.arena.specs.Parts.{put_part}
use Rattle.text.specs.declared.inside.Line.TheVariants as line-is
use Rattle.text.specs.Fields.{same, is_key, key_in, is_frame, number_in}
use Rattle.text.specs.Command.{read_fields, framed, keyed, Heard, put_word, find_word, del_word, list_word, heard, taken, frame_if}

module _ (d w : List ℕ) {r : Bool} (e : r ≡ same w list_word) where
  pub is-list : r ≡ true → heard line-is.List d ≡ taken (read_fields (w ∷ [])) d
  unfolding read_fields put_part
  is-list t = rw (← e, t)

  pub not-list : r ≡ false → heard line-is.Bad d ≡ taken (read_fields (w ∷ [])) d
  unfolding read_fields put_part
  not-list t = rw (← e, t)

pub key_right : (f : List ℕ) {k : Bool} → k ≡ is_key f → not k ≡ false → is_key f ≡ true
key_right f {k} e n = sym e ∙ not-false k n

module _ (d w f : List ℕ) {k : Bool} (ek : k ≡ is_key f) where
  pub not_key : not k ≡ true → heard line-is.Bad d ≡ taken (read_fields (w ∷ f ∷ [])) d
  unfolding read_fields put_part
  not_key n = rw (← ek, not-true k n)

  module _ (n : not k ≡ false) {r : Bool} (e : r ≡ same w find_word) where
    pub is-find : {n : ℕ} {d' : List ℕ} → r ≡ true → n ≡ length (key_in f) → d' ≡ put_part d 0 (key_in f)
        → heard (line-is.Find n) d' ≡ taken (read_fields (w ∷ f ∷ [])) d
    unfolding read_fields keyed
    is-find t l b = rw (← ek, not-false k n, ← e, t, l, b)

    module _ (t : r ≡ false) {q : Bool} (g : q ≡ same w del_word) where
      pub is-del : {n : ℕ} {d' : List ℕ} → q ≡ true → n ≡ length (key_in f) → d' ≡ put_part d 0 (key_in f)
          → heard (line-is.Del n) d' ≡ taken (read_fields (w ∷ f ∷ [])) d
      unfolding read_fields keyed
      is-del u l b = rw (← ek, not-false k n, ← e, t, ← g, u, l, b)

      pub neither : q ≡ false → heard line-is.Bad d ≡ taken (read_fields (w ∷ f ∷ [])) d
      unfolding read_fields keyed put_part
      neither u = rw (← ek, not-false k n, ← e, t, ← g, u)

-- a field that is a frame number, or is not
frame_step : (t : Bool) {m n : ℕ} → Some n ≡ cond t (Some m) None → (t ≡ true) × (n ≡ m)
frame_step true f = (refl, cc f)
frame_step false f = let z : ◌≡◌ {A = ℕ} 0 1 = cc in absurd (omega arith)

none-step : (t : Bool) (m : ℕ) → None ≡ cond t (Some m) None → t ≡ false
none-step true m f = let z : ◌≡◌ {A = ℕ} 0 1 = cc in absurd (omega arith)
none-step false m f = refl

module _ (d k l : List ℕ) {x : Option ℕ} (ex : x ≡ frame_if (is_frame l) l) where
  pub is_framed : {n frame : ℕ} {d' : List ℕ} → x ≡ Some frame → n ≡ length k → d' ≡ put_part d 0 k
      → heard (line-is.Put n frame) d' ≡ taken (framed k l) d
  unfolding framed
  is_framed t len b = let g = frame_step (is_frame l) (sym t ∙ ex) in rw (g.0, ← g.1, len, b)

  pub not-framed : x ≡ None → heard line-is.Bad d ≡ taken (framed k l) d
  unfolding framed put_part
  not-framed t = rw (none-step (is_frame l) (number_in l) (sym t ∙ ex))

module _ (d w f l : List ℕ) {r : Bool} (e : r ≡ same w put_word) where
  pub not-put : not r ≡ true → heard line-is.Bad d ≡ taken (read_fields (w ∷ f ∷ l ∷ [])) d
  unfolding read_fields put_part
  not-put n = rw (← e, not-true r n)

  module _ (n : not r ≡ false) {k : Bool} (ek : k ≡ is_key f) where
    pub no_key : not k ≡ true → heard line-is.Bad d ≡ taken (read_fields (w ∷ f ∷ l ∷ [])) d
    unfolding read_fields put_part
    no_key m = rw (← e, not-false r n, ← ek, not-true k m)

    pub is-put : {x : Heard} → not k ≡ false → x ≡ taken (framed (key_in f) l) d → x ≡ taken (read_fields (w ∷ f ∷ l ∷ [])) d
    unfolding read_fields
    is-put m t = rw (← e, not-false r n, ← ek, not-false k m) t
