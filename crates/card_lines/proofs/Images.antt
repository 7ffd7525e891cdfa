-- The image of an index stands within the lent bytes. Assumes nothing.
use Prim.Native.Nat.{ℕ, ◌*◌, ◌≤◌}
use mathlib.Core.Path.{◌≡◌, refl, ap, sym, ◌∙◌}
use mathlib.Core.Bool.{Bool, true, false}
use mathlib.Core.List.{List, [], ◌∷◌}
use native.Mathlib.Omega.{arith}
use lib.Dec.{leb}
use lib.ListN.{length, get_or}
use borrow.Author.Tests.{leb-true}
use Rattle.refusal.specs.declared.Refusal.{Refusal}
use Rattle.refusal.specs.Answer.{Answer}
use Rattle.arena.specs.Memory.{Memory}
use Rattle.forest.specs.Walk.{is_tree}
use Rattle.text.proofs.Keys.{decide}
use Rattle.card_stream.specs.Image.{blocks_for}
use Rattle.card_said.specs.Save.{entries_in, save_said, save_done}
use Rattle.card_save.specs.declared.Saved.{Saved}
use Rattle.card_save.specs.declared.Saved.TheVariants as saved-is
use Rattle.card_save.specs.Answers.{said_saved}
use Rattle.card_lines.specs.Printed.{Imaged}
use Rattle.card_lines.proofs.Prints.{front_of}

-- the number of blocks that saving tells, 0 where it is refused
abbrev told : Answer → ℕ
told a = get_or a.values 0 0

-- there is room for as many blocks as saving tells
room : (m : Memory) (lent : List ℕ) → 512 * told (save_said m lent) ≤ length lent
room m lent =
    decide (is_tree m)
    (λ t.
    decide (leb (512 * blocks_for (entries_in m)) (length lent))
    (λ l. rw (t, l) (leb-true _ _ l))
    (λ l. rw (t, l) (omega arith)))
    (λ t. rw t (omega arith))

module _ (m : Memory) (lent : List ℕ) {after : List ℕ} (x : Saved) (e : (after, said_saved x) ≡ save_done m lent) where
  bytes_left : after ≡ (save_done m lent).0
  bytes_left = ap (λ (p : List ℕ × Answer). p.0) e

  answer-is : said_saved x ≡ save_said m lent
  unfolding save_done
  answer-is = ap (λ (p : List ℕ × Answer). p.1) e

  imaged : {n : ℕ} → length after ≡ length lent → n ≡ told (said_saved x) → Imaged m lent n after
  imaged {n} l h =
      let k = h ∙ ap told answer-is in
      record { bytes-are = bytes_left; blocks-are = k; front = front_of (rw (l, k) (room m lent)) }

  pub image-blocks : {n : ℕ} → length after ≡ length lent → x ≡ saved-is.Blocks n → Imaged m lent n after
  image-blocks l d = imaged l (sym (ap (λ (y : Saved). told (said_saved y)) d))

  pub image-short : length after ≡ length lent → x ≡ saved-is.Short → Imaged m lent 0 after
  image-short l d = imaged l (sym (ap (λ (y : Saved). told (said_saved y)) d))

  pub image-none : {why : Refusal} → length after ≡ length lent → x ≡ saved-is.Refused why → Imaged m lent 0 after
  image-none l d = imaged l (sym (ap (λ (y : Saved). told (said_saved y)) d))
