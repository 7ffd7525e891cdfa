-- What is printed of an image, and the line `N blocks`. Assumes nothing.
use Prim.Native.Nat.{ℕ, ◌+◌, ◌^◌, ◌≤◌, ◌<◌}
use mathlib.Core.Path.{◌≡◌, ap, sym, ◌∙◌}
use mathlib.Core.List.{List, ◌++◌}
use native.Mathlib.Omega.{arith}
use lib.Dec.{eqb}
use lib.ListN.{length, take, drop, length-append, length-drop}
use lib.Seq.{length-take-le}
use borrow.Author.Tests.{eq-eqb, ne_eqb}
use Rattle.refusal.specs.Answer.{Answer}
use Rattle.arena.specs.Parts.{put_part}
use Rattle.arena.specs.Memory.{Memory, Did, did}
use Rattle.arena.proofs.Words.{put-length}
use Rattle.page.specs.Page.{Typed}
use Rattle.page.specs.Shown.{decimal, refused_line}
use Rattle.page.proofs.Pages.{typed_then}
use Rattle.lines_said.specs.Said.{listed, unless_refused}
use Rattle.lines_list.proofs.Rooms.{digits-room, refused-room}
use Rattle.card_said.specs.Load.{load_done}
use Rattle.card_image.specs.Loaded.{Loaded}
use Rattle.card_image.specs.Loaded.{said_loaded}
use Rattle.card_lines.specs.Printed.{image_listed, blocks_word, blocks_line, Front, Shown}

-- ---- bytes at the front of lent ones

pub front_of : {n : ℕ} {lent : List ℕ} → n ≤ length lent → Front n lent
front_of {n} {lent} h = record { within = h; counted = sym (length-take-le n lent h) }

-- what is printed stands within the lent bytes
pub shown : {before text after : List ℕ} {r : ℕ} → length after ≡ length before → Typed before 0 text r after → Shown before text r after
unfolding put_part
shown {before} {text} {after} {r} l t =
    let e = ap length t.bytes-are ∙ length-append text (drop (0 + length text) before) in
    record { typed = t; front = front_of (omega (arith, length-drop (0 + length text) before, t.place_is)) }

-- ---- an image that is read

pub refusal-room : {n l : ℕ} → n < 2 ^ 64 → 136182 ≤ l → 0 + length (refused_line n) ≤ l
refusal-room h k = refused-room h (omega arith)

module _ (m : Memory) {after : Memory} (image : List ℕ) (x : Loaded) (e : did (said_loaded x) after ≡ load_done m image) where
  said : unless_refused (said_loaded x) (listed after) ≡ image_listed m image
  unfolding image_listed
  said = ap (λ (d : Did). unless_refused d.answer (listed d.after)) e

  pub image-refused : {n r : ℕ} {out o : List ℕ} → n ≡ (said_loaded x).number → (n ≡ 0 → ⊥) → length o ≡ length out
      → Typed out 0 (refused_line n) r o → Shown out (image_listed m image) r o
  unfolding unless_refused
  image-refused {n} k h l t = shown l (rw (← said, ← k, ne_eqb n 0 h) t)

  pub image-listed : {n r : ℕ} {out o : List ℕ} → n ≡ (said_loaded x).number → n ≡ 0 → length o ≡ length out
      → Typed out 0 (listed after) r o → Shown out (image_listed m image) r o
  unfolding unless_refused
  image-listed {n} k h l t = shown l (rw (← said, ← k, eq-eqb n 0 h) t)

-- ---- the line `N blocks`

pub decimal-room : {n l : ℕ} → n < 2 ^ 64 → 100 ≤ l → 0 + length (decimal n) ≤ l
decimal-room {n} h k = omega (arith, digits-room h)

module _ {n : ℕ} (small : n < 2 ^ 64) {out o1 : List ℕ} {r : ℕ} (room : 100 ≤ length out) (t : Typed out 0 (decimal n) r o1) where
  pub word_room : length o1 ≡ length out → r + length blocks_word ≤ length o1
  word_room l = omega (arith, digits-room small, t.place_is)

  pub blocks-typed : {r1 : ℕ} {o2 : List ℕ} → Typed o1 r blocks_word r1 o2 → Shown out (blocks_line n) r1 o2
  unfolding blocks_line
  blocks-typed u =
      let l = length-append (decimal n) blocks_word in
      let fits : 0 + length (decimal n ++ blocks_word) ≤ length out = omega (arith, digits-room small) in
      let both = typed_then (decimal n) blocks_word fits t u in
      shown (ap length both.bytes-are ∙ put-length out 0 (decimal n ++ blocks_word) fits) both
