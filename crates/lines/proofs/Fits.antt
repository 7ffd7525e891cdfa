-- Lent bytes that have room for any answer, where each word of the cells is below 2^64. Assumes nothing.
use Prim.Native.Nat.{ℕ, ◌+◌, ◌^◌, ◌≤◌, ◌<◌}
use mathlib.Core.Path.{◌≡◌, refl, ap, sym, ◌∙◌}
use mathlib.Core.Bool.{true, false}
use mathlib.Core.List.{List}
use native.Mathlib.Omega.{arith}
use lib.ListN.{length, get_or, take, drop, length-append, length-drop}
use lib.Seq.{length-take-le}
use Rattle.arena.specs.Memory.{Memory}
use Rattle.forest.specs.Walk.{is_tree}
use Rattle.page.specs.Shown.{refused_line}
use Rattle.text.proofs.Keys.{decide}
use Rattle.arena.specs.Parts.{put_part}
use Rattle.text.specs.Command.{Command}
use Rattle.page.specs.Page.{Typed}
use Rattle.lines_said.specs.Said.{listed, listing}
use Rattle.lines_list.specs.Room.{Room}
use Rattle.lines.specs.Answered.{printed, Answered}
use Rattle.lines_list.proofs.Rooms.{refused-room}
use Rattle.lines.proofs.Trees.{listing-fits}

pub roomy : (m : Memory) {out : List ℕ} → ((i : ℕ) → get_or m.cells i 0 < 2 ^ 64) → 136182 ≤ length out → Room m out
unfolding listed
roomy m words h =
    record {
      short = omega arith;
      long =
          decide (is_tree m)
          (λ t. rw t (omega (arith, listing-fits m words t)))
          (λ t. rw t (omega (arith, refused-room {n = 10} {l = 136182} (omega arith) (omega arith))));
    }

-- what is printed stands within the lent bytes
typed-fits : (b text : List ℕ) {r : ℕ} {a : List ℕ} → Typed b 0 text r a → length a ≡ length b → r ≤ length b
unfolding put_part
typed-fits b text t k =
    let e = ap length t.bytes-are ∙ length-append text (drop (0 + length text) b) in
    omega (arith, length-drop (0 + length text) b, t.place_is)

module _ {m after : Memory} {w : Command} {out written : List ℕ} {r : ℕ} (a : Answered m w out r after written)
    (k : length written ≡ length out) where
  pub answer-fits : r ≤ length written
  answer-fits = omega (arith, typed-fits out (printed m w) a.prints k)

  pub answer-count : r ≡ length (take r written)
  answer-count = sym (length-take-le r written answer-fits)
