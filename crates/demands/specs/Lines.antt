-- Lines in, lines out: what the program prints for a line is what a sorted map says, and the lines of its input are carried out in order,
-- each once, in whatever parts the input comes.
--
-- `printed m command` is what the answer to a line is proved to be, to the byte, and `left m command` the memory that it leaves
-- (crates/lines_said/specs/Said.antt); `read line` is the command of a line (crates/text/specs/Command.antt), `heard m call` what the
-- caller of the index hears. What reaches a file no contract can say; that is compared.
use Rattle.std.specs.Prelude.{ℕ, ◌+◌, ◌≤◌, ◌≡◌, refl, true, List, [], ◌++◌, length, take}
use Rattle.arena.specs.Memory.{Memory}
use Rattle.forest.specs.IsTree.{Layers, IsTree, listing}
use Rattle.as_map.specs.Calls as calls
use Rattle.as_map.specs.Calls.{heard}
use Rattle.text.specs.Command.{put, find, del, list, bad}
use Rattle.line_input.specs.Input.{lines_of, in_one, unless_empty}
use Rattle.lines_said.specs.Said.{printed, left}
use Rattle.lines_as_map.specs.Text.{map_text, shown}
use Rattle.page.specs.Shown.{bad_line}
use Rattle.lines_as_map.proofs.Prints as prints
use Rattle.lines_parts.specs.Parts.{left_by, PartDone, PartsDone}
use Rattle.lines_parts.proofs.Inputs as inputs

-- On any lent memory that is a tree, `list` prints the map: how many entries there are, then a line `KEY FRAME` for each, in key order. It
-- changes nothing.
pub list-prints-the-map : (m : Memory) (v : Layers) → IsTree m v → (printed m list ≡ map_text (listing m v)) × (left m list ≡ m)
list-prints-the-map m v t = (prints.list-prints m v t, prints.list-leaves m)

-- Every other command prints what the caller of the index hears, `ok`, the frame number or `refused N`, and leaves what the call leaves.
pub put-is-the-call : (m : Memory) (key : List ℕ) (x : ℕ)
    → (printed m (put key x) ≡ shown (heard m (calls.put key x))) × (left m (put key x) ≡ calls.left m (calls.put key x))
put-is-the-call m key x = (prints.put-prints m key x, prints.put-leaves m key x)

-- `find`,
pub find-is-the-call : (m : Memory) (key : List ℕ)
    → (printed m (find key) ≡ shown (heard m (calls.find key))) × (left m (find key) ≡ calls.left m (calls.find key))
find-is-the-call m key = (prints.find-prints m key, prints.find-leaves m key)

-- and `del`, which is the call remove.
pub del-is-the-call : (m : Memory) (key : List ℕ)
    → (printed m (del key) ≡ shown (heard m (calls.remove key))) × (left m (del key) ≡ calls.left m (calls.remove key))
del-is-the-call m key = (prints.del-prints m key, prints.del-leaves m key)

-- Any other line prints `bad line` and changes nothing.
pub bad-line : (m : Memory) → (printed m bad ≡ bad_line) × (left m bad ≡ m)
unfolding printed left
bad-line m = (refl, refl)

-- ---- the whole input
--
-- `PartDone` is what the program's loop promises of one part of the input (crates/each_line/src/inside.rt), `PartsDone` one part after
-- another in which no write failed; `held` is what is kept of a line that has not ended, and is answered when the input ends.

-- However the input is cut into parts, the memory in the end is what its lines leave, carried out in order.
pub input-is-its-lines : {m after last : Memory} {held : List ℕ} {parts : List (List ℕ)} {n : ℕ} → PartsDone m [] parts n after held
    → last ≡ left_by after (unless_empty held) → last ≡ left_by m (lines_of (in_one parts))
input-is-its-lines done e = inputs.all_lines done e

-- Where a write fails, the memory is what the lines up to that one leave, whatever else the input has.
pub stopped-at-a-line : {m after last : Memory} {held kept : List ℕ} {parts : List (List ℕ)} {n : ℕ} → PartsDone m [] parts n after held
    → (part : List ℕ) (k : ℕ) → PartDone after held part k true last kept → (more : List ℕ)
    → (last ≡ left_by m (take (n + k) (lines_of (in_one parts ++ (part ++ more)))))
    × (n + k ≤ length (lines_of (in_one parts ++ (part ++ more))))
stopped-at-a-line done part k failed more = inputs.first-lines done part k failed more
