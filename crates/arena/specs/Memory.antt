-- Lent memory as a whole: its lengths, and what `clear` leaves.
use Rattle.std.specs.Prelude.{ℕ, ◌+◌, ◌-◌, ◌*◌, ◌/◌, Bool, cond, ◌&&◌, List, [], ◌∷◌, length, leb, eqb, Result, Ok, Err}
use Rattle.memory_layout.specs.Numbers.{header_words, node_words, cell_words, cell_bytes, most_lent}
use Rattle.refusal.specs.declared.Refusal.{Refusal}
use Rattle.refusal.specs.Answer.{Answer, accepted, refused, answered, ◌unless◌}
use Rattle.lent_nodes.specs.declared.inside.Leaf.{Leaf}
use Rattle.arena.specs.declared.Fit.{Fit}
use Rattle.lent_words.specs.Parts.{zeros}
use Rattle.lent_nodes.specs.Layout.{put_leaf}

-- the three lent slices
pub record Memory : Type 0 where
  pub nodes : List ℕ
  pub cells : List ℕ
  pub bytes : List ℕ

-- memory of these three slices
abbrev pub memory : List ℕ → List ℕ → List ℕ → Memory
memory nodes cells bytes = record { nodes = nodes; cells = cells; bytes = bytes }

-- N, by the length of `nodes`
abbrev pub node_count : ℕ → ℕ
node_count len = (len - header_words) / node_words

-- C, by the length of `cells`
abbrev pub cell_count : ℕ → ℕ
cell_count len = len / cell_words

-- a number from 1 to 255
abbrev pub up_to255 : ℕ → Bool
up_to255 n = leb 1 n && leb n most_lent

-- 2 + 47 N words, 2 C words and 256 C bytes, with N and C from 1 to 255
unfoldable pub right_lengths : ℕ → ℕ → ℕ → Bool
right_lengths nodes cells bytes =
    up_to255 (node_count nodes) && up_to255 (cell_count cells)
    && eqb nodes (header_words + node_count nodes * node_words) && eqb cells (cell_count cells * cell_words)
    && eqb bytes (cell_count cells * cell_bytes)

-- refusal 10 for wrong lent lengths; else N and C
unfoldable pub measured : ℕ → ℕ → ℕ → Answer
measured nodes cells bytes =
    answered ((10 unless right_lengths nodes cells bytes) ∷ []) (node_count nodes ∷ cell_count cells ∷ []) []

-- the lent lengths: 0, N and C, or the refusal's number
abbrev pub said_measured : Result Fit Refusal → Answer
said_measured (Ok fit) = accepted (fit.nodes ∷ fit.cells ∷ [])
said_measured (Err why) = refused why []

-- a leaf with no slot in use
abbrev pub empty_leaf : Leaf
empty_leaf =
    record { word = 0x0123456789ABCDE0; ikeys = zeros 15; classes = zeros 15; refs = zeros 15 }

-- root 0, node 0 an empty leaf, everything else zero
abbrev pub emptied : ℕ → ℕ → Memory
emptied n c =
    memory (put_leaf (zeros (header_words + n * node_words)) 0 empty_leaf) (zeros (c * cell_words)) (zeros (c * cell_bytes))

-- an answer, and memory behind it
pub record Did : Type 0 where
  pub answer : Answer
  pub after : Memory

-- this answer, and this memory behind it
abbrev pub did : Answer → Memory → Did
did answer after = record { answer = answer; after = after }

-- `clear` on lent memory: refusal 10 for wrong lent lengths, and then every word and byte as it was
unfoldable pub cleared : Memory → Did
cleared m =
    cond (right_lengths (length m.nodes) (length m.cells) (length m.bytes))
    (did (accepted []) (emptied (node_count (length m.nodes)) (cell_count (length m.cells))))
    (did (record { number = 10; values = [] }) m)

-- a clear: 0, or the refusal's number
abbrev pub said_cleared : Result (Unit {0}) Refusal → Answer
said_cleared (Ok _) = accepted []
said_cleared (Err why) = refused why []
