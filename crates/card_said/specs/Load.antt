-- What reading an image answers, and leaves in lent memory.
use Rattle.std.specs.Prelude.{ℕ, ◌/◌, ◌%◌, ◌≡◌, ◌⊎◌, Bool, true, false, cond, not, ◌&&◌, List, [], ◌∷◌, ◌++◌, eqb, ltb, length}
use Rattle.refusal.specs.Answer.{Answer, Rule, ◌unless◌, ◌telling◌, accepted, answered, all_hold}
use Rattle.order.specs.Map.{Map}
use Rattle.arena.specs.Memory.{Memory, Did, did, right_lengths}
use Rattle.model.specs.Calls.{put_done}
use Rattle.card_stream.specs.Stream.{Writable}
use Rattle.card_stream.specs.Image.{image_of}
use Rattle.card_stream.specs.Parse.{Parsed, wrong, right, parse}
use Rattle.card_stream.specs.Payload.{payload, first_bad}
use Rattle.map_loads.specs.Loads.{puts_after, empty_of, loaded, NoRoom}

-- ---- an image, judged by itself

-- its length is a positive multiple of 512
unfoldable pub whole_blocks : ℕ → Bool
whole_blocks n = ltb 0 n && eqb (n % 512) 0

-- how many blocks it has
abbrev pub blocks_in : List ℕ → ℕ
blocks_in image = length image / 512

-- the first block with a bad check, or the number of blocks
abbrev pub bad_block : List ℕ → ℕ
bad_block image = first_bad 0 (blocks_in image) image

-- every block has a good check
abbrev pub checks_good : List ℕ → Bool
checks_good image = eqb (bad_block image) (blocks_in image)

-- what the stream in its blocks comes to
abbrev pub read : List ℕ → Parsed
read image = parse (payload (blocks_in image) image)

-- the stream is as written
abbrev pub as_written : Parsed → Bool
as_written (wrong place) = false
as_written (right entries) = true

-- the place in the stream where the first wrong part starts
abbrev pub wrong_at : Parsed → ℕ
wrong_at (wrong place) = place
wrong_at (right entries) = 0

-- the entries of a stream that is as written
abbrev pub entries_of : Parsed → Map
entries_of (wrong place) = []
entries_of (right entries) = entries

-- ---- reading it

-- what is asked before the index is touched: 10 unless lent lengths are right, 15 unless the image is a positive multiple of 512 bytes
-- long, 16 unless every check is good, with the first block whose check is not, 17 unless the stream is as written, with the place where
-- the first wrong part starts
abbrev pub image_rules : Memory → List ℕ → List Rule
image_rules m image =
    (10 unless right_lengths (length m.nodes) (length m.cells) (length m.bytes))
    ∷ (15 unless whole_blocks (length image))
    ∷ ((16 unless checks_good image) telling (bad_block image ∷ []))
    ∷ ((17 unless as_written (read image)) telling (wrong_at (read image) ∷ []))
    ∷ []

-- what reading answers, and the memory that it leaves: where one of these is refused, all memory as it was; else that of a clear and a
-- put of each entry in order
unfoldable pub load_done : Memory → List ℕ → Did
load_done m image =
    cond (all_hold (image_rules m image)) (loaded m (entries_of (read image))) (did (answered (image_rules m image) [] []) m)

-- ---- all its refusals

-- what the puts answer, after a clear: that of the first that is refused
abbrev pub puts_said : Memory → List ℕ → Answer
puts_said m image = (puts_after put_done (did (accepted []) (empty_of m)) (entries_of (read image))).answer

-- those before the index is touched, then 13 where the first failing put says so, and 14 likewise, with the number that it tells
abbrev pub load_rules : Memory → List ℕ → List Rule
load_rules m image =
    image_rules m image
    ++ ((13 unless not (eqb (puts_said m image).number 13))
    ∷ ((14 unless not (eqb (puts_said m image).number 14)) telling (puts_said m image).values)
    ∷ [])

-- an image that was written: that of entries that an index can hold, in key order
pub record WasWritten (image : List ℕ) : Type 0 where
  pub entries : Map
  pub writable : Writable entries
  pub image-of : image ≡ image_of entries

-- reading an image came to its entries: it is accepted, or there is no room for one of them
abbrev pub ReachesEntries : Did → Type 0
ReachesEntries d = (d.answer.number ≡ 0) ⊎ NoRoom d.answer
