-- What each answer of reading an image says, by number, and what is known on the way.
use Rattle.std.specs.Prelude.{ℕ, cond, List, [], ◌∷◌, length}
use Rattle.refusal.specs.Answer.{Answer, accepted, refused, refused_telling}
use Rattle.refusal.specs.declared.Refusal.TheVariants as no
use Rattle.lent_words.specs.Parts.{zeros}
use Rattle.arena.specs.Memory.{Memory, Did, did, right_lengths}
use Rattle.index_put.specs.Answers.{too_few_nodes}
use Rattle.map_loads.specs.Loads.{empty_of}
use Rattle.card_stream.specs.Cuts.{arrived}
use Rattle.card_stream.specs.Parse.{Parsed, wrong, right}
use Rattle.card_said.specs.Load.{whole_blocks, blocks_in, bad_block, checks_good, read}
use Rattle.card_fields.specs.Step.{at_first}
use Rattle.card_filing.specs.Filing.{step_putting}
use Rattle.card_load.specs.declared.Loaded.{Loaded}
use Rattle.card_load.specs.declared.Loaded.TheVariants as loaded-is
use Rattle.card_load.specs.declared.inside.Exam.{Exam}
use Rattle.card_load.specs.declared.inside.Exam.TheVariants.{Good, Bad}

-- what reading answers: 0 and the number of entries, or the number of a refusal and what it tells
abbrev pub said_loaded : Loaded → Answer
said_loaded (loaded-is.Entries n) = accepted (n ∷ [])
said_loaded (loaded-is.Refused why) = refused why []
said_loaded (loaded-is.TooFewNodes lacking) = too_few_nodes lacking
said_loaded loaded-is.Length = refused_telling 15 [] []
said_loaded (loaded-is.Check block) = refused_telling 16 (block ∷ []) []
said_loaded (loaded-is.Stream place) = refused_telling 17 (place ∷ []) []

-- ---- before the index is touched

-- by the stream: the answer where it is wrong, else the number of blocks
abbrev pub exam_stream : ℕ → Parsed → Exam
exam_stream n (wrong place) = Bad (loaded-is.Stream place)
exam_stream n (right entries) = Good n

-- by the lent lengths, the length of the image, its checks and its stream
unfoldable pub examined : ℕ → ℕ → ℕ → List ℕ → Exam
examined nodes cells bytes image =
    cond (right_lengths nodes cells bytes)
    (cond (whole_blocks (length image))
    (cond (checks_good image) (exam_stream (blocks_in image) (read image)) (Bad (loaded-is.Check (bad_block image))))
    (Bad loaded-is.Length))
    (Bad (loaded-is.Refused no.Memory))

-- ---- behind that

-- a clear, and the entries of a stream put as they become whole; before the first of them, nothing is said to rest
unfoldable pub filled : Memory → List ℕ → Did
filled m bytes = (arrived step_putting ((zeros 256, zeros 256, at_first), did (accepted (0 ∷ [])) (empty_of m)) bytes).1
