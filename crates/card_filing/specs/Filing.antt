-- A byte of a stream taken, and the entry that it makes whole put into the index.
use Rattle.std.specs.Prelude.{ℕ, ◌-◌, cond, List, take}
use Rattle.arena.specs.Memory.{Memory, Did, did}
use Rattle.card_fields.specs.declared.Fields.{Fields}
use Rattle.card_fields.specs.Step.{State, step}
use Rattle.model.specs.Calls.{put_lent}
use Rattle.index_put.specs.Answers.{said_added}
use Rattle.map_loads.specs.Loads.{and_put}
use Rattle.card_filing.specs.declared.Filing.{Filing}

-- the machine, and the index with the answer so far
abbrev pub Both : Type 0
Both = State × Did

-- the entry that has just become whole, put; its key is the last key
unfoldable pub entered : List ℕ → Fields → Did → Did
entered key t d = cond t.got (and_put put_lent d (take (t.last - 1) key, t.frame)) d

-- one byte
unfoldable pub step_putting : Both → ℕ → Both
step_putting p byte = (step p.0 byte, entered (step p.0 byte).1 (step p.0 byte).2 p.1)

-- as lent slices and a struct have it
abbrev pub both : List ℕ → List ℕ → Filing → Memory → Both
both field key s m = ((field, key, s.fields), did (said_added s.added) m)
