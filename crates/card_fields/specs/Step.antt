-- One byte of a stream taken: the field's bytes stand in a lent field of 256 bytes, the last key in a lent key.
use Rattle.std.specs.Prelude.{ℕ, ◌+◌, ◌-◌, Bool, true, false, cond, List, eqb, leb, ltb, take, set, get_or}
use Rattle.order.specs.Bytes.{bytewise}
use Rattle.order.specs.Map.{pick}
use Rattle.lent_words.specs.Parts.{part, put_part}
use Rattle.card_block.specs.Words.{little_endian}
use Rattle.card_stream.specs.Stream.{lacking}
use Rattle.card_fields.specs.declared.Fields.{Fields}
use Rattle.card_fields.specs.declared.Stage.{Stage}
use Rattle.card_fields.specs.declared.Stage.TheVariants.{Counting, Measuring, Naming, Framing, Filling, Stopped}

-- the first byte of a field is to come
abbrev pub begin : Stage → ℕ → ℕ → ℕ → ℕ → ℕ → Fields
begin stage place need left zeros last =
    record { stage = stage; place = place; held = 0; need = need; left = left; zeros = zeros; last = last; got = false; frame = 0 }

-- before the first byte: the number of entries is to come
abbrev pub at_first : Fields
at_first = begin Counting 0 4 0 0 0

-- a wrong part starts at a place
abbrev pub halt : ℕ → Fields
halt place = begin Stopped place 0 0 0 0

-- n entries are to come at a place, or the fill is
unfoldable pub comes : ℕ → ℕ → ℕ → Fields
comes n place last = cond (eqb n 0) (begin Filling place 1 0 (lacking place) last) (begin Measuring place 2 (n - 1) 0 last)

-- an entry has become whole
abbrev pub giving : Fields → ℕ → Fields
giving s frame =
    record {
      stage = s.stage;
      place = s.place;
      held = s.held;
      need = s.need;
      left = s.left;
      zeros = s.zeros;
      last = s.last;
      got = true;
      frame = frame;
    }

-- a name is above the last key, if there is one; `last` is that key's length and one, or 0
unfoldable pub above_last : List ℕ → ℕ → List ℕ → Bool
above_last key last name = cond (eqb last 0) true (pick (bytewise (take (last - 1) key) name) true false false)

-- a key of len bytes has come: it takes the place of the last one
unfoldable pub names : List ℕ → List ℕ → ℕ → ℕ → ℕ → ℕ → List ℕ × Fields
names field key left last place len =
    cond (above_last key last (take len field))
    (put_part key 0 (part field 0 len), begin Framing (place + len) 8 left 0 (len + 1))
    (key, halt place)

-- the number of entries has come
unfoldable pub counts : ℕ → ℕ → Fields
counts n place = cond (leb n 255) (comes n (place + 4) 0) (halt place)

-- the length of a key has come
unfoldable pub measures : List ℕ → List ℕ → ℕ → ℕ → ℕ → ℕ → List ℕ × Fields
measures field key left last place len =
    cond (leb len 256)
    (cond (eqb len 0) (names field key left last (place + 2) 0) (key, begin Naming (place + 2) len left 0 last))
    (key, halt place)

-- a byte of the fill has come
unfoldable pub fills : ℕ → ℕ → ℕ → ℕ → Fields
fills byte place zeros last =
    cond (eqb byte 0) (cond (eqb zeros 0) (halt place) (begin Filling (place + 1) 1 0 (zeros - 1) last)) (halt place)

-- a field is whole
unfoldable pub whole_of : Stage → List ℕ → List ℕ → Fields → List ℕ × Fields
whole_of Counting field key s = (key, counts (little_endian 4 field) s.place)
whole_of Measuring field key s = measures field key s.left s.last s.place (little_endian 2 field)
whole_of Naming field key s = names field key s.left s.last s.place s.need
whole_of Framing field key s = (key, giving (comes s.left (s.place + 8) s.last) (little_endian 8 field))
whole_of Filling field key s = (key, fills (get_or field 0 0) s.place s.zeros s.last)
whole_of Stopped field key s = (key, s)

-- a field goes on
abbrev pub goes_on : Fields → Fields
goes_on s =
    record {
      stage = s.stage;
      place = s.place;
      held = s.held + 1;
      need = s.need;
      left = s.left;
      zeros = s.zeros;
      last = s.last;
      got = false;
      frame = 0;
    }

-- the lent field, the lent key and where the machine stands
abbrev pub State : Type 0
State = List ℕ × List ℕ × Fields

-- behind a whole field
abbrev pub behind : List ℕ → List ℕ × Fields → State
behind field p = (field, p.0, p.1)

-- one byte more
unfoldable pub step : State → ℕ → State
step t byte =
    cond (eqb t.2.need 0) t
    (cond (ltb (t.2.held + 1) t.2.need)
    (set t.0 t.2.held byte, t.1, goes_on t.2)
    (behind (set t.0 t.2.held byte) (whole_of t.2.stage (set t.0 t.2.held byte) t.1 t.2)))
