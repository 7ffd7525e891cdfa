-- What the machine's memory means: where the machine of lists stands.
use Rattle.std.specs.Prelude.{ℕ, ◌-◌, ◌<◌, ◌≡◌, false, cond, List, [], ◌∷◌, ◌++◌, eqb, take}
use Rattle.std.proofs.Math.Option.{Option, none, some}
use Rattle.order.specs.Map.{Map}
use Rattle.card_stream.specs.Fields.{counting, measuring, naming, framing, filling, Stand, stopped, reading}
use Rattle.card_fields.specs.declared.Fields.{Fields}
use Rattle.card_fields.specs.declared.Stage.{Stage}
use Rattle.card_fields.specs.declared.Stage.TheVariants.{Counting, Measuring, Naming, Framing, Filling, Stopped}
use Rattle.card_fields.specs.Step.{State, step}

-- the last key, if there is one
unfoldable pub last_of : List ℕ → ℕ → Option (List ℕ)
last_of key last = cond (eqb last 0) none (some (take (last - 1) key))

-- where it stands, with the entries so far
unfoldable pub stand_at : Stage → List ℕ → List ℕ → Fields → Map → Stand
stand_at Counting field key s entries = reading counting s.place (take s.held field) entries
stand_at Measuring field key s entries = reading (measuring s.left (last_of key s.last)) s.place (take s.held field) entries
stand_at Naming field key s entries = reading (naming s.left (last_of key s.last) s.need) s.place (take s.held field) entries
stand_at Framing field key s entries = reading (framing s.left (take (s.last - 1) key)) s.place (take s.held field) entries
stand_at Filling field key s entries = reading (filling s.zeros) s.place (take s.held field) entries
stand_at Stopped field key s entries = stopped s.place

-- the same by its own stage
abbrev pub stand_of : State → Map → Stand
stand_of t entries = stand_at t.2.stage t.0 t.1 t.2 entries

-- the entries, with the one that has just become whole
unfoldable pub gained : State → Map → Map
gained t entries = cond t.2.got (entries ++ (take (t.2.last - 1) t.1, t.2.frame) ∷ []) entries

-- a byte taken, and an entry kept once it is whole
abbrev pub step_keeping : State × Map → ℕ → State × Map
step_keeping p byte = (step p.0 byte, gained (step p.0 byte) p.1)

-- the sizes of fields
abbrev pub SizeAt : Stage → Fields → Type 0
SizeAt Counting s = (s.need ≡ 4) × (s.held < s.need)
SizeAt Measuring s = (s.need ≡ 2) × (s.held < s.need)
SizeAt Naming s = s.held < s.need
SizeAt Framing s = (s.need ≡ 8) × (s.held < s.need) × (0 < s.last)
SizeAt Filling s = (s.need ≡ 1) × (s.held < s.need)
SizeAt Stopped s = (s.need ≡ 0) × (s.got ≡ false)
