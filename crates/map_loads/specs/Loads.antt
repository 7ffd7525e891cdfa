-- Entries put one after the other into what a clear leaves.
use Rattle.std.specs.Prelude.{ℕ, ◌≤◌, ◌≡◌, ◌⊎◌, cond, eqb, length}
use mathlib.Core.List.{List, [], ◌∷◌, ◌++◌, foldl, map}
use Rattle.refusal.specs.Answer.{Answer, accepted, refused_telling}
use Rattle.order.specs.Bytes.{Bytes}
use Rattle.order.specs.Map.{Map}
use Rattle.arena.specs.Memory.{Memory, emptied, Did, did}
use Rattle.model.specs.Calls.{nodes_of, cells_of, put_done}
use Rattle.as_map.specs.Calls.{Call, clear, put, Heard, done, refusal, heard, answers, left_after}

-- ---- one put after the other

module _ (putting : Memory → List ℕ → ℕ → Did) where
  -- one more, unless one before it was refused
  unfoldable pub and_put : Did → List ℕ × ℕ → Did
  and_put d e = cond (eqb d.answer.number 0) (putting d.after e.0 e.1) d

  -- one after the other: the first refusal is the answer, and memory is as it was then
  abbrev pub puts_after : Did → Map → Did
  puts_after d entries = foldl (and_put) d entries

-- an entry whose key is one of bytes, and not too long
pub record Fileable (e : List ℕ × ℕ) : Type 0 where
  pub bytes : Bytes e.0
  pub short : length e.0 ≤ 256

-- ---- a clear, and then the puts

-- what a clear leaves of memory of right lengths
abbrev pub empty_of : Memory → Memory
empty_of m = emptied (nodes_of m) (cells_of m)

-- all n were put; or the first refusal, and memory is what a clear leaves
abbrev pub settled : Memory → ℕ → Did → Did
settled empty n d = cond (eqb d.answer.number 0) (did (accepted (n ∷ [])) d.after) (did d.answer empty)

-- a clear, and then a put of each entry in order: it tells the number of entries; where a put is refused, its refusal, and memory is what
-- a clear leaves
unfoldable pub loaded : Memory → Map → Did
loaded m entries = settled (empty_of m) (length entries) (puts_after put_done (did (accepted []) (empty_of m)) entries)

-- a put for each entry
abbrev pub puts_of : Map → List Call
puts_of entries = map (λ e. put e.0 e.1) entries

-- the calls that this counts as: a clear and the puts
abbrev pub as_calls : Map → List Call
as_calls entries = clear ∷ puts_of entries

-- no room for a put: 13, or 14 with the number of nodes lacking
abbrev pub NoRoom : Answer → Type 0
NoRoom a = (a ≡ refused_telling 13 [] []) ⊎ ((n : ℕ) × (a ≡ refused_telling 14 (n ∷ []) []))

-- each of these calls is heard as done
abbrev pub done_each : List Call → List Heard
done_each calls = map (λ call. done) calls

-- one of the puts fails first: those before it are all done, behind a clear or without, and it hears this
pub record FailsFirst (m : Memory) (calls : Map → List Call) (entries : Map) (heard-then : Heard) : Type 0 where
  pub before : Map
  pub failing : List ℕ × ℕ
  pub behind : Map
  pub split : entries ≡ before ++ (failing ∷ behind)
  pub all_done : answers m (calls before) ≡ done_each (calls before)
  pub fails : heard (left_after m (calls before)) (put failing.0 failing.1) ≡ heard-then

-- what a caller hears of a refusal
abbrev pub heard_as : Answer → Heard
heard_as a = refusal a.number a.values
