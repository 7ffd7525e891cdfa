-- The machine over lent memory is the machine of lists. Assumes nothing.
use Prim.Native.Nat.{ℕ, zero, suc, ◌+◌, ◌-◌, ◌<◌, ◌≤◌}
use mathlib.Core.Path.{◌≡◌, refl, sym, ap, ◌∙◌}
use mathlib.Core.Bool.{Bool, true, false, cond}
use mathlib.Core.List.{List, [], ◌∷◌, ◌++◌, foldl}
use mathlib.Core.Option.{Option, none, some}
use mathlib.Core.Logic.{⊎_elim}
use native.Mathlib.Omega.{arith}
use native.Mathlib.Numerals.{add-one}
use lib.Dec.{eqb, leb, ltb}
use lib.ListN.{length, take, drop, set, get_or, length-set, take-append-drop}
use lib.Seq.{take-suc-set, length-take-le, take_at}
use borrow.Author.Tests.{lt-ltb, le-ltb, ne_eqb, ltb-true, eqb-false}
use Rattle.order.specs.Map.{Map, pick}
use Rattle.order.specs.Bytes.{bytewise}
use Rattle.lent_words.specs.Parts.{part, put_part}
use Rattle.lent_words.proofs.Words.{lt-or-ge}
use Rattle.card_block.specs.Words.{little_endian}
use Rattle.card_block.proofs.Words.{little-front}
use Rattle.card_stream.specs.Cuts.{arrived}
use Rattle.card_stream.specs.Parse.{above, parse}
use Rattle.card_stream.proofs.Bytewise.{machine-parses}
use Rattle.card_stream.specs.Fields.{Field, counting, measuring, naming, framing, filling, Stand, stopped, reading, size, or_stop, to_come}
use Rattle.card_stream.specs.Fields.{named, measured, zeroed, whole, stepped, fed, ended}
use Rattle.card_fields.specs.declared.Fields.{Fields}
use Rattle.card_fields.specs.declared.Stage.{Stage}
use Rattle.card_fields.specs.declared.Stage.TheVariants.{Counting, Measuring, Naming, Framing, Filling, Stopped}
use Rattle.card_fields.specs.Step.{at_first, begin, halt, comes, giving, goes_on, above_last, names, counts, measures, fills, whole_of}
use Rattle.card_fields.specs.Step.{State, step}
use Rattle.card_fields.specs.View.{last_of, stand_at, stand_of, gained, step_keeping, SizeAt}
use Rattle.card_fields.proofs.Small.{either, Safe, step-safe}

little-take : (n : ℕ) (l : List ℕ) → n ≤ length l → little_endian n (take n l) ≡ little_endian n l
little-take n l h = sym (little-front n (take n l) (drop n l) (length-take-le n l h)) ∙ ap (little_endian n) (take-append-drop n l)

-- the test of a key over lent bytes is the test of lists
above_view : (key : List ℕ) (last : ℕ) (name : List ℕ) → above_last key last name ≡ above (last_of key last) name
unfolding above_last last_of
above_view key last name = go (eqb last 0)
  where
    go : (b : Bool) → cond b true (pick (bytewise (take (last - 1) key) name) true false false) ≡ above
        (cond b none (some (take (last - 1) key))) name
    go true = refl
    go false = refl

pair-cond : (b : Bool) (key : List ℕ) (s t : Fields) → ◌≡◌ {A = List ℕ × Fields} (key, cond b s t) (cond b (key, s) (key, t))
pair-cond true key s t = refl
pair-cond false key s t = refl

module _ (field : List ℕ) (entries : Map) where
  -- how a key and numbers are seen
  view : List ℕ × Fields → Stand
  view p = stand_at p.1.stage field p.0 p.1 (gained (field, p.0, p.1) entries)

  stop-view : (b : Bool) (key : List ℕ) (place : ℕ) (p : List ℕ × Fields) {s : Stand} → view p ≡ s
      → view (cond b p (key, halt place)) ≡ or_stop b place s
  unfolding view stand_at
  stop-view true key place p e = e
  stop-view false key place p e = refl

  comes-view : (n place last : ℕ) (key : List ℕ) → view (key, comes n place last) ≡ to_come n place (last_of key last) entries
  unfolding view stand_at comes gained
  comes-view zero place last key = refl
  comes-view (suc n) place last key =
      let e : suc n - 1 ≡ n = omega arith in
      rw (ne_eqb (suc n) 0 (omega arith), e)

  key-view : (key : List ℕ) (left place len : ℕ) → len ≤ length field
      → view (put_part key 0 (part field 0 len), begin Framing (place + len) 8 left 0 (len + 1)) ≡ reading (framing left (take len field))
      (place + len) [] entries
  unfolding view stand_at gained put_part part
  key-view key left place len h =
      let e : len + 1 - 1 ≡ len = omega arith in
      rw (e, take_at (take len field) (drop (0 + length (take len field)) key) len (length-take-le len field h))

  names-view : (key : List ℕ) (left last place len : ℕ) → len ≤ length field
      → view (names field key left last place len) ≡ named left (last_of key last) place (take len field) entries
  unfolding names
  names-view key left last place len h =
      rw (above_view key last (take len field), length-take-le len field h)
      (stop-view (above (last_of key last) (take len field)) key place
      (put_part key 0 (part field 0 len), begin Framing (place + len) 8 left 0 (len + 1)) (key-view key left place len h))

  naming-view : (key : List ℕ) (left last place len : ℕ)
      → view (key, begin Naming place len left 0 last) ≡ reading (naming left (last_of key last) len) place [] entries
  unfolding view stand_at gained
  naming-view key left last place len = refl

  zeros-view : (key : List ℕ) (place zeros last : ℕ)
      → view (key, cond (eqb zeros 0) (halt place) (begin Filling (place + 1) 1 0 (zeros - 1) last)) ≡ zeroed zeros place entries
  unfolding view stand_at gained
  zeros-view key place zero last = refl
  zeros-view key place (suc n) last = let e : suc n - 1 ≡ n = omega arith in rw (ne_eqb (suc n) 0 (omega arith), e)

  measures-view : (key : List ℕ) (left last place len : ℕ) → length field ≡ 256
      → view (measures field key left last place len) ≡ or_stop (leb len 256) place (measured left (last_of key last) (place + 2) len entries)
  unfolding measures
  measures-view key left last place zero h = names-view key left last (place + 2) 0 (omega arith)
  measures-view key left last place (suc len) h =
      rw (ne_eqb (suc len) 0 (omega arith))
      (stop-view (leb (suc len) 256) key place (key, begin Naming (place + 2) (suc len) left 0 last)
      (naming-view key left last (place + 2) (suc len)))

  counts-view : (key : List ℕ) (n place : ℕ) → view (key, counts n place) ≡ or_stop (leb n 255) place (to_come n (place + 4) none entries)
  unfolding counts last_of
  counts-view key n place = ap view (pair-cond (leb n 255) key (comes n (place + 4) 0) (halt place))
      ∙ stop-view (leb n 255) key place (key, comes n (place + 4) 0) (comes-view n (place + 4) 0 key)

  fills-view : (key : List ℕ) (byte place zeros last : ℕ)
      → view (key, fills byte place zeros last) ≡ or_stop (eqb byte 0) place (zeroed zeros place entries)
  unfolding fills
  fills-view key byte place zeros last =
      ap view (pair-cond (eqb byte 0) key (cond (eqb zeros 0) (halt place) (begin Filling (place + 1) 1 0 (zeros - 1) last)) (halt place))
      ∙ stop-view (eqb byte 0) key place (key, cond (eqb zeros 0) (halt place) (begin Filling (place + 1) 1 0 (zeros - 1) last))
      (zeros-view key place zeros last)

  giving-view : (n place last : ℕ) (key : List ℕ) (frame : ℕ)
      → view (key, giving (comes n place last) frame) ≡ to_come n place (last_of key last) (entries ++ (take (last - 1) key, frame) ∷ [])
  unfolding view stand_at comes gained
  giving-view zero place last key frame = refl
  giving-view (suc n) place last key frame = let e : suc n - 1 ≡ n = omega arith in rw (ne_eqb (suc n) 0 (omega arith), e)

first_byte : (l : List ℕ) → little_endian 1 l ≡ get_or l 0 0
unfolding little_endian
first_byte [] = refl
first_byte (x ∷ l) = omega arith

-- the last key of an entry whose frame is read
last_some : (key : List ℕ) (last : ℕ) → 0 < last → last_of key last ≡ some (take (last - 1) key)
unfolding last_of
last_some key last h = rw (ne_eqb last 0 (omega arith))

-- the field that a stage is
abbrev field_at : Stage → List ℕ → Fields → Field
field_at Counting key s = counting
field_at Measuring key s = measuring s.left (last_of key s.last)
field_at Naming key s = naming s.left (last_of key s.last) s.need
field_at Framing key s = framing s.left (take (s.last - 1) key)
field_at Filling key s = filling s.zeros
field_at Stopped key s = filling 0

-- a stage at which a field is read
abbrev Goes : Stage → Type 0
Goes Counting = Unit
Goes Measuring = Unit
Goes Naming = Unit
Goes Framing = Unit
Goes Filling = Unit
Goes Stopped = ⊥

-- a whole field is judged alike
whole-view : (stage : Stage) (field key : List ℕ) (s : Fields) (entries : Map) → length field ≡ 256 → s.need ≤ 256 → SizeAt stage s
    → Goes stage
    → view field entries (whole_of stage field key s) ≡ whole (field_at stage key s) s.place (take s.need field) entries
unfolding whole_of whole
whole-view Counting field key s entries h k (e, l) n =
    rw (e, little-take 4 field (omega arith)) (counts-view field entries key (little_endian 4 field) s.place)
whole-view Measuring field key s entries h k (e, l) n =
    rw (e, little-take 2 field (omega arith)) (measures-view field entries key s.left s.last s.place (little_endian 2 field) h)
whole-view Naming field key s entries h k l n = names-view field entries key s.left s.last s.place s.need (omega arith)
whole-view Framing field key s entries h k (e, l, m) n =
    rw (e, little-take 8 field (omega arith)) (giving-view field entries s.left (s.place + 8) s.last key (little_endian 8 field)
    ∙ ap (λ (o : Option (List ℕ)). to_come s.left (s.place + 8) o (entries ++ (take (s.last - 1) key, little_endian 8 field) ∷ []))
    (last_some key s.last m))
whole-view Filling field key s entries h k (e, l) n =
    rw (e, little-take 1 field (omega arith), first_byte field)
    (fills-view field entries key (get_or field 0 0) s.place s.zeros s.last)
whole-view Stopped field key s entries h k l n = absurd n

-- one more byte in front of where it was stored
held_more : (field : List ℕ) (held byte : ℕ) → held < length field → take (held + 1) (set field held byte) ≡ take held field ++ byte ∷ []
held_more field held byte h = rw (add-one held) (take-suc-set field held byte h)

-- a byte of a field, for a machine that has not stopped
running : (f : Field) (field key : List ℕ) (s : Fields) (byte : ℕ) (entries : Map) → size f ≡ s.need → s.held < s.need → s.need ≤ 256
    → length field ≡ 256
    → stand_at s.stage (set field s.held byte) key (goes_on s) entries ≡ reading f s.place
    (take (s.held + 1) (set field s.held byte)) entries
    → view (set field s.held byte) entries (whole_of s.stage (set field s.held byte) key s) ≡ whole f s.place
    (take s.need (set field s.held byte)) entries
    → stand_of (step (field, key, s) byte) (gained (step (field, key, s) byte) entries) ≡ stepped
    (reading f s.place (take s.held field) entries) byte
unfolding step stepped gained view
running f field key s byte entries e h k l on wh =
    let m : length (take s.held field) ≡ s.held = length-take-le s.held field (omega arith) in
    let t : take (s.held + 1) (set field s.held byte) ≡ take s.held field ++ byte ∷ [] =
    held_more field s.held byte (omega arith) in
    ⊎_elim
    (λ d.
    rw (ne_eqb s.need 0 (omega arith), m, e, lt-ltb (s.held + 1) s.need d)
    (on ∙ ap (λ (r : List ℕ). reading f s.place r entries) t))
    (λ d.
    let n : s.need ≡ s.held + 1 = omega arith in
    rw (ne_eqb s.need 0 (omega arith), m, e, le-ltb (s.held + 1) s.need d)
    (wh ∙ ap (λ (r : List ℕ). whole f s.place r entries) (ap (λ (j : ℕ). take j (set field s.held byte)) n ∙ t)))
    (lt-or-ge (s.held + 1) s.need)

-- a machine that has stopped stays
halted : (field key : List ℕ) (s : Fields) (byte : ℕ) (entries : Map) → s.stage ≡ Stopped → SizeAt Stopped s
    → stand_of (step (field, key, s) byte) (gained (step (field, key, s) byte) entries) ≡ stepped (stopped s.place) byte
unfolding step stepped gained stand_at
halted field key s byte entries q z = rw (z.0, z.1, q)

-- a byte is taken alike
step-view : (stage : Stage) (field key : List ℕ) (s : Fields) (byte : ℕ) (entries : Map) → s.stage ≡ stage → SizeAt stage s → s.need ≤ 256
    → length field ≡ 256
    → stand_of (step (field, key, s) byte) (gained (step (field, key, s) byte) entries) ≡ stepped (stand_at stage field key s entries) byte
unfolding stand_at whole_of
step-view Counting field key s byte entries q z k l =
    running counting field key s byte entries (sym z.0) z.1 k l (rw q)
    (rw q (whole-view Counting (set field s.held byte) key s entries (length-set field s.held byte ∙ l) k z tt))
step-view Measuring field key s byte entries q z k l =
    running (field_at Measuring key s) field key s byte entries (sym z.0) z.1 k l (rw q)
    (rw q (whole-view Measuring (set field s.held byte) key s entries (length-set field s.held byte ∙ l) k z tt))
step-view Naming field key s byte entries q z k l =
    running (field_at Naming key s) field key s byte entries refl z k l (rw q)
    (rw q (whole-view Naming (set field s.held byte) key s entries (length-set field s.held byte ∙ l) k z tt))
step-view Framing field key s byte entries q z k l =
    running (field_at Framing key s) field key s byte entries (sym z.0) z.1 k l (rw q)
    (rw q (whole-view Framing (set field s.held byte) key s entries (length-set field s.held byte ∙ l) k z tt))
step-view Filling field key s byte entries q z k l =
    running (field_at Filling key s) field key s byte entries (sym z.0) z.1 k l (rw q)
    (rw q (whole-view Filling (set field s.held byte) key s entries (length-set field s.held byte ∙ l) k z tt))
step-view Stopped field key s byte entries q z k l = halted field key s byte entries q z

-- fields keep their sizes
abbrev Sized : Fields → Type 0
Sized s = SizeAt s.stage s

comes-sized : (n place last : ℕ) → Sized (comes n place last)
unfolding comes
comes-sized n place last = either Sized (eqb n 0) (λ e. (refl, omega arith)) (λ e. (refl, omega arith))

giving-sized : (n place last frame : ℕ) → Sized (giving (comes n place last) frame)
unfolding comes
giving-sized n place last frame = either (λ (s : Fields). Sized (giving s frame)) (eqb n 0) (λ e. (refl, omega arith))
    (λ e. (refl, omega arith))

names-sized : (field key : List ℕ) (left last place len : ℕ) → Sized (names field key left last place len).1
unfolding names
names-sized field key left last place len =
    either (λ (p : List ℕ × Fields). Sized p.1) (above_last key last (take len field)) (λ e. (refl, omega arith, omega arith))
    (λ e. (refl, refl))

measures-sized : (field key : List ℕ) (left last place len : ℕ) → Sized (measures field key left last place len).1
unfolding measures
measures-sized field key left last place len =
    either (λ (p : List ℕ × Fields). Sized p.1) (leb len 256)
    (λ e.
    either (λ (p : List ℕ × Fields). Sized p.1) (eqb len 0) (λ z. names-sized field key left last (place + 2) 0)
    (λ z. let n : len ≡ 0 → ⊥ = eqb-false len 0 z in omega arith))
    (λ e. (refl, refl))

whole-sized : (stage : Stage) (field key : List ℕ) (s : Fields) → s.stage ≡ stage → Sized s → Sized (whole_of stage field key s).1
unfolding whole_of counts fills
whole-sized Counting field key s q z =
    either Sized (leb (little_endian 4 field) 255) (λ e. comes-sized (little_endian 4 field) (s.place + 4) 0) (λ e. (refl, refl))
whole-sized Measuring field key s q z = measures-sized field key s.left s.last s.place (little_endian 2 field)
whole-sized Naming field key s q z = names-sized field key s.left s.last s.place s.need
whole-sized Framing field key s q z = giving-sized s.left (s.place + 8) s.last (little_endian 8 field)
whole-sized Filling field key s q z =
    either Sized (eqb (get_or field 0 0) 0)
    (λ e. either Sized (eqb s.zeros 0) (λ f. (refl, refl)) (λ f. (refl, omega arith)))
    (λ e. (refl, refl))
whole-sized Stopped field key s q z = z

on-sized : (stage : Stage) (s : Fields) → SizeAt stage s → s.held + 1 < s.need → SizeAt stage (goes_on s)
on-sized Counting s z h = (z.0, h)
on-sized Measuring s z h = (z.0, h)
on-sized Naming s z h = h
on-sized Framing s z h = (z.0, h, z.2)
on-sized Filling s z h = (z.0, h)
on-sized Stopped s z h = absurd (omega (arith, z.0))

step-sized : (t : State) (byte : ℕ) → Sized t.2 → Sized (step t byte).2
unfolding step
step-sized t byte z =
    let s = t.2 in
    either (λ (u : State). Sized u.2) (eqb s.need 0) (λ e. z)
    (λ e.
    either (λ (u : State). Sized u.2) (ltb (s.held + 1) s.need)
    (λ h. on-sized s.stage s z (ltb-true (s.held + 1) s.need h))
    (λ h. whole-sized s.stage (set t.0 s.held byte) t.1 s refl z))

-- any number of bytes are taken alike
taken-alike : (t : State) (bytes : List ℕ) (entries : Map) → Sized t.2 → Safe t
    → (let p = arrived step_keeping (t, entries) bytes in stand_of p.0 p.1) ≡ fed (stand_of t entries) bytes
unfolding fed
taken-alike t [] entries z f = refl
taken-alike t (x ∷ bytes) entries z f =
    taken-alike (step t x) bytes (gained (step t x) entries) (step-sized t x z) (step-safe t x f)
    ∙ ap (λ (u : Stand). foldl stepped u bytes) (step-view t.2.stage t.0 t.1 t.2 x entries refl z f.2.short f.0)

-- it comes to what the parser says
pub machine-is-parser : (field key bytes : List ℕ) → length field ≡ 256 → length key ≡ 256
    → (let p = arrived step_keeping ((field, key, at_first), []) bytes in ended (stand_of p.0 p.1)) ≡ parse bytes
unfolding stand_at
machine-is-parser field key bytes h k =
    ap ended
    (taken-alike (field, key, at_first) bytes [] (refl, omega arith)
    (h, k, record { inside = omega arith; short = omega arith; named = omega arith; room = omega arith }))
    ∙ machine-parses bytes
