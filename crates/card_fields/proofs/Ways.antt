-- One law for each way in which a function of the machine returns. Assumes nothing.
use Prim.Native.Nat.{ℕ, ◌+◌, ◌*◌, ◌-◌, ◌/◌, ◌<◌, ◌≤◌}
use mathlib.Core.Path.{◌≡◌, sym, ap, ◌∙◌}
use mathlib.Core.Bool.{Bool, true, false}
use mathlib.Core.List.{List, [], ◌∷◌}
use native.Mathlib.Omega.{arith}
use lib.ListN.{length, take, drop, set, get_or}
use borrow.Author.Tests.{le-leb, lt-leb, lt-ltb, le-ltb, ne_eqb}
use Rattle.order.specs.Bytes.{bytewise}
use Rattle.lent_words.specs.Parts.{part, put_part}
use Rattle.card_block.specs.Words.{little_endian}
use Rattle.card_stream.specs.Stream.{lacking}
use Rattle.std.specs.declared.cmp.Ordering.{Ordering as Ordered}
use Rattle.std.specs.declared.cmp.Ordering.TheVariants.{Less, Equal, Greater}
use Rattle.ikey.specs.Said.{order_of}
use Rattle.card_fields.specs.declared.Fields.{Fields}
use Rattle.card_fields.specs.declared.Stage.TheVariants.{Counting, Measuring, Naming, Framing, Filling, Stopped}
use Rattle.card_fields.specs.Step.{begin, halt, comes, giving, goes_on, above_last, names, counts, measures, fills, whole_of, State}
use Rattle.card_fields.specs.Step.{step}

-- entries to come, or the fill
module _ (n place last : ℕ) {s : Fields} where
  pub comes-fill : n ≡ 0 → s ≡ begin Filling place 1 0 (504 * ((place + 503) / 504) - place) last → s ≡ comes n place last
  unfolding comes lacking
  comes-fill h e = rw (e, h)

  pub comes-entry : (n ≡ 0 → ⊥) → s ≡ begin Measuring place 2 (n - 1) 0 last → s ≡ comes n place last
  unfolding comes
  comes-entry h e = rw (e, ne_eqb n 0 h)

-- the number of entries
module _ (n place : ℕ) {s : Fields} where
  pub counts-over : 255 < n → s ≡ halt place → s ≡ counts n place
  unfolding counts
  counts-over h e = rw (e, lt-leb n 255 h)

  pub counts-right : n ≤ 255 → s ≡ comes n (place + 4) 0 → s ≡ counts n place
  unfolding counts
  counts-right h e = rw (e, le-leb n 255 h)

-- the fill
module _ (byte place zeros last : ℕ) {s : Fields} where
  pub fills-over : byte ≡ 0 → zeros ≡ 0 → s ≡ halt place → s ≡ fills byte place zeros last
  unfolding fills
  fills-over h k e = rw (e, h, k)

  pub fills-on : byte ≡ 0 → (zeros ≡ 0 → ⊥) → s ≡ begin Filling (place + 1) 1 0 (zeros - 1) last → s ≡ fills byte place zeros last
  unfolding fills
  fills-on h k e = rw (e, h, ne_eqb zeros 0 k)

  pub fills-not : (byte ≡ 0 → ⊥) → s ≡ halt place → s ≡ fills byte place zeros last
  unfolding fills
  fills-not h e = rw (e, ne_eqb byte 0 h)

-- whether a name is above the last key
module _ (key : List ℕ) (last : ℕ) (name : List ℕ) where
  pub above-none : last ≡ 0 → true ≡ above_last key last name
  unfolding above_last
  above-none h = rw h

  part-is : take (last - 1) key ≡ take (last - 1 - 0) key
  part-is = let e : last - 1 - 0 ≡ last - 1 = omega arith in rw e

  module _ {o : Ordered} (h : last ≡ 0 → ⊥) (e : order_of o ≡ bytewise (take (last - 1 - 0) key) name) where
    pub above-less : o ≡ Less → true ≡ above_last key last name
    unfolding above_last
    above-less f = rw (ne_eqb last 0 h, part-is, ← e, f)

    pub above_equal : o ≡ Equal → false ≡ above_last key last name
    unfolding above_last
    above_equal f = rw (ne_eqb last 0 h, part-is, ← e, f)

    pub above-greater : o ≡ Greater → false ≡ above_last key last name
    unfolding above_last
    above-greater f = rw (ne_eqb last 0 h, part-is, ← e, f)

-- a key has come
module _ (field key : List ℕ) (left last place len : ℕ) {b : Bool} (e : b ≡ above_last key last (take (len - 0) field)) where
  pub names-above : {after : List ℕ} {s : Fields} → b ≡ true → after ≡ put_part key 0 (part field 0 len)
      → s ≡ begin Framing (place + len) 8 left 0 (len + 1)
      → ◌≡◌ {A = List ℕ × Fields} (after, s) (names field key left last place len)
  unfolding names
  names-above h f g = let d : len ≡ len - 0 = omega arith in
      rw (f, g) (let t : above_last key last (take len field) ≡ true = ap (λ (n : ℕ). above_last key last (take n field)) d ∙ sym e ∙ h in
      rw t)

  pub names-not : {s : Fields} → b ≡ false → s ≡ halt place → ◌≡◌ {A = List ℕ × Fields} (key, s) (names field key left last place len)
  unfolding names
  names-not h g = let d : len ≡ len - 0 = omega arith in
      rw g (let t : above_last key last (take len field) ≡ false = ap (λ (n : ℕ). above_last key last (take n field)) d ∙ sym e ∙ h in rw t)

-- a length has come
module _ (field key : List ℕ) (left last place len : ℕ) where
  pub measures-over : {s : Fields} → 256 < len → s ≡ halt place
      → ◌≡◌ {A = List ℕ × Fields} (key, s) (measures field key left last place len)
  unfolding measures
  measures-over h e = rw (e, lt-leb len 256 h)

  pub measures-none : {after : List ℕ} {s : Fields} → len ≤ 256 → len ≡ 0
      → ◌≡◌ {A = List ℕ × Fields} (after, s) (names field key left last (place + 2) 0)
      → ◌≡◌ {A = List ℕ × Fields} (after, s) (measures field key left last place len)
  unfolding measures
  measures-none h k e = rw k e

  pub measures-some : {s : Fields} → len ≤ 256 → (len ≡ 0 → ⊥) → s ≡ begin Naming (place + 2) len left 0 last
      → ◌≡◌ {A = List ℕ × Fields} (key, s) (measures field key left last place len)
  unfolding measures
  measures-some h k e = rw (e, le-leb len 256 h, ne_eqb len 0 k)

-- two bytes, and eight
pub two_is : (l : List ℕ) {a b : ℕ} → 2 ≤ length l → a ≡ get_or l 0 0 → b ≡ get_or l 1 0 → a + b * 0x100 ≡ little_endian 2 l
unfolding little_endian
two_is [] h p q = absurd (omega arith)
two_is (x ∷ []) h p q = absurd (omega arith)
two_is (x ∷ y ∷ l) h p q = omega arith

eight-bytes : (l : List ℕ) → 8 ≤ length l → little_endian 4 l + little_endian 4 (drop 4 l) * 0x100000000 ≡ little_endian 8 l
unfolding little_endian
eight-bytes (a ∷ b ∷ c ∷ d ∷ l) h = omega arith
eight-bytes [] h = absurd (omega arith)
eight-bytes (a ∷ []) h = absurd (omega arith)
eight-bytes (a ∷ b ∷ []) h = absurd (omega arith)
eight-bytes (a ∷ b ∷ c ∷ []) h = absurd (omega arith)

pub eight_is : (l : List ℕ) {v w a b : ℕ} → 8 ≤ length l → v ≡ little_endian 4 l → w ≡ little_endian 4 (drop 4 l) → a ≡ v → b ≡ w
    → a + b * 0x100000000 ≡ little_endian 8 l
eight_is l h p q r s = rw (r, s, p, q) (eight-bytes l h)

-- a field is whole
module _ (field key : List ℕ) (s : Fields) where
  pub whole-count : {r : Fields} (n : ℕ) → s.stage ≡ Counting → n ≡ little_endian 4 field → r ≡ counts n s.place
      → ◌≡◌ {A = List ℕ × Fields} (key, r) (whole_of s.stage field key s)
  unfolding whole_of
  whole-count n h f e = rw (e, h, f)

  pub whole_length : {after : List ℕ} {r : Fields} {n : ℕ} → s.stage ≡ Measuring → n ≡ little_endian 2 field
      → ◌≡◌ {A = List ℕ × Fields} (after, r) (measures field key s.left s.last s.place n)
      → ◌≡◌ {A = List ℕ × Fields} (after, r) (whole_of s.stage field key s)
  unfolding whole_of
  whole_length h f e = rw h (rw f at e)

  pub whole-key : {after : List ℕ} {r : Fields} → s.stage ≡ Naming
      → ◌≡◌ {A = List ℕ × Fields} (after, r) (names field key s.left s.last s.place s.need)
      → ◌≡◌ {A = List ℕ × Fields} (after, r) (whole_of s.stage field key s)
  unfolding whole_of
  whole-key h e = rw h e

  pub whole-frame : {r t : Fields} {n : ℕ} → s.stage ≡ Framing → t ≡ comes s.left (s.place + 8) s.last → n ≡ little_endian 8 field
      → r ≡ giving t n
      → ◌≡◌ {A = List ℕ × Fields} (key, r) (whole_of s.stage field key s)
  unfolding whole_of
  whole-frame h f g e = rw (e, h, f, g)

  pub whole-fill : {r : Fields} → s.stage ≡ Filling → r ≡ fills (get_or field 0 0) s.place s.zeros s.last
      → ◌≡◌ {A = List ℕ × Fields} (key, r) (whole_of s.stage field key s)
  unfolding whole_of
  whole-fill h e = rw (e, h)

  pub whole-stopped : s.stage ≡ Stopped → ◌≡◌ {A = List ℕ × Fields} (key, s) (whole_of s.stage field key s)
  unfolding whole_of
  whole-stopped h = rw h

-- a byte has come
module _ (field key : List ℕ) (s : Fields) (byte : ℕ) where
  pub step-none : s.need ≡ 0 → ◌≡◌ {A = State} (field, key, s) (step (field, key, s) byte)
  unfolding step
  step-none h = rw h

  module _ (h : s.need ≡ 0 → ⊥) {after : List ℕ} (e : after ≡ set field s.held byte) where
    pub step-on : s.held + 1 < s.need → ◌≡◌ {A = State} (after, key, goes_on s) (step (field, key, s) byte)
    unfolding step
    step-on l = rw (ne_eqb s.need 0 h, lt-ltb (s.held + 1) s.need l, e)

    pub step-whole : {named : List ℕ} {r : Fields} → s.need ≤ s.held + 1
        → ◌≡◌ {A = List ℕ × Fields} (named, r) (whole_of s.stage after key s)
        → ◌≡◌ {A = State} (after, named, r) (step (field, key, s) byte)
    unfolding step
    step-whole l f = rw (ne_eqb s.need 0 h, le-ltb (s.held + 1) s.need l, ← e, ← f)

pub ruleset ways = (
  comes-fill,
  comes-entry,
  counts-over,
  counts-right,
  fills-over,
  fills-on,
  fills-not,
  above-none,
  above-less,
  above_equal,
  above-greater,
)

pub ruleset keys = (names-above, names-not, measures-over, measures-none, measures-some)

pub ruleset wholes = (whole-count, whole_length, whole-key, whole-frame, whole-fill, whole-stopped)

pub ruleset steps = (step-none, step-on, step-whole)
