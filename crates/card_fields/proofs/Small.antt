-- The machine's numbers stay small, and what is lent keeps its length. Assumes nothing.
use Prim.Native.Nat.{ℕ, ◌+◌, ◌*◌, ◌≤◌}
use mathlib.Core.Path.{◌≡◌, refl, sym, subst, ◌∙◌}
use mathlib.Core.Bool.{Bool, true, false, cond}
use mathlib.Core.List.{List}
use native.Mathlib.Omega.{arith}
use lib.Dec.{eqb, leb, ltb}
use lib.ListN.{length, take, set, get_or, length-set}
use borrow.Author.Tests.{leb-true, ltb-true, eqb-false}
use Rattle.lent_words.specs.Parts.{part}
use Rattle.lent_words.proofs.Words.{put-length, part_length}
use Rattle.card_block.specs.Words.{little_endian}
use Rattle.card_stream.specs.Stream.{lacking}
use Rattle.card_fields.specs.declared.Fields.{Fields}
use Rattle.card_fields.specs.declared.Stage.{Stage}
use Rattle.card_fields.specs.declared.Stage.TheVariants.{Counting, Measuring, Naming, Framing, Filling, Stopped}
use Rattle.card_fields.specs.Step.{halt, comes, above_last, names, counts, measures, fills, whole_of, State, step}
use Rattle.card_fields.specs.Fits.{reserve, Fits}

-- what holds on both ways of a test
pub either : {A : Type 0} (P : A → Type 0) (b : Bool) {x y : A} → (b ≡ true → P x) → (b ≡ false → P y) → P (cond b x y)
either P true f g = f refl
either P false f g = g refl

-- the machine fits, over a lent key that has its length
abbrev Sound : List ℕ × Fields → Type 0
Sound p = (length p.0 ≡ 256) × Fits p.1

stop-fits : (place : ℕ) → place ≤ 70000 → Fits (halt place)
stop-fits place h = record { inside = omega arith; short = omega arith; named = omega arith; room = omega arith }

comes-fits : (n place last : ℕ) → place + 266 * n + 504 ≤ 70000 → last ≤ 257 → Fits (comes n place last)
unfolding comes lacking
comes-fits n place last h k =
    either Fits (eqb n 0)
    (λ e. record { inside = omega arith; short = omega arith; named = k; room = omega arith })
    (λ e.
    let z : n ≡ 0 → ⊥ = eqb-false n 0 e in
    record { inside = omega arith; short = omega arith; named = k; room = omega arith })

counts-fits : (n place : ℕ) → place + 68400 ≤ 70000 → Fits (counts n place)
unfolding counts
counts-fits n place h =
    either Fits (leb n 255) (λ e. comes-fits n (place + 4) 0 (omega (arith, leb-true n 255 e)) (omega arith))
    (λ e. stop-fits place (omega arith))

fills-fits : (byte place zeros last : ℕ) → place + 1 + zeros ≤ 70000 → last ≤ 257 → Fits (fills byte place zeros last)
unfolding fills
fills-fits byte place zeros last h k =
    either Fits (eqb byte 0)
    (λ e.
    either Fits (eqb zeros 0) (λ f. stop-fits place (omega arith))
    (λ f. let z : zeros ≡ 0 → ⊥ = eqb-false zeros 0 f in
    record { inside = omega arith; short = omega arith; named = k; room = omega arith }))
    (λ e. stop-fits place (omega arith))

names-sound : (field key : List ℕ) (left last place len : ℕ) → length field ≡ 256 → length key ≡ 256 → len ≤ 256
    → place + len + 512 + 266 * left ≤ 70000
    → Sound (names field key left last place len)
unfolding names
names-sound field key left last place len h k l m =
    either Sound (above_last key last (take len field))
    (λ e.
    let p : length (part field 0 len) ≡ len = part_length field 0 len (omega arith) in (
      put-length key 0 (part field 0 len) (omega arith)
          ∙ k,
      record { inside = omega arith; short = omega arith; named = omega arith; room = omega arith },
    ))
    (λ e. (k, stop-fits place (omega arith)))

measures-sound : (field key : List ℕ) (left last place len : ℕ) → length field ≡ 256 → length key ≡ 256 → last ≤ 257
    → place + 770 + 266 * left ≤ 70000
    → Sound (measures field key left last place len)
unfolding measures
measures-sound field key left last place len h k l m =
    either Sound (leb len 256)
    (λ e.
    let f : len ≤ 256 = leb-true len 256 e in
    either Sound (eqb len 0) (λ z. names-sound field key left last (place + 2) 0 h k (omega arith) (omega arith))
    (λ z. (k, record { inside = omega arith; short = f; named = l; room = omega arith })))
    (λ e. (k, stop-fits place (omega arith)))

-- what a stage leaves room for
room_at : (s : Fields) (stage : Stage) → s.stage ≡ stage → Fits s → s.place + 266 * s.left + s.zeros + reserve stage s.need ≤ 70000
room_at s stage e f = rw e at f.room

whole-sound : (field key : List ℕ) (s : Fields) (stage : Stage) → s.stage ≡ stage → length field ≡ 256 → length key ≡ 256 → Fits s
    → Sound (whole_of stage field key s)
unfolding whole_of
whole-sound field key s Counting e h k f = (k, counts-fits (little_endian 4 field) s.place (omega (arith, room_at s Counting e f)))
whole-sound field key s Measuring e h k f =
    measures-sound field key s.left s.last s.place (little_endian 2 field) h k f.named (omega (arith, room_at s Measuring e f))
whole-sound field key s Naming e h k f = names-sound field key s.left s.last s.place s.need h k f.short
    (omega (arith, room_at s Naming e f))
whole-sound field key s Framing e h k f =
    let c : Fits (comes s.left (s.place + 8) s.last) =
    comes-fits s.left (s.place + 8) s.last (omega (arith, room_at s Framing e f)) f.named in
    (k, record { inside = c.inside; short = c.short; named = c.named; room = c.room })
whole-sound field key s Filling e h k f =
    (k, fills-fits (get_or field 0 0) s.place s.zeros s.last (omega (arith, room_at s Filling e f)) f.named)
whole-sound field key s Stopped e h k f = (k, f)

-- lent lengths and numbers, together
abbrev pub Safe : State → Type 0
Safe t = (length t.0 ≡ 256) × (length t.1 ≡ 256) × Fits t.2

pub step-safe : (t : State) (byte : ℕ) → Safe t → Safe (step t byte)
unfolding step
step-safe t byte (h, k, f) =
    let s = t.2 in
    let l : length (set t.0 s.held byte) ≡ 256 = length-set t.0 s.held byte ∙ h in
    either Safe (eqb s.need 0) (λ e. (h, k, f))
    (λ e.
    either Safe (ltb (s.held + 1) s.need)
    (λ m. (
      l,
      k,
      record {
        inside = omega (arith, ltb-true (s.held + 1) s.need m, f.short);
        short = f.short;
        named = f.named;
        room =
            f.room;
      },
    ))
    (λ m. let (p, q) = whole-sound (set t.0 s.held byte) t.1 s s.stage refl l k f in (l, p, q)))

-- one byte further the numbers are small again
pub next_fits : (field key : List ℕ) (s : Fields) (byte : ℕ) {field' key' : List ℕ} {s' : Fields} → length field ≡ 256 → length key ≡ 256
    → Fits s
    → (field', key', s') ≡ step (field, key, s) byte → Fits s'
next_fits field key s byte f k g n = subst (λ (t : State). Fits t.2) (sym n) (step-safe (field, key, s) byte (f, k, g)).2
