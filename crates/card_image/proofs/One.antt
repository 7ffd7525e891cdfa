-- An answer is known by what it says: each contract leaves one outcome, the answer and all of the buffer or of lent memory. Assumes
-- nothing.
use mathlib.Core.Path.{◌≡◌, refl, sym, ap, ◌∙◌}
use mathlib.Core.List.{List}
use Prim.Native.Nat.{ℕ}
use native.Mathlib.Omega.{arith}
use Rattle.refusal.specs.Answer.{Answer}
use Rattle.refusal.specs.Refusals.{number_of}
use Rattle.refusal.proofs.Laws.{number-one, number-pos, number-few}
use Rattle.refusal.proofs.One.{number-of, value_of, differ}
use Rattle.arena.specs.Memory.{Memory, Did, did}
use Rattle.card_said.specs.Save.{save_done}
use Rattle.card_said.specs.Load.{load_done}
use Rattle.card_save.specs.declared.Saved.{Saved}
use Rattle.card_save.specs.declared.Saved.TheVariants as saved-is
use Rattle.card_save.specs.Answers.{said_saved}
use Rattle.card_load.specs.declared.Loaded.{Loaded}
use Rattle.card_load.specs.declared.Loaded.TheVariants as loaded-is
use Rattle.card_load.specs.Load.{said_loaded}

-- ---- answers that say the same are the same

pub saved-one : (x y : Saved) → said_saved x ≡ said_saved y → x ≡ y
saved-one (saved-is.Blocks m) (saved-is.Blocks n) e = ap saved-is.Blocks (value_of 0 e)
saved-one (saved-is.Blocks m) saved-is.Short e = absurd (let z : 0 ≡ 18 = number-of e in omega arith)
saved-one (saved-is.Blocks m) (saved-is.Refused w) e =
    absurd (let z : 0 ≡ number_of w = number-of e in omega (arith, number-few w, number-pos w))
saved-one saved-is.Short (saved-is.Blocks n) e = absurd (let z : 18 ≡ 0 = number-of e in omega arith)
saved-one saved-is.Short saved-is.Short e = refl
saved-one saved-is.Short (saved-is.Refused w) e =
    absurd (let z : 18 ≡ number_of w = number-of e in omega (arith, number-few w, number-pos w))
saved-one (saved-is.Refused v) (saved-is.Blocks n) e =
    absurd (let z : number_of v ≡ 0 = number-of e in omega (arith, number-few v, number-pos v))
saved-one (saved-is.Refused v) saved-is.Short e =
    absurd (let z : number_of v ≡ 18 = number-of e in omega (arith, number-few v, number-pos v))
saved-one (saved-is.Refused v) (saved-is.Refused w) e = ap saved-is.Refused (number-one v w (number-of e))

pub loaded-one : (x y : Loaded) → said_loaded x ≡ said_loaded y → x ≡ y
loaded-one (loaded-is.Entries m) (loaded-is.Entries n) e = ap loaded-is.Entries (value_of 0 e)
loaded-one (loaded-is.Entries m) (loaded-is.Refused w) e =
    absurd (let z : 0 ≡ number_of w = number-of e in omega (arith, number-few w, number-pos w))
loaded-one (loaded-is.Entries m) (loaded-is.TooFewNodes n) e = absurd (let z : 0 ≡ 14 = number-of e in omega arith)
loaded-one (loaded-is.Entries m) loaded-is.Length e = absurd (let z : 0 ≡ 15 = number-of e in omega arith)
loaded-one (loaded-is.Entries m) (loaded-is.Check n) e = absurd (let z : 0 ≡ 16 = number-of e in omega arith)
loaded-one (loaded-is.Entries m) (loaded-is.Stream n) e = absurd (let z : 0 ≡ 17 = number-of e in omega arith)
loaded-one (loaded-is.Refused v) (loaded-is.Entries n) e =
    absurd (let z : number_of v ≡ 0 = number-of e in omega (arith, number-few v, number-pos v))
loaded-one (loaded-is.Refused v) (loaded-is.Refused w) e = ap loaded-is.Refused (number-one v w (number-of e))
loaded-one (loaded-is.Refused v) (loaded-is.TooFewNodes n) e =
    absurd (let z : number_of v ≡ 14 = number-of e in omega (arith, number-few v, number-pos v))
loaded-one (loaded-is.Refused v) loaded-is.Length e =
    absurd (let z : number_of v ≡ 15 = number-of e in omega (arith, number-few v, number-pos v))
loaded-one (loaded-is.Refused v) (loaded-is.Check n) e =
    absurd (let z : number_of v ≡ 16 = number-of e in omega (arith, number-few v, number-pos v))
loaded-one (loaded-is.Refused v) (loaded-is.Stream n) e =
    absurd (let z : number_of v ≡ 17 = number-of e in omega (arith, number-few v, number-pos v))
loaded-one (loaded-is.TooFewNodes m) (loaded-is.Entries n) e = absurd (let z : 14 ≡ 0 = number-of e in omega arith)
loaded-one (loaded-is.TooFewNodes m) (loaded-is.Refused w) e =
    absurd (let z : 14 ≡ number_of w = number-of e in omega (arith, number-few w, number-pos w))
loaded-one (loaded-is.TooFewNodes m) (loaded-is.TooFewNodes n) e = ap loaded-is.TooFewNodes (value_of 0 e)
loaded-one (loaded-is.TooFewNodes m) loaded-is.Length e = absurd (let z : 14 ≡ 15 = number-of e in omega arith)
loaded-one (loaded-is.TooFewNodes m) (loaded-is.Check n) e = absurd (let z : 14 ≡ 16 = number-of e in omega arith)
loaded-one (loaded-is.TooFewNodes m) (loaded-is.Stream n) e = absurd (let z : 14 ≡ 17 = number-of e in omega arith)
loaded-one loaded-is.Length (loaded-is.Entries n) e = absurd (let z : 15 ≡ 0 = number-of e in omega arith)
loaded-one loaded-is.Length (loaded-is.Refused w) e =
    absurd (let z : 15 ≡ number_of w = number-of e in omega (arith, number-few w, number-pos w))
loaded-one loaded-is.Length (loaded-is.TooFewNodes n) e = absurd (let z : 15 ≡ 14 = number-of e in omega arith)
loaded-one loaded-is.Length loaded-is.Length e = refl
loaded-one loaded-is.Length (loaded-is.Check n) e = absurd (let z : 15 ≡ 16 = number-of e in omega arith)
loaded-one loaded-is.Length (loaded-is.Stream n) e = absurd (let z : 15 ≡ 17 = number-of e in omega arith)
loaded-one (loaded-is.Check m) (loaded-is.Entries n) e = absurd (let z : 16 ≡ 0 = number-of e in omega arith)
loaded-one (loaded-is.Check m) (loaded-is.Refused w) e =
    absurd (let z : 16 ≡ number_of w = number-of e in omega (arith, number-few w, number-pos w))
loaded-one (loaded-is.Check m) (loaded-is.TooFewNodes n) e = absurd (let z : 16 ≡ 14 = number-of e in omega arith)
loaded-one (loaded-is.Check m) loaded-is.Length e = absurd (let z : 16 ≡ 15 = number-of e in omega arith)
loaded-one (loaded-is.Check m) (loaded-is.Check n) e = ap loaded-is.Check (value_of 0 e)
loaded-one (loaded-is.Check m) (loaded-is.Stream n) e = absurd (let z : 16 ≡ 17 = number-of e in omega arith)
loaded-one (loaded-is.Stream m) (loaded-is.Entries n) e = absurd (let z : 17 ≡ 0 = number-of e in omega arith)
loaded-one (loaded-is.Stream m) (loaded-is.Refused w) e =
    absurd (let z : 17 ≡ number_of w = number-of e in omega (arith, number-few w, number-pos w))
loaded-one (loaded-is.Stream m) (loaded-is.TooFewNodes n) e = absurd (let z : 17 ≡ 14 = number-of e in omega arith)
loaded-one (loaded-is.Stream m) loaded-is.Length e = absurd (let z : 17 ≡ 15 = number-of e in omega arith)
loaded-one (loaded-is.Stream m) (loaded-is.Check n) e = absurd (let z : 17 ≡ 16 = number-of e in omega arith)
loaded-one (loaded-is.Stream m) (loaded-is.Stream n) e = ap loaded-is.Stream (value_of 0 e)

-- ---- any two outcomes that a contract admits are one

pub save-once : (m : Memory) (out : List ℕ) (x y : Saved) (after other : List ℕ) → (after, said_saved x) ≡ save_done m out
    → (other, said_saved y) ≡ save_done m out → (x ≡ y) × (after ≡ other)
save-once m out x y after other e f =
    let q : ◌≡◌ {A = List ℕ × Answer} (after, said_saved x) (other, said_saved y) = e ∙ sym f in
    (saved-one x y (ap (λ (p : List ℕ × Answer). p.1) q), ap (λ (p : List ℕ × Answer). p.0) q)

pub load-once : (m : Memory) (image : List ℕ) (x y : Loaded) (after other : Memory) → did (said_loaded x) after ≡ load_done m image
    → did (said_loaded y) other ≡ load_done m image → (x ≡ y) × (after ≡ other)
load-once m image x y after other e f =
    let q : did (said_loaded x) after ≡ did (said_loaded y) other = e ∙ sym f in
    (loaded-one x y (ap (λ (d : Did). d.answer) q), ap (λ (d : Did). d.after) q)
