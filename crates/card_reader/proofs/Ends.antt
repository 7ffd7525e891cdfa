-- Where the machine stands at the end of a stream, and what that says. Assumes nothing.
use Prim.Native.Nat.{ℕ, zero, suc, ◌≤◌}
use mathlib.Core.Path.{◌≡◌, refl, sym, ap, ◌∙◌}
use mathlib.Core.Bool.{true, false}
use mathlib.Core.List.{List, [], ◌∷◌}
use native.Mathlib.Omega.{arith}
use denote.Enum.Declared.{tag_of}
use types.Run.{OneOf}
use mathlib.Core.Logic.{inl, inr}
use borrow.Author.Tests.{eq-eqb, ne_eqb}
use Rattle.order.specs.Map.{Map}
use Rattle.lent_words.specs.Parts.{zeros}
use Rattle.card_stream.specs.Cuts.{arrived}
use Rattle.card_stream.specs.Parse.{Parsed, wrong, right, parse}
use Rattle.card_stream.specs.Fields.{ended}
use Rattle.card_fields.specs.declared.Fields.{Fields}
use Rattle.card_fields.specs.declared.Stage.{Stage}
use Rattle.card_fields.specs.declared.Stage.TheVariants.{Counting, Measuring, Naming, Framing, Filling, Stopped}
use Rattle.card_fields.specs.contracts.Stage as stage-type
use Rattle.card_fields.specs.Step.{State, at_first, step}
use Rattle.card_fields.specs.Fits.{Fits}
use Rattle.card_fields.specs.View.{stand_at, stand_of, gained, step_keeping}
use Rattle.card_fields.proofs.Views.{machine-is-parser}
use Rattle.card_reader.specs.declared.Verdict.{Verdict}
use Rattle.card_reader.specs.declared.Verdict.TheVariants.{Right, Wrong}
use Rattle.card_reader.specs.Verdict.{verdict_of, end_of}

-- before the first byte all numbers are small
pub first_fits : {s : Fields} → s ≡ at_first → Fits s
first_fits e = rw e (record { inside = omega arith; short = omega arith; named = omega arith; room = omega arith })

-- ---- by the stage

module _ (lacks place : ℕ) where
  pub end-right : (stage : Stage) → OneOf (4 ∷ []) (tag_of stage-type.the_type stage) → lacks ≡ 0 → Right ≡ end_of stage lacks place
  end-right Filling h e = rw (eq-eqb lacks 0 e)
  end-right Counting h e = absurd (omega (arith, h))
  end-right Measuring h e = absurd (omega (arith, h))
  end-right Naming h e = absurd (omega (arith, h))
  end-right Framing h e = absurd (omega (arith, h))
  end-right Stopped h e = absurd (omega (arith, h))

  pub end-early : (stage : Stage) → OneOf (4 ∷ []) (tag_of stage-type.the_type stage) → (lacks ≡ 0 → ⊥)
      → Wrong place ≡ end_of stage lacks place
  end-early Filling h e = rw (ne_eqb lacks 0 e)
  end-early Counting h e = absurd (omega (arith, h))
  end-early Measuring h e = absurd (omega (arith, h))
  end-early Naming h e = absurd (omega (arith, h))
  end-early Framing h e = absurd (omega (arith, h))
  end-early Stopped h e = absurd (omega (arith, h))

  pub end-other : (stage : Stage) → (stage ≡ Filling → ⊥) → Wrong place ≡ end_of stage lacks place
  end-other Filling h = absurd (h refl)
  end-other Counting h = refl
  end-other Measuring h = refl
  end-other Naming h = refl
  end-other Framing h = refl
  end-other Stopped h = refl

-- ---- by the parser

-- the machine's stand says the same
stand-verdict : (stage : Stage) (field key : List ℕ) (s : Fields) (entries : Map)
    → verdict_of (ended (stand_at stage field key s entries)) ≡ end_of stage s.zeros s.place
unfolding stand_at ended
stand-verdict Counting field key s entries = refl
stand-verdict Measuring field key s entries = refl
stand-verdict Naming field key s entries = refl
stand-verdict Framing field key s entries = refl
stand-verdict Stopped field key s entries = refl
stand-verdict Filling field key s entries = by s.zeros refl
  where
    by : (n : ℕ) → s.zeros ≡ n → verdict_of (ended (stand_at Filling field key s entries)) ≡ end_of Filling s.zeros s.place
    by zero e = rw e
    by (suc n) e = rw (e, ne_eqb (suc n) 0 (λ d. omega arith))

-- the entries that are kept are those that the stand has
pub stand-entries : (stage : Stage) (field key : List ℕ) (s : Fields) (entries : Map) {es : Map}
    → ended (stand_at stage field key s entries) ≡ right es → entries ≡ es
unfolding stand_at ended
stand-entries Counting field key s entries e = let z : ◌≡◌ {A = ℕ} 0 1 = cc in absurd (omega arith)
stand-entries Measuring field key s entries e = let z : ◌≡◌ {A = ℕ} 0 1 = cc in absurd (omega arith)
stand-entries Naming field key s entries e = let z : ◌≡◌ {A = ℕ} 0 1 = cc in absurd (omega arith)
stand-entries Framing field key s entries e = let z : ◌≡◌ {A = ℕ} 0 1 = cc in absurd (omega arith)
stand-entries Stopped field key s entries e = let z : ◌≡◌ {A = ℕ} 0 1 = cc in absurd (omega arith)
stand-entries Filling field key s entries {es} e = by s.zeros refl
  where
    by : (n : ℕ) → s.zeros ≡ n → entries ≡ es
    by zero d = let f = rw d at e in cc
    by (suc n) d = let f = rw d at e in let z : ◌≡◌ {A = ℕ} 0 1 = cc in absurd (omega arith)

-- keeping entries, the machine goes the same way
kept-way : (bytes : List ℕ) (t : State) (entries : Map) → (arrived step_keeping (t, entries) bytes).0 ≡ arrived step t bytes
kept-way [] t entries = refl
kept-way (x ∷ bytes) t entries = kept-way bytes (step t x) (gained (step t x) entries)

pub judge-done : (bytes : List ℕ) {s t : Fields} {field key : List ℕ} {r : Verdict} → s ≡ at_first
    → (field, key, t) ≡ arrived step (zeros 256, zeros 256, s) bytes → r ≡ end_of t.stage t.zeros t.place
    → r ≡ verdict_of (parse bytes)
judge-done bytes {t = t} {field = field} {key = key} e d q =
    let p = arrived step_keeping ((zeros 256, zeros 256, at_first), []) bytes in
    let w : (field, key, t) ≡ p.0 = (rw e at d) ∙ sym (kept-way bytes (zeros 256, zeros 256, at_first) []) in
    q
    ∙ ap (λ (u : State). end_of u.2.stage u.2.zeros u.2.place) w
    ∙ sym (stand-verdict p.0.2.stage p.0.0 p.0.1 p.0.2 p.1)
    ∙ ap verdict_of (machine-is-parser (zeros 256) (zeros 256) bytes refl refl)
