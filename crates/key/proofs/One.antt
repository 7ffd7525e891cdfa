-- One outcome each: answers that say the same are the same, and so are parts that say the same and lie at one place. Assumes nothing.
use Prim.Native.Nat.{ℕ}
use mathlib.Core.Path.{◌≡◌, refl, sym, ap, ap₂, ◌∙◌}
use mathlib.Core.Bool.{Bool, true, false}
use mathlib.Core.List.{List, [], ◌∷◌}
use native.Mathlib.Omega.{arith}
use denote.Ref.{Bor}
use Rattle.refusal.specs.Answer.{Answer, refused}
use Rattle.refusal.specs.declared.Refusal.{Refusal}
use Rattle.std.specs.Prelude.{Result, Ok, Err}
use Rattle.std.specs.declared.cmp.Ordering.{Ordering}
use Rattle.ikey.proofs.One.{no-refusal, same-refusal, same-values, same-value, place-one}
use Rattle.key_layer.specs.declared.Layer.{Layer}
use Rattle.key_layer.specs.declared.Refused.{Refused}
use Rattle.key_layer.specs.Said.{numbers_of, truth, said_made, said_moved, said_word, said_count, said_told, said_compared, said_judged}
use Rattle.key.specs.declared.Part.{Part}
use Rattle.key.specs.Parts.{said_part, LiesFrom}

layer_of : ℕ → ℕ → ℕ → Layer
layer_of i s p = record { ikey = i; shift_count = s; suffix_start = p }

layer-one : (i s p j t q : ℕ) → i ∷ s ∷ p ∷ [] ≡ j ∷ t ∷ q ∷ [] → layer_of i s p ≡ layer_of j t q
layer-one i s p j t q e =
    let a : i ≡ j = cc in
    let b : s ≡ t = cc in
    let c : p ≡ q = cc in
    rw (a, b, c)

-- two layers with the same numbers are one
pub numbers-one : (k l : Layer) → numbers_of k ≡ numbers_of l → k ≡ l
unfolding layer_of
numbers-one k l e = layer-one k.ikey k.shift_count k.suffix_start l.ikey l.shift_count l.suffix_start e

back_one : (v w : Refusal) (k l : Layer) → refused v (numbers_of k) ≡ refused w (numbers_of l) → k ≡ l
back_one v w k l e = numbers-one k l (ap (λ (x : Answer). x.values) e)

refused_of : Refusal → Layer → Refused
refused_of v k = record { why = v; layer = k }

-- two refused calls that say the same are one
refused-one : (v w : Refused) → refused v.why (numbers_of v.layer) ≡ refused w.why (numbers_of w.layer) → v ≡ w
unfolding refused_of
refused-one v w e = ap₂ refused_of (same-refusal v.why w.why e) (back_one v.why w.why v.layer w.layer e)

truth-one : (a b : Bool) → truth a ≡ truth b → a ≡ b
truth-one true true e = refl
truth-one true false e = absurd (omega arith)
truth-one false true e = absurd (omega arith)
truth-one false false e = refl

pub made_one : (a b : Result Layer Refusal) → said_made a ≡ said_made b → a ≡ b
made_one (Ok k) (Ok l) e = ap Ok (numbers-one k l (same-values e))
made_one (Ok k) (Err w) e = no-refusal w e
made_one (Err v) (Ok l) e = no-refusal v (sym e)
made_one (Err v) (Err w) e = ap Err (same-refusal v w e)

pub moved-one : (a b : Result Layer Refused) → said_moved a ≡ said_moved b → a ≡ b
moved-one (Ok k) (Ok l) e = ap Ok (numbers-one k l (same-values e))
moved-one (Ok k) (Err w) e = no-refusal w.why e
moved-one (Err v) (Ok l) e = no-refusal v.why (sym e)
moved-one (Err v) (Err w) e = ap Err (refused-one v w e)

pub word-one : (a b : Result ℕ Refused) → said_word a ≡ said_word b → a ≡ b
word-one (Ok m) (Ok n) e = ap Ok (same-value e)
word-one (Ok m) (Err w) e = no-refusal w.why e
word-one (Err v) (Ok n) e = no-refusal v.why (sym e)
word-one (Err v) (Err w) e = ap Err (refused-one v w e)

pub count-one : (a b : Result ℕ Refused) → said_count a ≡ said_count b → a ≡ b
count-one (Ok m) (Ok n) e = ap Ok (same-value e)
count-one (Ok m) (Err w) e = no-refusal w.why e
count-one (Err v) (Ok n) e = no-refusal v.why (sym e)
count-one (Err v) (Err w) e = ap Err (refused-one v w e)

pub told-one : (a b : Result Bool Refused) → said_told a ≡ said_told b → a ≡ b
told-one (Ok m) (Ok n) e = ap Ok (truth-one m n (same-value e))
told-one (Ok m) (Err w) e = no-refusal w.why e
told-one (Err v) (Ok n) e = no-refusal v.why (sym e)
told-one (Err v) (Err w) e = ap Err (refused-one v w e)

pub compared-one : (a b : Result Ordering Refused) → said_compared a ≡ said_compared b → a ≡ b
compared-one (Ok m) (Ok n) e = ap Ok (place-one m n (same-value e))
compared-one (Ok m) (Err w) e = no-refusal w.why e
compared-one (Err v) (Ok n) e = no-refusal v.why (sym e)
compared-one (Err v) (Err w) e = ap Err (refused-one v w e)

pub judged-one : (a b : Result (Unit {0}) Refused) → said_judged a ≡ said_judged b → a ≡ b
judged-one (Ok a) (Ok b) e = refl
judged-one (Ok a) (Err w) e = no-refusal w.why e
judged-one (Err v) (Ok b) e = no-refusal v.why (sym e)
judged-one (Err v) (Err w) e = ap Err (refused-one v w e)

-- two parts that a call may hand back have one number, hold the same bytes and lie at the same place
module _ (said : Answer) (s : Bor (List ℕ)) (start : ℕ) (a b : Part) where
  pub part-one : (said_part a ≡ said) × LiesFrom s start a.bytes → (said_part b ≡ said) × LiesFrom s start b.bytes
      → (a.refusal ≡ b.refusal)
      × ((a.bytes.now ≡ b.bytes.now) × ((a.bytes.ref_ptr.0 ≡ b.bytes.ref_ptr.0) × (a.bytes.ref_ptr.1 ≡ b.bytes.ref_ptr.1)))
  part-one p q = (
    ap (λ (x : Answer). x.number) (p.0 ∙ sym q.0),
    (ap (λ (x : Answer). x.values) (p.0 ∙ sym q.0), (p.1.0 ∙ sym q.1.0, p.1.1 ∙ sym q.1.1)),
  )
