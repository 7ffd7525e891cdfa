-- An answer is known by what it says: each contract leaves one outcome. Assumes nothing.
use Prim.Native.Nat.{ℕ}
use mathlib.Core.Path.{◌≡◌, sym, ap, ◌∙◌}
use mathlib.Core.List.{List}
use native.Mathlib.Omega.{arith}
use Rattle.std.specs.Prelude.{Result, Ok, Err}
use Rattle.refusal.proofs.One.{number-of, value_of}
use Rattle.label_said.specs.Read.{read_said, read_first_said}
use Rattle.label_read.specs.declared.Label.{Label}
use Rattle.label_read.specs.declared.Label.TheVariants.{First, Second}
use Rattle.label_read.specs.declared.FirstLabel.{FirstLabel}
use Rattle.label_read.specs.declared.Unknown.{Unknown}
use Rattle.label_read.specs.Answers.{said_label, said_first_label}

label-one : (x y : Result Label Unknown) → said_label x ≡ said_label y → x ≡ y
label-one (Ok (First s b f)) (Ok (First t c g)) e = rw (value_of 1 e, value_of 2 e, value_of 3 e)
label-one (Ok (First s b f)) (Ok (Second t c g)) e = absurd (let z : 1 ≡ 2 = value_of 0 e in omega arith)
label-one (Ok (First s b f)) (Err k) e = absurd (let z : 0 ≡ 19 = number-of e in omega arith)
label-one (Ok (Second s b f)) (Ok (First t c g)) e = absurd (let z : 2 ≡ 1 = value_of 0 e in omega arith)
label-one (Ok (Second s b f)) (Ok (Second t c g)) e = rw (value_of 1 e, value_of 2 e, value_of 3 e)
label-one (Ok (Second s b f)) (Err k) e = absurd (let z : 0 ≡ 19 = number-of e in omega arith)
label-one (Err j) (Ok (First t c g)) e = absurd (let z : 19 ≡ 0 = number-of e in omega arith)
label-one (Err j) (Ok (Second t c g)) e = absurd (let z : 19 ≡ 0 = number-of e in omega arith)
label-one (Err j) (Err k) e = ap (λ (n : ℕ). Err (record { edition = n })) (value_of 0 e)

mk : ℕ → ℕ → ℕ → FirstLabel
mk s b f = record { station = s; burst = b; frame = f }

same-fields : {l m : FirstLabel} → l.station ≡ m.station → l.burst ≡ m.burst → l.frame ≡ m.frame → l ≡ m
unfolding mk
same-fields {l} {m} p q r = let h : mk l.station l.burst l.frame ≡ mk m.station m.burst m.frame = cc in h

first_one : (x y : Result FirstLabel Unknown) → said_first_label x ≡ said_first_label y → x ≡ y
first_one (Ok l) (Ok m) e = ap Ok (same-fields (value_of 0 e) (value_of 1 e) (value_of 2 e))
first_one (Ok l) (Err k) e = absurd (let z : 0 ≡ 19 = number-of e in omega arith)
first_one (Err j) (Ok m) e = absurd (let z : 19 ≡ 0 = number-of e in omega arith)
first_one (Err j) (Err k) e = ap (λ (n : ℕ). Err (record { edition = n })) (value_of 0 e)

pub read-once : (label : List ℕ) (x y : Result Label Unknown) → said_label x ≡ read_said label → said_label y ≡ read_said label → x ≡ y
read-once label x y e f = label-one x y (e ∙ sym f)

pub read-first-once : (label : List ℕ) (x y : Result FirstLabel Unknown)
    → said_first_label x ≡ read_first_said label → said_first_label y ≡ read_first_said label → x ≡ y
read-first-once label x y e f = first_one x y (e ∙ sym f)
