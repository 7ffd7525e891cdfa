-- An answer is known by what it says: each contract leaves one outcome, the answer and all of lent memory. Assumes nothing.
use mathlib.Core.Path.{◌≡◌, refl, sym, ap, ap₂, ◌∙◌}
use mathlib.Core.List.{List}
use Prim.Native.Nat.{ℕ}
use native.Mathlib.Omega.{arith}
use Rattle.std.specs.Prelude.{Result, Ok, Err}
use Rattle.refusal.specs.declared.Refusal.{Refusal}
use Rattle.refusal.proofs.Laws.{number-one, not-14}
use Rattle.refusal.proofs.One.{number-of, value_of, differ}
use Rattle.arena.specs.Memory.{Memory, Did, did, cleared, said_cleared}
use Rattle.arena.proofs.One as arena
use Rattle.model.specs.Calls.{find_said, kth_said, removed, put_done}
use Rattle.index_put.specs.declared.PutRefused.{PutRefused}
use Rattle.index_put.specs.declared.PutRefused.TheVariants as put_no
use Rattle.index_questions.specs.declared.Listed.{Listed}
use Rattle.index.specs.Answers.{said_added, said_removed, said_found, said_listed}

-- ---- answers that say the same are the same

pub added-one : (x y : Result ℕ PutRefused) → said_added x ≡ said_added y → x ≡ y
added-one (Ok a) (Ok b) e = ap Ok (value_of 0 e)
added-one (Ok a) (Err (put_no.TooFewNodes k)) e = absurd (let z : 0 ≡ 14 = number-of e in omega arith)
added-one (Ok a) (Err (put_no.Refused r)) e = absurd (differ r (number-of e))
added-one (Err (put_no.TooFewNodes n)) (Ok b) e = absurd (let z : 14 ≡ 0 = number-of e in omega arith)
added-one (Err (put_no.TooFewNodes n)) (Err (put_no.TooFewNodes k)) e = ap (λ (n : ℕ). Err (put_no.TooFewNodes n)) (value_of 0 e)
added-one (Err (put_no.TooFewNodes n)) (Err (put_no.Refused r)) e = absurd (not-14 r (number-of e))
added-one (Err (put_no.Refused r)) (Ok b) e = absurd (differ r (sym (number-of e)))
added-one (Err (put_no.Refused r)) (Err (put_no.TooFewNodes k)) e = absurd (not-14 r (sym (number-of e)))
added-one (Err (put_no.Refused r)) (Err (put_no.Refused q)) e = ap (λ (r : Refusal). Err (put_no.Refused r)) (number-one r q (number-of e))

pub removed-one : (x y : Result (Unit {0}) Refusal) → said_removed x ≡ said_removed y → x ≡ y
removed-one (Ok _) (Ok _) e = refl
removed-one (Ok _) (Err r) e = absurd (differ r (number-of e))
removed-one (Err r) (Ok _) e = absurd (differ r (sym (number-of e)))
removed-one (Err r) (Err q) e = ap Err (number-one r q (number-of e))

pub found-one : (x y : Result ℕ Refusal) → said_found x ≡ said_found y → x ≡ y
found-one (Ok a) (Ok b) e = ap Ok (value_of 0 e)
found-one (Ok a) (Err r) e = absurd (differ r (number-of e))
found-one (Err r) (Ok b) e = absurd (differ r (sym (number-of e)))
found-one (Err r) (Err q) e = ap Err (number-one r q (number-of e))

-- the same numbers, the same entry
same-listed : (a b : Listed) → a.cell ≡ b.cell → a.length ≡ b.length → a.frame ≡ b.frame → a ≡ b
same-listed a b p q r =
    ap₂ (λ (c l : ℕ). record { cell = c; length = l; frame = a.frame }) p q
    ∙ ap (λ (f : ℕ). record { cell = b.cell; length = b.length; frame = f }) r

pub listed-one : (x y : Result Listed Refusal) → said_listed x ≡ said_listed y → x ≡ y
listed-one (Ok a) (Ok b) e =
    let p : a.cell ≡ b.cell = value_of 0 e in
    let q : a.length ≡ b.length = value_of 1 e in
    let r : a.frame ≡ b.frame = value_of 2 e in
    ap Ok (same-listed a b p q r)
listed-one (Ok a) (Err r) e = absurd (differ r (number-of e))
listed-one (Err r) (Ok b) e = absurd (differ r (sym (number-of e)))
listed-one (Err r) (Err q) e = ap Err (number-one r q (number-of e))

-- ---- any two outcomes that a contract admits are one

pub clear-once : (m : Memory) (x y : Result (Unit {0}) Refusal) (after other : Memory) → did (said_cleared x) after ≡ cleared m
    → did (said_cleared y) other ≡ cleared m → (x ≡ y) × (after ≡ other)
clear-once m x y after other e f = arena.clear-one m x y after other e f

pub find-once : (m : Memory) (key : List ℕ) (x y : Result ℕ Refusal) → said_found x ≡ find_said m key → said_found y ≡ find_said m key → x ≡ y
find-once m key x y e f = found-one x y (e ∙ sym f)

pub kth-once : (m : Memory) (k : ℕ) (x y : Result Listed Refusal) → said_listed x ≡ kth_said m k → said_listed y ≡ kth_said m k → x ≡ y
kth-once m k x y e f = listed-one x y (e ∙ sym f)

pub remove-once : (m : Memory) (key : List ℕ) (x y : Result (Unit {0}) Refusal) (after other : Memory) → did (said_removed x) after ≡ removed m key
    → did (said_removed y) other ≡ removed m key → (x ≡ y) × (after ≡ other)
remove-once m key x y after other e f =
    let q : did (said_removed x) after ≡ did (said_removed y) other = e ∙ sym f in
    (removed-one x y (ap (λ (d : Did). d.answer) q), ap (λ (d : Did). d.after) q)

pub put-once : (m : Memory) (key : List ℕ) (frame : ℕ) (x y : Result ℕ PutRefused) (after other : Memory) → did (said_added x) after ≡ put_done m key frame
    → did (said_added y) other ≡ put_done m key frame → (x ≡ y) × (after ≡ other)
put-once m key frame x y after other e f =
    let q : did (said_added x) after ≡ did (said_added y) other = e ∙ sym f in
    (added-one x y (ap (λ (d : Did). d.answer) q), ap (λ (d : Did). d.after) q)
