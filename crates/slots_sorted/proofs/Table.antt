-- The rule of the table: one test over all entries, and what it says of each. Assumes nothing.
use mathlib.Core.Path.{◌≡◌, refl, sym, ap, ◌∙◌}
use mathlib.Core.Bool.{Bool, true, cond, ◌&&◌}
use mathlib.Core.List.{List, [], ◌∷◌}
use Prim.Native.Nat.{ℕ, zero, suc, ◌+◌, ◌-◌, ◌*◌, ◌/◌, ◌%◌, ◌≤◌, ◌<◌}
use native.Mathlib.Nat.{not-suc-le-zero, le_of_suc-le-suc, add-zero, zero-add, add-suc, suc-add}
use native.Mathlib.Omega.{arith}
use lib.Dec.{T, leb, eqb, eqb→eq}
use lib.ListN.{length, get_or}
use borrow.Author.Tests.{le-leb}
use Rattle.bank.specs.Lists.{listed}
use Rattle.bank.specs.Bank.{sorted}
use Rattle.bank.proofs.Tests.{and_left, and_right}
use Rattle.nibbles.specs.Nibbles.{pack}
use Rattle.nibbles.specs.Words.{word_of}
use Rattle.slots_sorted.specs.Table.{ruled, table}

-- ---- a rule, tested over a list

-- the rule holds of each member, from number i on
abbrev passes : (ℕ → ℕ) → ℕ → List ℕ → Bool
passes rule i [] = true
passes rule i (x ∷ xs) = eqb x (rule i) && passes rule (suc i) xs

passed : (rule : ℕ → ℕ) (xs : List ℕ) (i : ℕ) → T (passes rule i xs) → (k : ℕ) → k < length xs → get_or xs k 0 ≡ rule (i + k)
passed rule [] i t k h = absurd (not-suc-le-zero h)
passed rule (x ∷ xs) i t zero h = eqb→eq x (rule i) (and_left (eqb x (rule i)) (passes rule (suc i) xs) t) ∙ ap rule (sym (add-zero i))
passed rule (x ∷ xs) i t (suc k) h =
    passed rule xs (suc i) (and_right (eqb x (rule i)) (passes rule (suc i) xs) t) k (le_of_suc-le-suc h)
    ∙ ap rule (suc-add i k ∙ sym (add-suc i k))

-- the one test over the 240 words
all-ruled : T (passes ruled 0 table)
unfolding table sorted listed pack
all-ruled = tt

long : length table ≡ 240
unfolding table
long = refl

entry-ruled : (k : ℕ) → k < 240 → get_or table k 0 ≡ ruled k
entry-ruled k h = passed ruled table 0 all-ruled k (omega (arith, long)) ∙ ap ruled (zero-add k)

-- the rule, carried to the entry of a width and a size
pub table-ruled : (w n : ℕ) → 1 ≤ w → w ≤ 15 → n ≤ 15 → get_or table ((w - 1) * 16 + n) 0 ≡ cond (leb n w) (word_of (sorted w n)) 0
table-ruled w n a b c =
    entry-ruled ((w - 1) * 16 + n) (omega arith)
    ∙ rw (let z : ((w - 1) * 16 + n) % 16 ≡ n = omega arith in z, let y : ((w - 1) * 16 + n) / 16 + 1 ≡ w = omega arith in y)

pub sorted-entry : (w n : ℕ) → 1 ≤ w → n ≤ w → w ≤ 15 → get_or table ((w - 1) * 16 + n) 0 ≡ word_of (sorted w n)
sorted-entry w n a b c = table-ruled w n a c (omega arith) ∙ rw (le-leb n w b)

-- ---- past the last entry

-- x is none of the numbers below n, as a match leaves it
abbrev pub Others : ℕ → ℕ → Type 0
Others x zero = Unit {0}
Others x (suc n) = Others x n × (x ≡ n → ⊥)

beyond : (x n : ℕ) → Others x n → n ≤ x
beyond x zero o = omega arith
beyond x (suc n) o = omega (arith, beyond x n o.0, o.1)

get_d-out : (xs : List ℕ) (k : ℕ) → length xs ≤ k → 0 ≡ get_or xs k 0
get_d-out [] k h = refl
get_d-out (x ∷ xs) zero h = absurd (not-suc-le-zero h)
get_d-out (x ∷ xs) (suc k) h = get_d-out xs k (le_of_suc-le-suc h)

pub entry-none : (x : ℕ) → Others x 240 → 0 ≡ get_or table x 0
entry-none x o = get_d-out table x (omega (arith, long, beyond x 240 o))
