-- A step of the walk decides a question: it goes through exactly where the question has a witness, and then it marks what the
-- witness reaches, nothing twice. How `see`, `when`, `and_then` and `each` decide. Assumes nothing.
use mathlib.Core.Path.{◌≡◌, refl, sym, ◌∙◌, subst}
use mathlib.Core.Bool.{Bool, true, false, cond}
use mathlib.Core.List.{List, [], ◌∷◌}
use mathlib.Core.Option.{Option, none, some}
use mathlib.Core.Logic.{⊎_elim}
use Prim.Native.Nat.{ℕ, ◌+◌, ◌≤◌, ◌<◌}
use native.Mathlib.Omega.{arith}
use native.Mathlib.Decide.{ℕ_discrete}
use lib.Dec.{T, eqb, eqb→eq}
use lib.ListN.{length, get_or, set, length-set, get_or-eq_default}
use lib.Seq.{get_or-set_same, get_or-set_other}
use borrow.Author.Tests.{eq-eqb, ne_eqb}
use Rattle.bank.proofs.Tests.{is_true}
use Rattle.order.proofs.Lookup.{same_some}
use Rattle.arena.proofs.Words.{lt-or-ge}
use Rattle.forest.specs.Trees.{once}
use Rattle.forest.specs.Walk.{Seen, Step, when, and_then, each, see}

-- ---- a number counts once at itself, and nowhere else

pub once-same : (n : ℕ) → once n n ≡ 1
unfolding once
once-same n = rw (eq-eqb n n refl)

pub once-other : (n i : ℕ) → (n ≡ i → ⊥) → once n i ≡ 0
unfolding once
once-other n i ne = rw (ne_eqb n i ne)

pub once-most : (n i : ℕ) → once n i ≤ 1
unfolding once
once-most n i = either (eqb n i)
  where
    either : (b : Bool) → cond b 1 0 ≤ 1
    either true = omega arith
    either false = omega arith

-- ---- marks: past the end of the list everything is taken, so nothing beyond it can be seen

abbrev pub mark : Seen → ℕ → ℕ
mark seen i = get_or seen i 1

-- `after` is `seen` with these counts added, and at most once each
pub record Adds (seen : Seen) (count : ℕ → ℕ) (after : Seen) : Type 0 where
  pub as_long : length after ≡ length seen
  pub sum : (i : ℕ) → mark after i ≡ mark seen i + count i
  pub most-once : (i : ℕ) → mark seen i ≤ 1 → mark after i ≤ 1

-- none of the counts is marked yet
abbrev pub Fits : Seen → (ℕ → ℕ) → Type 0
Fits seen count = (i : ℕ) → mark seen i + count i ≤ 1

-- the step goes through exactly where there is a y in Y, and adds what y counts
pub record Decides (step : Step) (Y : Type 0) (count : Y → ℕ → ℕ) : Type 0 where
  pub sound : (seen after : Seen) → step seen ≡ some after → (y : Y) × Adds seen (count y) after
  pub complete : (seen : Seen) (y : Y) → Fits seen (count y)
      → (after : Seen) × (step seen ≡ some after) × Adds seen (count y) after

-- ---- the same question in other words

-- a witness that counts just so
abbrev pub Counting : (Y : Type 0) → (Y → ℕ → ℕ) → (ℕ → ℕ) → Type 0
Counting Y count wanted = (y : Y) × ((i : ℕ) → count y i ≡ wanted i)

pub in_words : {step : Step} {Y Z : Type 0} {c : Y → ℕ → ℕ} {d : Z → ℕ → ℕ} → Decides step Y c
    → ((y : Y) → Counting Z d (c y)) → ((z : Z) → Counting Y c (d z)) → Decides step Z d
in_words D to from = record {
  sound = λ seen after e.
      let (y, a) = D.sound seen after e in
      let (z, q) = to y in
      (z, recount a q);
  complete = λ seen z fits.
      let (y, q) = from z in
      let (after, e, a) = D.complete seen y (λ i. omega (arith, q i, fits i)) in
      (after, e, recount a (λ i. sym (q i)));
}
  where
    recount : {seen after : Seen} {c d : ℕ → ℕ} → Adds seen c after → ((i : ℕ) → d i ≡ c i) → Adds seen d after
    recount a q = record { as_long = a.as_long; sum = λ i. omega (arith, a.sum i, q i); most-once = a.most-once }

-- ---- one number

set-adds : (seen : Seen) (n : ℕ) → mark seen n ≡ 0 → Adds seen (once n) (set seen n 1)
set-adds seen n e = record {
  as_long = length-set seen n 1;
  sum = λ i. go i (ℕ_discrete i n);
  most-once = λ i h. go-most i h (ℕ_discrete i n);
}
  where
    inside : n < length seen
    inside = ⊎_elim (λ h. h) (λ h. absurd (omega (arith, get_or-eq_default seen 1 h))) (lt-or-ge n (length seen))

    go : (i : ℕ) → Dec (i ≡ n) → mark (set seen n 1) i ≡ mark seen i + once n i
    go i (yes q) = rw q (omega (arith, get_or-set_same seen n 1 1 inside, once-same n))
    go i (no ne) = omega (arith, get_or-set_other seen n i 1 1 ne, once-other n i (λ q. ne (sym q)))

    go-most : (i : ℕ) → mark seen i ≤ 1 → Dec (i ≡ n) → mark (set seen n 1) i ≤ 1
    go-most i h (yes q) = rw q (omega (arith, get_or-set_same seen n 1 1 inside))
    go-most i h (no ne) = omega (arith, get_or-set_other seen n i 1 1 ne)

when-some : {A : Type 0} (b : Bool) (o : Option A) {x : A} → when b o ≡ some x → T b × (o ≡ some x)
when-some true o e = (tt, e)
when-some false o e = let z : ◌≡◌ {A = ℕ} 0 1 = cc in absurd (omega arith)

then_some : {A : Type 0} (o : Option A) (f : A → Option A) {x : A} → and_then o f ≡ some x
    → (y : A) × (o ≡ some y) × (f y ≡ some x)
then_some none f e = let z : ◌≡◌ {A = ℕ} 0 1 = cc in absurd (omega arith)
then_some (some y) f e = (y, refl, e)

pub see-decides : (n : ℕ) → Decides (see n) (Unit {0}) (λ _. once n)
unfolding see
see-decides n = record {
  sound = λ seen after e.
      let (b, q) = when-some (eqb (mark seen n) 0) (some (set seen n 1)) e in
      (tt, subst (Adds seen (once n)) (same_some q) (set-adds seen n (eqb→eq _ _ b)));
  complete = λ seen y fits.
      let e : mark seen n ≡ 0 = omega (arith, fits n, once-same n) in
      (set seen n 1, rw e, set-adds seen n e);
}

-- ---- only where a rule holds
pub when-decides : (b : Bool) {step : Step} {Y : Type 0} {c : Y → ℕ → ℕ} → (T b → Decides step Y c)
    → Decides (λ seen. when b (step seen)) (T b × Y) (λ y. c y.1)
when-decides b {step} D = record {
  sound = λ seen after e.
      let (t, q) = when-some b (step seen) e in
      let (y, a) = (D t).sound seen after q in
      ((t, y), a);
  complete = λ seen y fits.
      let (after, e, a) = (D y.0).complete seen y.1 fits in
      (after, rw (is_true b y.0) e, a);
}

-- ---- one step, and then another
pub then-decides : {f g : Step} {Y Z : Type 0} {c : Y → ℕ → ℕ} {d : Z → ℕ → ℕ} → Decides f Y c → Decides g Z d
    → Decides (λ seen. and_then (f seen) g) (Y × Z) (λ y i. c y.0 i + d y.1 i)
then-decides {f} {g} D E = record {
  sound = λ seen after e.
      let (between, p, q) = then_some (f seen) g e in
      let (y, a) = D.sound seen between p in
      let (z, b) = E.sound between after q in
      ((y, z), both a b);
  complete = λ seen y fits.
      let (between, p, a) = D.complete seen y.0 (λ i. omega (arith, fits i)) in
      let (after, q, b) = E.complete between y.1 (λ i. omega (arith, fits i, a.sum i)) in
      (after, rw p q, both a b);
}
  where
    both : {seen between after : Seen} {c d : ℕ → ℕ} → Adds seen c between → Adds between d after
        → Adds seen (λ i. c i + d i) after
    both a b = record {
      as_long = b.as_long ∙ a.as_long;
      sum = λ i. omega (arith, a.sum i, b.sum i);
      most-once = λ i h. b.most-once i (a.most-once i h);
    }

-- ---- one after the other, and never

module _ {X : Type 0} where
  -- a witness for each member of a list, and what they count together
  abbrev pub Each : (X → Type 0) → List X → Type 0
  Each Y [] = Unit {0}
  Each Y (x ∷ xs) = Y x × Each Y xs

  abbrev pub sum_each : {Y : X → Type 0} → ((x : X) → Y x → ℕ → ℕ) → (xs : List X) → Each Y xs → ℕ → ℕ
  sum_each c [] y i = 0
  sum_each c (x ∷ xs) y i = c x y.0 i + sum_each c xs y.1 i

  pub each-decides : {go : X → Step} {Y : X → Type 0} {c : (x : X) → Y x → ℕ → ℕ} → ((x : X) → Decides (go x) (Y x) (c x))
      → (xs : List X) → Decides (each go xs) (Each Y xs) (sum_each c xs)
  unfolding each
  each-decides D [] = record {
    sound = λ seen after e. (tt, subst (Adds seen (λ i. 0)) (same_some e) (nothing seen));
    complete = λ seen y fits. (seen, refl, nothing seen);
  }
    where
      nothing : (seen : Seen) → Adds seen (λ i. 0) seen
      nothing seen = record { as_long = refl; sum = λ i. omega arith; most-once = λ i h. h }
  each-decides D (x ∷ xs) = then-decides (D x) (each-decides D xs)

pub never-decides : {Y : Type 0} {c : Y → ℕ → ℕ} → (Y → ⊥) → Decides (λ seen. none) Y c
never-decides no-witness = record {
  sound = λ seen after e. let z : ◌≡◌ {A = ℕ} 0 1 = cc in absurd (omega arith);
  complete = λ seen y fits. absurd (no-witness y);
}
