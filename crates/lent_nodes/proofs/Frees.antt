-- Laws on free numbers: the lowest is free and those below it are in use, and what a store or a freed block changes. Assumes nothing.
use mathlib.Core.Path.{◌≡◌, refl, ap, sym, ◌∙◌}
use mathlib.Core.Bool.{Bool, true, false}
use mathlib.Core.List.{List, [], ◌∷◌}
use mathlib.Core.Logic.{⊎_elim, ◌⊎◌}
use Prim.Native.Nat.{ℕ, zero, suc, ◌+◌, ◌-◌, ◌≤◌, ◌<◌}
use native.Mathlib.Nat.{eq-or-lt_of_le, sub-zero, zero-add, mul-le-mul_right, suc-mul}
use native.Mathlib.Numerals.{add-one}
use native.Mathlib.Decide.{ℕ_discrete}
use native.Mathlib.Omega.{arith}
use lib.ListN.{length, get_or}
use lib.Dec.{eqb}
use borrow.Author.Tests.{eq-eqb, ne_eqb}
use Rattle.std.specs.Prelude.{Some, None}
use Rattle.lent_words.specs.Parts.{put_part}
use Rattle.lent_nodes.specs.Free.{cons_if, passing, is_free, frees, free_cells, every, lowest}
use Rattle.lent_nodes.specs.Layout.{cell_start}
use Rattle.lent_words.proofs.Words.{first-put, put-out}

-- ---- any test

no-head : {k : ℕ} {ks : List ℕ} → [] ≡ k ∷ ks → ⊥
no-head e = let z : ◌≡◌ {A = ℕ} 0 1 = cc in omega arith

-- the lowest that passes: it is in the range, it passes, and none below it does
pub record First (test : ℕ → Bool) (i n k : ℕ) : Type 0 where
  pub low : i ≤ k
  pub high : k < i + n
  pub passes : test k ≡ true
  pub none_below : (j : ℕ) → i ≤ j → j < k → test j ≡ false

pub first-passing : (test : ℕ → Bool) (i n : ℕ) {k : ℕ} {ks : List ℕ} → passing test i n ≡ k ∷ ks → First test i n k
unfolding passing
first-passing test i zero e = absurd (no-head e)
first-passing test i (suc n) {k} {ks} e = by (test i) refl (first-passing test (suc i) n) e
  where
    by : (b : Bool) → test i ≡ b → (passing test (suc i) n ≡ k ∷ ks → First test (suc i) n k)
        → cons_if b i (passing test (suc i) n) ≡ k ∷ ks → First test i (suc n) k
    by true t f d = let q : i ≡ k = cc in record {
      low = omega arith;
      high = omega arith;
      passes = ap test (sym q) ∙ t;
      none_below =
          λ j l h. absurd (omega arith);
    }
    by false t f d =
        let r = f d in
        record {
          low = omega (arith, r.low);
          high = omega (arith, r.high);
          passes = r.passes;
          none_below = λ j l h. ⊎_elim (λ q. ap test (sym q) ∙ t) (λ g. r.none_below j g h) (eq-or-lt_of_le l);
        }

-- none passes
pub all-used : (test : ℕ → Bool) (i n : ℕ) → passing test i n ≡ [] → (j : ℕ) → i ≤ j → j < i + n → test j ≡ false
unfolding passing
all-used test i zero e j l h = absurd (omega arith)
all-used test i (suc n) e j l h = by (test i) refl e (λ d g. all-used test (suc i) n d j g (omega arith))
  where
    by : (b : Bool) → test i ≡ b → cons_if b i (passing test (suc i) n) ≡ [] → (passing test (suc i) n ≡ [] → i < j → test j ≡ false)
        → test j ≡ false
    by true t d f = absurd (no-head (sym d))
    by false t d f = ⊎_elim (λ q. ap test (sym q) ∙ t) (f d) (eq-or-lt_of_le l)

-- all pass
pub all_pass : (test : ℕ → Bool) (i n : ℕ) → ((j : ℕ) → i ≤ j → j < i + n → test j ≡ true) → length (passing test i n) ≡ n
unfolding passing
all_pass test i zero f = refl
all_pass test i (suc n) f =
    rw (f i (omega arith) (omega arith)) (ap suc (all_pass test (suc i) n (λ j l h. f j (omega arith) (omega arith))))

-- two tests that agree in the range
pub passing-same : (p q : ℕ → Bool) (i n : ℕ) → ((j : ℕ) → i ≤ j → q j ≡ p j) → passing q i n ≡ passing p i n
unfolding passing
passing-same p q i zero f = refl
passing-same p q i (suc n) f = rw (f i (omega arith), passing-same p q (suc i) n (λ j l. f j (omega arith)))

-- the test fails at k from now on, and elsewhere is as it was: the list loses its first number, if that is k ..
pub first_taken : (p q : ℕ → Bool) (i n : ℕ) {k : ℕ} {ks : List ℕ} → passing p i n ≡ k ∷ ks → q k ≡ false
    → ((j : ℕ) → (j ≡ k → ⊥) → q j ≡ p j) → passing q i n ≡ ks
unfolding passing
first_taken p q i zero e t f = absurd (no-head e)
first_taken p q i (suc n) {k} {ks} e t f = by (p i) refl (λ d. first_taken p q (suc i) n d t f) e
  where
    by : (b : Bool) → p i ≡ b → (passing p (suc i) n ≡ k ∷ ks → passing q (suc i) n ≡ ks) → cons_if b i (passing p (suc i) n) ≡ k ∷ ks
        → cons_if (q i) i (passing q (suc i) n) ≡ ks
    by true u g d =
        let h : i ≡ k = cc in
        let r : passing p (suc i) n ≡ ks = cc in
        rw (ap q h ∙ t) (passing-same p q (suc i) n (λ j l. f j (λ z. omega arith)) ∙ r)
    by false u g d =
        let low = (first-passing p (suc i) n d).low in
        rw (f i (λ z. omega arith) ∙ u) (g d)

-- .. and one number, wherever k stands in the range
pub one_fewer : (p q : ℕ → Bool) (k i n : ℕ) → i ≤ k → k < i + n → p k ≡ true → q k ≡ false → ((j : ℕ) → (j ≡ k → ⊥) → q j ≡ p j)
    → length (passing p i n) ≡ length (passing q i n) + 1
unfolding passing
one_fewer p q k i zero l h a b f = absurd (omega arith)
one_fewer p q k i (suc n) l h a b f = ⊎_elim here (λ g. later g (one_fewer p q k (suc i) n g (omega arith) a b f)) (eq-or-lt_of_le l)
  where
    here : i ≡ k → length (cons_if (p i) i (passing p (suc i) n)) ≡ length (cons_if (q i) i (passing q (suc i) n)) + 1
    here e = rw (ap p e ∙ a, ap q e ∙ b, passing-same p q (suc i) n (λ j g. f j (λ z. omega arith)), add-one)

    longer : (t : Bool) (u v : List ℕ) → length u ≡ length v + 1 → length (cons_if t i u) ≡ length (cons_if t i v) + 1
    longer true u v e = omega arith
    longer false u v e = e

    later : i < k → length (passing p (suc i) n) ≡ length (passing q (suc i) n) + 1
        → length (cons_if (p i) i (passing p (suc i) n)) ≡ length (cons_if (q i) i (passing q (suc i) n)) + 1
    later g e = rw (f i (λ z. omega arith)) (longer (p i) _ _ e)

-- ---- a part is written at k's place, and no other number's place is in it

module _ (place : ℕ → ℕ) (xs : List ℕ) (k : ℕ) (ys : List ℕ) (fits : place k + length ys ≤ length xs) (some : 0 < length ys)
    (outside : (j : ℕ) → (j ≡ k → ⊥) → (place j < place k) ⊎ (place k + length ys ≤ place j)) where
  others : (j : ℕ) → (j ≡ k → ⊥) → is_free place (put_part xs (place k) ys) j ≡ is_free place xs j
  others j ne = ap (λ (x : ℕ). eqb x 0) (put-out xs (place k) ys fits (place j) (outside j ne))

  now : is_free place (put_part xs (place k) ys) k ≡ eqb (get_or ys 0 0) 0
  now = ap (λ (x : ℕ). eqb x 0) (first-put xs (place k) ys fits some)

  -- the lowest free number is taken
  pub lowest-taken : (n : ℕ) {ks : List ℕ} → frees place xs n ≡ k ∷ ks → (get_or ys 0 0 ≡ 0 → ⊥)
      → frees place (put_part xs (place k) ys) n ≡ ks
  lowest-taken n e h = first_taken (is_free place xs) (is_free place (put_part xs (place k) ys)) 0 n e (now ∙ ne_eqb _ _ h) others

  -- a free number is taken, and one in use is freed
  pub fewer-free : (n : ℕ) → k < n → get_or xs (place k) 0 ≡ 0 → (get_or ys 0 0 ≡ 0 → ⊥)
      → length (frees place xs n) ≡ length (frees place (put_part xs (place k) ys) n) + 1
  fewer-free n l a h =
      one_fewer (is_free place xs) (is_free place (put_part xs (place k) ys)) k 0 n (omega arith) (omega arith) (eq-eqb _ _ a)
      (now ∙ ne_eqb _ _ h) others

  pub more-free : (n : ℕ) → k < n → (get_or xs (place k) 0 ≡ 0 → ⊥) → get_or ys 0 0 ≡ 0
      → length (frees place (put_part xs (place k) ys) n) ≡ length (frees place xs n) + 1
  more-free n l a h =
      one_fewer (is_free place (put_part xs (place k) ys)) (is_free place xs) k 0 n (omega arith) (omega arith) (now ∙ eq-eqb _ _ h)
      (ne_eqb _ _ a)
      (λ j ne. sym (others j ne))

  -- one in use is written again
  pub as-free : (n : ℕ) → (get_or xs (place k) 0 ≡ 0 → ⊥) → (get_or ys 0 0 ≡ 0 → ⊥) → frees place (put_part xs (place k) ys) n ≡ frees place xs n
  as-free n a h = passing-same (is_free place xs) (is_free place (put_part xs (place k) ys)) 0 n (λ j l. same j (ℕ_discrete j k))
    where
      same : (j : ℕ) → Dec (j ≡ k) → is_free place (put_part xs (place k) ys) j ≡ is_free place xs j
      same j (yes e) = rw e (now ∙ ne_eqb _ _ h ∙ sym (ne_eqb _ _ a))
      same j (no ne) = others j ne

-- ---- as the loops have them

-- none of the first i numbers passes
abbrev pub Passed : (ℕ → Bool) → ℕ → ℕ → Type 0
Passed test n i = passing test 0 n ≡ passing test i (n - i)

-- found are those of the first i that do
abbrev pub Counted : (ℕ → Bool) → ℕ → ℕ → ℕ → Type 0
Counted test n i found = length (passing test 0 n) ≡ found + length (passing test i (n - i))

pub passed_none : (test : ℕ → Bool) (n : ℕ) → Passed test n 0
passed_none test n = ap (passing test 0) (sym (sub-zero n))

pub counted_none : (test : ℕ → Bool) (n : ℕ) → Counted test n 0 0
counted_none test n = let e : n - 0 ≡ n = sub-zero n in rw (e, zero-add)

module _ (test : ℕ → Bool) (n i : ℕ) (l : i < n) where
  turn : passing test i (n - i) ≡ cons_if (test i) i (passing test (i + 1) (n - (i + 1)))
  unfolding passing
  turn =
      let e : n - i ≡ suc (n - (i + 1)) = omega arith in
      let s : suc i ≡ i + 1 = omega arith in
      rw (e, s)

  hit : test i ≡ true → passing test i (n - i) ≡ i ∷ passing test (i + 1) (n - (i + 1))
  hit t = turn ∙ rw t

  miss : test i ≡ false → passing test i (n - i) ≡ passing test (i + 1) (n - (i + 1))
  miss t = turn ∙ rw t

module _ (place : ℕ → ℕ) (xs : List ℕ) (n i : ℕ) (l : i < n) where
  pub found-lowest : Passed (is_free place xs) n i → get_or xs (place i) 0 ≡ 0 → Some i ≡ lowest (frees place xs n)
  found-lowest p z = rw (p, hit (is_free place xs) n i l (eq-eqb _ _ z))

  pub pass-one : Passed (is_free place xs) n i → (get_or xs (place i) 0 ≡ 0 → ⊥) → Passed (is_free place xs) n (i + 1)
  pass-one p z = p ∙ miss (is_free place xs) n i l (ne_eqb _ _ z)

  pub count-one : (found : ℕ) → Counted (is_free place xs) n i found → get_or xs (place i) 0 ≡ 0
      → Counted (is_free place xs) n (i + 1) (found + 1)
  count-one found p z = let e = ap (length {A = ℕ}) (hit (is_free place xs) n i l (eq-eqb _ _ z)) in omega arith

  pub count_none : (found : ℕ) → Counted (is_free place xs) n i found → (get_or xs (place i) 0 ≡ 0 → ⊥)
      → Counted (is_free place xs) n (i + 1) found
  count_none found p z = let e = ap (length {A = ℕ}) (miss (is_free place xs) n i l (ne_eqb _ _ z)) in omega arith

-- the word that the loop looks at
pub in_words : (start step n i len : ℕ) → i < n → 0 < step → every start step n ≤ len → every start step i < len
in_words start step n i len l h f = omega (arith, mul-le-mul_right step l, suc-mul i step)

module _ (test : ℕ → Bool) (n i : ℕ) (a : i ≤ n) (b : n ≤ i) where
  rest-none : passing test i (n - i) ≡ []
  unfolding passing
  rest-none = let e : n - i ≡ 0 = omega arith in rw e

  pub none-lowest : Passed test n i → None ≡ lowest (passing test 0 n)
  none-lowest p = rw (p, rest-none)

  pub all-counted : {found : ℕ} → Counted test n i found → found ≡ length (passing test 0 n)
  all-counted p = let e = ap (length {A = ℕ}) rest-none in omega arith

-- cells stand at every second word
pub every-cell : (cells : List ℕ) (n : ℕ) → frees (every 0 2) cells n ≡ free_cells cells n
every-cell cells n = passing-same (is_free cell_start cells) (is_free (every 0 2) cells) 0 n (λ j l. rw zero-add)
