-- Every member, and the first that passes a test, by positions. Assumes nothing.
use Prim.Native.Nat.{ℕ, zero, suc, ◌≤◌, ◌<◌}
use mathlib.Core.Path.{◌≡◌, refl, ap}
use mathlib.Core.Bool.{Bool, true, false, ◌&&◌}
use mathlib.Core.List.{List, [], ◌∷◌, ◌++◌, map}
use native.Mathlib.Nat.{not-suc-le-zero, le_of_suc-le-suc}
use native.Mathlib.Omega.{arith}
use lib.ListN.{length, get_or, take, drop}
use Rattle.bank.specs.Lists.{here_or_later}
pub use Rattle.lent_cells.proofs.Cells.{never, both}
use Rattle.leaf_entries.specs.Lists.{every, first_where}

pub and_no : (a : Bool) → false ≡ a && false
and_no true = refl
and_no false = refl

module _ {A : Type 0} (test : A → Bool) (d : A) where
  -- ---- every member

  pub every-at : (xs : List A) → every test xs ≡ true → (i : ℕ) → i < length xs → test (get_or xs i d) ≡ true
  unfolding every
  every-at [] e i h = absurd (not-suc-le-zero h)
  every-at (x ∷ xs) e zero h = (both {a = test x} e).0
  every-at (x ∷ xs) e (suc i) h = every-at xs (both {a = test x} e).1 i (le_of_suc-le-suc h)

  pub every-all : (xs : List A) → ((i : ℕ) → i < length xs → test (get_or xs i d) ≡ true) → true ≡ every test xs
  unfolding every
  every-all [] f = refl
  every-all (x ∷ xs) f = rw (f 0 (omega arith)) (every-all xs (λ i h. f (suc i) (omega arith)))

  pub every-not : (xs : List A) (i : ℕ) → i < length xs → test (get_or xs i d) ≡ false → false ≡ every test xs
  unfolding every
  every-not [] i h e = absurd (not-suc-le-zero h)
  every-not (x ∷ xs) zero h e = rw e
  every-not (x ∷ xs) (suc i) h e = rw (← every-not xs i (le_of_suc-le-suc h) e) (and_no (test x))

  -- what holds of every member of two lists, and of the parts of a list
  pub every-join : (xs ys : List A) → every test xs ≡ true → every test ys ≡ true → every test (xs ++ ys) ≡ true
  unfolding every
  every-join [] ys e f = f
  every-join (x ∷ xs) ys e f =
      rw (both {a = test x} e).0 (every-join xs ys (both {a = test x} e).1 f)

  pub every_take : (n : ℕ) (xs : List A) → every test xs ≡ true → every test (take n xs) ≡ true
  unfolding every
  every_take zero xs e = refl
  every_take (suc n) [] e = refl
  every_take (suc n) (x ∷ xs) e = rw (both {a = test x} e).0 (every_take n xs (both {a = test x} e).1)

  pub every_drop : (n : ℕ) (xs : List A) → every test xs ≡ true → every test (drop n xs) ≡ true
  unfolding every
  every_drop zero xs e = e
  every_drop (suc n) [] e = refl
  every_drop (suc n) (x ∷ xs) e = every_drop n xs (both {a = test x} e).1

  -- ---- the first that passes

  pub first-at : (xs : List A) (i : ℕ) → i < length xs → ((k : ℕ) → k < i → test (get_or xs k d) ≡ false) → test (get_or xs i d) ≡ true
      → i ≡ first_where test xs
  unfolding first_where
  first-at [] i h f e = absurd (not-suc-le-zero h)
  first-at (x ∷ xs) zero h f e = rw e
  first-at (x ∷ xs) (suc i) h f e =
      rw (f 0 (omega arith)) (ap suc (first-at xs i (le_of_suc-le-suc h) (λ k l. f (suc k) (omega arith)) e))

  pub first-none : (xs : List A) → ((k : ℕ) → k < length xs → test (get_or xs k d) ≡ false) → length xs ≡ first_where test xs
  unfolding first_where
  first-none [] f = refl
  first-none (x ∷ xs) f = rw (f 0 (omega arith)) (ap suc (first-none xs (λ k l. f (suc k) (omega arith))))

  pub first-le : (xs : List A) → first_where test xs ≤ length xs
  unfolding first_where
  first-le [] = omega arith
  first-le (x ∷ xs) = by (test x) (first-le xs)
    where
      by : (b : Bool) → first_where test xs ≤ length xs → here_or_later b (first_where test xs) ≤ suc (length xs)
      by true h = omega arith
      by false h = omega arith

  pub first_passes : (xs : List A) → first_where test xs < length xs → test (get_or xs (first_where test xs) d) ≡ true
  unfolding first_where
  first_passes [] h = absurd (not-suc-le-zero h)
  first_passes (x ∷ xs) h = by (test x) refl (first_passes xs) h
    where
      by : (b : Bool) → test x ≡ b → (first_where test xs < length xs → test (get_or xs (first_where test xs) d) ≡ true)
          → here_or_later b (first_where test xs) < suc (length xs)
          → test (get_or (x ∷ xs) (here_or_later b (first_where test xs)) d) ≡ true
      by true e f l = e
      by false e f l = f (le_of_suc-le-suc l)

  pub first-before : (xs : List A) (k : ℕ) → k < first_where test xs → test (get_or xs k d) ≡ false
  unfolding first_where
  first-before [] k h = absurd (not-suc-le-zero h)
  first-before (x ∷ xs) k h = by (test x) refl (first-before xs) k h
    where
      by : (b : Bool) → test x ≡ b → ((k : ℕ) → k < first_where test xs → test (get_or xs k d) ≡ false)
          → (k : ℕ) → k < here_or_later b (first_where test xs) → test (get_or (x ∷ xs) k d) ≡ false
      by true e f k l = absurd (not-suc-le-zero l)
      by false e f zero l = e
      by false e f (suc k) l = f k (le_of_suc-le-suc l)

-- ---- a list under a function

module _ {A B : Type 0} (f : A → B) where
  pub get_d_map : (xs : List A) (i : ℕ) (d : A) (z : B) → i < length xs → get_or (map f xs) i z ≡ f (get_or xs i d)
  get_d_map [] i d z h = absurd (not-suc-le-zero h)
  get_d_map (x ∷ xs) zero d z h = refl
  get_d_map (x ∷ xs) (suc i) d z h = get_d_map xs i d z (le_of_suc-le-suc h)

  pub map-append : (xs ys : List A) → map f (xs ++ ys) ≡ map f xs ++ map f ys
  map-append [] ys = refl
  map-append (x ∷ xs) ys = ap (λ (l : List B). f x ∷ l) (map-append xs ys)

  pub map-take : (n : ℕ) (xs : List A) → map f (take n xs) ≡ take n (map f xs)
  map-take zero xs = refl
  map-take (suc n) [] = refl
  map-take (suc n) (x ∷ xs) = ap (λ (l : List B). f x ∷ l) (map-take n xs)

  pub map-drop : (n : ℕ) (xs : List A) → map f (drop n xs) ≡ drop n (map f xs)
  map-drop zero xs = refl
  map-drop (suc n) [] = refl
  map-drop (suc n) (x ∷ xs) = map-drop n xs
