-- Lists under a function: what holds of each member, sums, and lists put together, on either side of it. Assumes nothing.
use mathlib.Core.Path.{◌≡◌, refl, sym, ap, ap₂, ◌∙◌}
use mathlib.Core.List.{List, [], ◌∷◌, ◌++◌, map}
use Prim.Native.Nat.{ℕ, ◌+◌}
use native.Mathlib.Omega.{arith}
use Rattle.order.specs.Map.{All, a[], ◌a∷◌}
use Rattle.order.specs.Lists.{total, flattened}
use Rattle.order.proofs.Map.{all_append}
use Rattle.leaf.proofs.Lists.{map-append}

pub map-map : {A B C : Type 0} (f : A → B) (g : B → C) (xs : List A) → map g (map f xs) ≡ map (λ x. g (f x)) xs
map-map f g [] = refl
map-map f g (x ∷ xs) = ap (λ (ys : List _). g (f x) ∷ ys) (map-map f g xs)

pub map_same : {A B : Type 0} {f g : A → B} → ((x : A) → f x ≡ g x) → (xs : List A) → map f xs ≡ map g xs
map_same h [] = refl
map_same h (x ∷ xs) = λ i. h x i ∷ map_same h xs i

-- the first members of two lists that are equal, and the rest
pub heads : {A : Type 0} {x y : A} {xs ys : List A} → x ∷ xs ≡ y ∷ ys → x ≡ y
heads e = cc

pub tails : {A : Type 0} {x y : A} {xs ys : List A} → x ∷ xs ≡ y ∷ ys → xs ≡ ys
tails e = cc

pub nil-not-cons : {A B : Type 0} {y : A} {ys : List A} → [] ≡ y ∷ ys → B
nil-not-cons e = let z : ◌≡◌ {A = ℕ} 0 1 = cc in absurd (omega arith)

module _ {A B : Type 0} (f : A → B) where
  -- a function that tells members apart tells lists apart
  pub map-exact : ((x y : A) → f x ≡ f y → x ≡ y) → (xs ys : List A) → map f xs ≡ map f ys → xs ≡ ys
  map-exact h [] [] e = refl
  map-exact h [] (y ∷ ys) e = nil-not-cons e
  map-exact h (x ∷ xs) [] e = nil-not-cons (sym e)
  map-exact h (x ∷ xs) (y ∷ ys) e =
      let first : x ≡ y = h x y (heads e) in
      let later : xs ≡ ys = map-exact h xs ys (tails e) in
      λ i. first i ∷ later i

  -- what holds of each member, there and back
  module _ {P : A → Type 0} {Q : B → Type 0} where
    pub all-to : ((x : A) → P x → Q (f x)) → {xs : List A} → All P xs → All Q (map f xs)
    all-to h a[] = a[]
    all-to h (p a∷ ps) = (h _ p) a∷ (all-to h ps)

    pub all_from : ((x : A) → Q (f x) → P x) → (xs : List A) → All Q (map f xs) → All P xs
    all_from h [] qs = a[]
    all_from h (x ∷ xs) (q a∷ qs) = h x q a∷ all_from h xs qs

  -- a list of which each member is one of f is one of f
  pub unmap : {ys : List B} → All (λ y. (x : A) × (f x ≡ y)) ys → (xs : List A) × (map f xs ≡ ys)
  unmap a[] = ([], refl)
  unmap ((x, e) a∷ rest) = let (xs, es) = unmap rest in (x ∷ xs, λ i. e i ∷ es i)

  -- sums
  pub total-view : (g : A → ℕ) (h : B → ℕ) → ((x : A) → h (f x) ≡ g x) → (xs : List A) → total h (map f xs) ≡ total g xs
  total-view g h e [] = refl
  total-view g h e (x ∷ xs) = ap₂ ◌+◌ (e x) (total-view g h e xs)

  -- lists put together
  pub flattened-map : {C : Type 0} (g : B → List C) (xs : List A) → flattened g (map f xs) ≡ flattened (λ x. g (f x)) xs
  flattened-map g [] = refl
  flattened-map g (x ∷ xs) = ap (g (f x) ++◌) (flattened-map g xs)

  pub map-flattened : {C : Type 0} (g : C → List A) (h : C → List B) → ((x : C) → map f (g x) ≡ h x) → (xs : List C)
      → map f (flattened g xs) ≡ flattened h xs
  map-flattened g h e [] = refl
  map-flattened g h e (x ∷ xs) = map-append f (g x) (flattened g xs) ∙ ap₂ ◌++◌ (e x) (map-flattened g h e xs)

pub total-zero : {A : Type 0} (g : A → ℕ) → ((x : A) → g x ≡ 0) → (xs : List A) → total g xs ≡ 0
total-zero g h [] = refl
total-zero g h (x ∷ xs) = omega (arith, h x, total-zero g h xs)

pub flattened-all : {A B : Type 0} {P : A → Type 0} {Q : B → Type 0} (g : A → List B) → ((x : A) → P x → All Q (g x)) → {xs : List A}
    → All P xs → All Q (flattened g xs)
flattened-all g h a[] = a[]
flattened-all g h (p a∷ ps) = all_append (h _ p) (flattened-all g h ps)
