-- Free numbers: what a write to a node in use leaves, and what taking the lowest leaves. Assumes nothing.
use mathlib.Core.List.{List, [], ◌∷◌}
use mathlib.Core.Logic.{◌≢◌}
use mathlib.Core.Path.{◌≡◌, refl, sym, ap, subst}
use Prim.Native.Nat.{ℕ, ◌≤◌, ◌<◌, zero, suc, ◌+◌}
use native.Mathlib.Omega.{arith}
use lib.ListN.{length, set}
use Rattle.trees.specs.Nodes.{Node, free, leaf, internode, NodeList, node_in, InUse}
use Rattle.trees.specs.FreeNumbers.{free_numbers}

pub heads : {a b : ℕ} {l r : List ℕ} → a ∷ l ≡ b ∷ r → a ≡ b
heads e = cc

module _ {W : Type 0} where
  pub free-kept : (m : NodeList W) (i n : ℕ) (x : Node W) → InUse (node_in m n) → InUse x → free_numbers i (set m n x) ≡ free_numbers i m
  free-kept [] i n x u v = refl
  free-kept (free ∷ m) i zero x u v = absurd u
  free-kept (leaf es ∷ m) i zero (leaf e) u v = refl
  free-kept (leaf es ∷ m) i zero (internode k c) u v = refl
  free-kept (leaf es ∷ m) i zero free u v = absurd v
  free-kept (internode ks cs ∷ m) i zero (leaf e) u v = refl
  free-kept (internode ks cs ∷ m) i zero (internode k c) u v = refl
  free-kept (internode ks cs ∷ m) i zero free u v = absurd v
  free-kept (free ∷ m) i (suc n) x u v = ap (i ∷◌) (free-kept m (suc i) n x u v)
  free-kept (leaf es ∷ m) i (suc n) x u v = free-kept m (suc i) n x u v
  free-kept (internode ks cs ∷ m) i (suc n) x u v = free-kept m (suc i) n x u v

  pub in-use-inside : (m : NodeList W) (n : ℕ) → InUse (node_in m n) → n < length m
  in-use-inside [] n u = absurd u
  in-use-inside (x ∷ m) zero u = omega arith
  in-use-inside (x ∷ m) (suc n) u = omega (arith, in-use-inside m n u)

  -- the lowest one: free, in memory, and taken from the list by a write
  free-taken : (m : NodeList W) (i r : ℕ) (fs : List ℕ) (x : Node W) → InUse x → free_numbers i m ≡ r ∷ fs
      → (n : ℕ) × (r ≡ i + n) × (n < length m) × (free_numbers i (set m n x) ≡ fs)
  free-taken [] i r fs x u e = let z : ◌≡◌ {A = ℕ} 0 1 = cc in absurd (omega arith)
  free-taken (free ∷ m) i r fs (leaf es) u e = (0, omega (arith, sym (heads e)), omega arith, cc)
  free-taken (free ∷ m) i r fs (internode ks cs) u e = (0, omega (arith, sym (heads e)), omega arith, cc)
  free-taken (free ∷ m) i r fs free u e = absurd u
  free-taken (leaf es ∷ m) i r fs x u e =
      let t = free-taken m (suc i) r fs x u e in (suc t.0, omega (arith, t.1), omega (arith, t.2), t.3)
  free-taken (internode ks cs ∷ m) i r fs x u e =
      let t = free-taken m (suc i) r fs x u e in (suc t.0, omega (arith, t.1), omega (arith, t.2), t.3)

  lowest-from : (m : NodeList W) (i r : ℕ) (fs : List ℕ) → free_numbers i m ≡ r ∷ fs → i ≤ r
  lowest-from [] i r fs e = let z : ◌≡◌ {A = ℕ} 0 1 = cc in absurd (omega arith)
  lowest-from (free ∷ m) i r fs e = let z : i ≡ r = cc in omega arith
  lowest-from (leaf es ∷ m) i r fs e = omega (arith, lowest-from m (suc i) r fs e)
  lowest-from (internode ks cs ∷ m) i r fs e = omega (arith, lowest-from m (suc i) r fs e)

  -- it is the number of a free node
  lowest-free : (m : NodeList W) (i r : ℕ) (fs : List ℕ) → free_numbers i m ≡ r ∷ fs → (k : ℕ) → r ≡ i + k → node_in m k ≡ free
  lowest-free [] i r fs e k q = refl
  lowest-free (free ∷ m) i r fs e zero q = refl
  lowest-free (free ∷ m) i r fs e (suc k) q = let z : i ≡ r = cc in absurd (omega arith)
  lowest-free (leaf es ∷ m) i r fs e zero q = absurd (omega (arith, lowest-from m (suc i) r fs e))
  lowest-free (internode ks cs ∷ m) i r fs e zero q = absurd (omega (arith, lowest-from m (suc i) r fs e))
  lowest-free (leaf es ∷ m) i r fs e (suc k) q = lowest-free m (suc i) r fs e k (omega arith)
  lowest-free (internode ks cs ∷ m) i r fs e (suc k) q = lowest-free m (suc i) r fs e k (omega arith)

  pub in-use-not-lowest : (m : NodeList W) (k r : ℕ) (fs : List ℕ) → InUse (node_in m k) → free_numbers 0 m ≡ r ∷ fs → k ≢ r
  in-use-not-lowest m k r fs u e q = subst InUse (lowest-free m 0 r fs e k (let z : r ≡ 0 + k = omega arith in z)) u

-- the lowest free number, taken
pub lowest-taken : {W : Type 0} (m : NodeList W) (r : ℕ) (fs : List ℕ) (x : Node W) → InUse x → free_numbers 0 m ≡ r ∷ fs
    → (r < length m) × (free_numbers 0 (set m r x) ≡ fs)
lowest-taken m r fs x u e = let t = free-taken m 0 r fs x u e in let q : t.0 ≡ r = omega (arith, t.1) in (rw q at t.2, rw q at t.3)
