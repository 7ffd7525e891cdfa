-- A row of n numbers in which each is counted once, or else passes a test: it is free. Assumes nothing.
use mathlib.Core.Path.{◌≡◌, refl, sym, ap, ◌∙◌}
use mathlib.Core.Bool.{Bool, true, false, cond}
use mathlib.Core.Logic.{⊎_elim}
use mathlib.Core.List.{List}
use Prim.Native.Nat.{ℕ, zero, suc, ◌+◌, ◌≤◌, ◌<◌}
use native.Mathlib.Omega.{arith}
use native.Mathlib.Decide.{ℕ_discrete}
use Rattle.arena.specs.Free.{cons_if, passing}
use Rattle.arena.proofs.Words.{lt-or-ge}
use Rattle.trees.specs.Nodes.{one_at}
use Rattle.trees.specs.FreeNumbers.{times_in}
use Rattle.trees.specs.WholeTree.{ones_below}
use Rattle.trees.proofs.Nodes.{one_at-same}
use Rattle.trees.proofs.WholeTree.{ones_below-le}
use Rattle.trees.proofs.WholeCalls.{ones_below-one, ones_below-zero}
use Rattle.views.proofs.TreeViews.{hit_other}
use Rattle.views.proofs.Counts.{some_or_none}

-- ---- how often a number stands among those that pass a test

times-step : (b : Bool) (i : ℕ) (ks : List ℕ) (j : ℕ) → times_in (cons_if b i ks) j ≡ cond b (one_at i j) 0 + times_in ks j
times-step true i ks j = refl
times-step false i ks j = omega arith

cond-none : (b : Bool) (x : ℕ) → x ≡ 0 → cond b x 0 ≡ 0
cond-none true x e = e
cond-none false x e = refl

times-left : (test : ℕ → Bool) (i n j : ℕ) → j < i → times_in (passing test i n) j ≡ 0
unfolding passing
times-left test i zero j h = refl
times-left test i (suc n) j h =
    omega (
      arith,
      times-step (test i) i (passing test (suc i) n) j,
      cond-none (test i) (one_at i j) (hit_other i j (λ e. omega arith)),
      times-left test (suc i) n j (omega arith),
    )

times-right : (test : ℕ → Bool) (i n j : ℕ) → i + n ≤ j → times_in (passing test i n) j ≡ 0
unfolding passing
times-right test i zero j h = refl
times-right test i (suc n) j h =
    omega (
      arith,
      times-step (test i) i (passing test (suc i) n) j,
      cond-none (test i) (one_at i j) (hit_other i j (λ e. omega arith)),
      times-right test (suc i) n j (omega arith),
    )

times-from : (test : ℕ → Bool) (i n j : ℕ) → i ≤ j → j < i + n → times_in (passing test i n) j ≡ cond (test j) 1 0
unfolding passing
times-from test i zero j h k = absurd (omega arith)
times-from test i (suc n) j h k = go (ℕ_discrete i j) (times-from test (suc i) n j)
  where
    go : Dec (i ≡ j) → (suc i ≤ j → j < suc i + n → times_in (passing test (suc i) n) j ≡ cond (test j) 1 0)
        → times_in (cons_if (test i) i (passing test (suc i) n)) j ≡ cond (test j) 1 0
    go (yes e) f =
        let here : cond (test i) (one_at i j) 0 ≡ cond (test j) 1 0 =
        ap (λ (x : ℕ). cond (test i) x 0) (ap (one_at i) (sym e) ∙ one_at-same i) ∙ ap (λ (x : ℕ). cond (test x) 1 0) e in
        omega (arith, times-step (test i) i (passing test (suc i) n) j, here, times-left test (suc i) n j (omega arith))
    go (no ne) f =
        omega (
          arith,
          times-step (test i) i (passing test (suc i) n) j,
          cond-none (test i) (one_at i j) (hit_other i j ne),
          f (above i j h ne) (omega arith),
        )
      where
        above : (i j : ℕ) → i ≤ j → (i ≡ j → ⊥) → suc i ≤ j
        above i j h ne = omega arith

times-in : (test : ℕ → Bool) (n j : ℕ) → j < n → times_in (passing test 0 n) j ≡ cond (test j) 1 0
times-in test n j h = times-from test 0 n j (omega arith) (omega arith)

times-out : (test : ℕ → Bool) (n j : ℕ) → n ≤ j → times_in (passing test 0 n) j ≡ 0
times-out test n j h = times-right test 0 n j (omega arith)

-- ---- each is counted once, or passes

abbrev one_where : Bool → ℕ
one_where b = cond b 1 0

one_passes : (b : Bool) → one_where b ≡ 1 → b ≡ true
one_passes true e = refl
one_passes false e = absurd (omega arith)

none-fails : (b : Bool) → one_where b ≡ 0 → b ≡ false
none-fails true e = absurd (omega arith)
none-fails false e = refl

-- number j, counted r times
module _ (test : ℕ → Bool) (n r j : ℕ) where
  abbrev passes : ℕ
  passes = times_in (passing test 0 n) j

  abbrev pub Balanced : Type 0
  Balanced = r + passes ≡ ones_below n j

  pub balanced : r ≤ 1 → (0 < r → (j < n) × (test j ≡ false)) → (j < n → r ≡ 0 → test j ≡ true) → Balanced
  balanced most counted other = ⊎_elim used unused (some_or_none r)
    where
      used : 0 < r → Balanced
      used h =
          let (inside, fails) = counted h in
          omega (arith, times-in test n j inside, ap one_where fails, ones_below-one n j inside)

      unused : r ≡ 0 → Balanced
      unused z =
          ⊎_elim (λ h. omega (arith, times-in test n j h, ap one_where (other h z), ones_below-one n j h))
          (λ h. omega (arith, times-out test n j h, ones_below-zero n j h)) (lt-or-ge j n)

  module _ (b : Balanced) where
    pub counted-once : r ≤ 1
    counted-once = omega (arith, ones_below-le n j)

    pub counted-fails : 0 < r → (j < n) × (test j ≡ false)
    counted-fails h =
        ⊎_elim (λ inside. (inside, none-fails (test j) (omega (arith, times-in test n j inside, ones_below-one n j inside))))
        (λ past. absurd (omega (arith, ones_below-zero n j past))) (lt-or-ge j n)

    pub other-passes : j < n → r ≡ 0 → test j ≡ true
    other-passes h z = one_passes (test j) (omega (arith, times-in test n j h, ones_below-one n j h))
