-- The cut of sixteen strictly rising entries: there is one, the computed one is the one stated, and it parts the ikeys. Assumes nothing.
use Prim.Native.Nat.{ℕ, zero, suc, ◌+◌, ◌-◌, ◌≤◌, ◌<◌}
use mathlib.Core.Path.{◌≡◌, refl, sym, ap, ◌∙◌, subst}
use mathlib.Core.Logic.{◌⊎◌, inl, inr}
use mathlib.Core.Bool.{Bool, true, false, cond, not}
use mathlib.Core.List.{List}
use native.Mathlib.Omega.{arith}
use native.Mathlib.Decide.{ℕ_discrete, dec_lt}
use lib.Dec.{T, eqb, eqb→eq, eqb_refl, T_not}
use lib.ListN.{length, get_or}
use Rattle.leaf_entries.specs.declared.Entry.{Entry}
use Rattle.leaf.specs.Leaf.{none, rank, rising}
use Rattle.leaf.specs.Cut.{ikey_of, differs, apart, IsCut, outward, cut_of}
use Rattle.leaf.proofs.Orders.{rank_lt, rising-weights}

-- ---- the nearest place that passes a test

module _ (test : ℕ → Bool) (m : ℕ) where
  -- no place nearer than `far` passes
  abbrev Near : ℕ → Type 0
  Near far = (d : ℕ) → apart d m < far → T (test d) → ⊥

  record Nearest (reach c : ℕ) : Type 0 where
    pub passes : T (test c)
    pub within : apart c m < reach
    pub nearest : (d : ℕ) → T (test d) → apart c m ≤ apart d m
    pub lower : (d : ℕ) → T (test d) → apart d m ≡ apart c m → c ≤ d

  -- outward from `far`, cond the place found is the nearest, or none passes within reach
  found-or-none : (k far : ℕ) → far + k ≤ suc m → Near far → Nearest (far + k) (outward test m far k) ⊎ Near (far + k)
  unfolding outward
  found-or-none zero far h near = inr (λ d l t. near d (omega arith) t)
  found-or-none (suc k) far h near = by (test (m - far)) refl (test (m + far)) refl (found-or-none k (suc far) (omega arith))
    where
      -- a place that passes is not nearer than `far`
      far-off : (x : ℕ) → T (test x) → far ≤ apart x m
      far-off x t =
          elim (dec_lt (apart x m) far) [
            | yes l ↦ absurd (near x l t)
            | no l ↦ omega arith
          ]

      not-below : test (m - far) ≡ false → (x : ℕ) → T (test x) → x ≡ m - far → ⊥
      not-below e x t q = subst T (ap test q ∙ e) t

      none-at : test (m - far) ≡ false → test (m + far) ≡ false → (x : ℕ) → apart x m < suc far → T (test x) → ⊥
      none-at e d x l t =
          let f = far-off x t in
          elim (ℕ_discrete x (m + far)) [
            | yes q ↦ subst T (ap test q ∙ d) t
            | no q ↦ subst T (ap test (let z : x ≡ m - far = omega arith in z) ∙ e) t
          ]

      moved : {c : ℕ} → Nearest (suc far + k) c ⊎ Near (suc far + k) → Nearest (far + suc k) c ⊎ Near (far + suc k)
      moved {c} = subst (λ (n : ℕ). Nearest n c ⊎ Near n) (let z : suc far + k ≡ far + suc k = omega arith in z)

      by : (p : Bool) → test (m - far) ≡ p → (q : Bool) → test (m + far) ≡ q
          → (Near (suc far) → Nearest (suc far + k) (outward test m (suc far) k) ⊎ Near (suc far + k))
          → Nearest (far + suc k) (cond p (m - far) (cond q (m + far) (outward test m (suc far) k))) ⊎ Near (far + suc k)
      by true e q d rest =
          inl (record {
            passes = subst T (sym e) tt;
            within = omega arith;
            nearest = λ x t. let f = far-off x t in omega arith;
            lower = λ x t h. omega arith;
          })
      by false e true d rest =
          inl (record {
            passes = subst T (sym d) tt;
            within = omega arith;
            nearest = λ x t. let f = far-off x t in omega arith;
            lower = λ x t h. let n = not-below e x t in omega arith;
          })
      by false e false d rest = moved (rest (λ x l t. none-at e d x l t))

-- ---- at most ten entries share an ikey

module _ (es : List Entry) (r : rising es ≡ true) where
  -- ikeys do not fall
  pub ikeys-rise : (i j : ℕ) → i ≤ j → j < length es → ikey_of es i ≤ ikey_of es j
  ikeys-rise i j l h =
      elim (ℕ_discrete i j) [
        | yes e ↦ rw e (omega arith)
        | no e ↦ omega (arith, rising-weights es r i j (omega arith) h, rank_lt (get_or es i none), rank_lt (get_or es j none))
      ]

  -- among entries of one ikey the class grows with each
  class-grows : (i k : ℕ) → i + k < length es → ikey_of es i ≡ ikey_of es (i + k) → k ≤ rank (get_or es (i + k) none)
  class-grows i zero h e = omega arith
  class-grows i (suc k) h e =
      let up = ikeys-rise i (i + k) (omega arith) (omega arith) in
      let on = ikeys-rise (i + k) (i + suc k) (omega arith) h in
      let same : ikey_of es i ≡ ikey_of es (i + k) = omega arith in
      omega (arith, class-grows i k (omega arith) same, rising-weights es r (i + k) (i + suc k) (omega arith) h)

  pub at-most-ten : (i j : ℕ) → i ≤ j → j < length es → ikey_of es i ≡ ikey_of es j → j ≤ i + 9
  at-most-ten i j l h e =
      let z : i + (j - i) ≡ j = omega arith in
      omega (arith, rank_lt (get_or es (i + (j - i)) none), class-grows i (j - i) (rw z h) (rw z e))

-- ---- the cut

undiffering : {a b : ℕ} → (T (not (eqb a b)) → ⊥) → a ≡ b
undiffering {a} {b} h = eqb→eq a b (by (eqb a b) h)
  where
    by : (p : Bool) → (T (not p) → ⊥) → T p
    by true f = tt
    by false f = f tt

-- where no two neighbours differ, all ikeys are one
all_one : (es : List Entry) (n : ℕ) → ((c : ℕ) → 1 ≤ c → c ≤ n → T (differs es c) → ⊥) → ikey_of es 0 ≡ ikey_of es n
all_one es zero f = refl
all_one es (suc n) f =
    all_one es n (λ c l h. f c l (omega arith))
    ∙ ap (ikey_of es) (let z : n ≡ suc n - 1 = omega arith in z)
    ∙ undiffering (f (suc n) (omega arith) (omega arith))

-- For sixteen strictly rising entries there is a cut, and it is the computed one.
pub cut-is : (es : List Entry) → rising es ≡ true → length es ≡ 16 → IsCut es (cut_of es)
cut-is es r h = by (found-or-none (differs es) 8 8 0 (omega arith) (λ d l. absurd (omega arith)))
  where
    by : Nearest (differs es) 8 8 (cut_of es) ⊎ Near (differs es) 8 8 → IsCut es (cut_of es)
    by (inl n) =
        let w = n.within in
        record {
          least = omega arith;
          most = omega arith;
          between = n.passes;
          nearest = λ d l u. n.nearest d;
          lower = λ d l u. n.lower d;
        }
    by (inr none-near) =
        absurd (omega (arith, at-most-ten es r 0 15 (omega arith) (omega arith) (all_one es 15 (λ c l u. none-near c (omega arith)))))

-- There is one cut only.
pub cut-one : {es : List Entry} {c d : ℕ} → IsCut es c → IsCut es d → c ≡ d
cut-one {es} {c} {d} p q =
    let a = p.nearest d q.least q.most q.between in
    let b = q.nearest c p.least p.most p.between in
    let e : apart d 8 ≡ apart c 8 = omega arith in
    omega (arith, p.lower d q.least q.most q.between e, q.lower c p.least p.most p.between (sym e))

-- ---- the two halves

module _ (es : List Entry) (r : rising es ≡ true) (c : ℕ) where
  -- every ikey of the left half is below every ikey of the right half
  pub halves-apart : length es ≡ 16 → IsCut es c → (i j : ℕ) → i < c → c ≤ j → j < length es → ikey_of es i < ikey_of es j
  halves-apart h k i j l u m =
      let lo = ikeys-rise es r i (c - 1) (omega (arith, k.least)) (omega (arith, k.most)) in
      let mid = ikeys-rise es r (c - 1) c (omega arith) (omega (arith, k.most)) in
      let hi = ikeys-rise es r c j u m in
      elim (ℕ_discrete (ikey_of es (c - 1)) (ikey_of es c)) [
        | yes e ↦
            absurd (T_not (eqb (ikey_of es (c - 1)) (ikey_of es c)) k.between
            (subst (λ (x : ℕ). T (eqb (ikey_of es (c - 1)) x)) e (eqb_refl (ikey_of es (c - 1)))))
        | no e ↦ omega arith
      ]
