-- The moves of positions: what they keep, and what then stands where. Assumes nothing.
use mathlib.Core.Path.{◌≡◌, sym, ap, ap₂, ◌∙◌}
use mathlib.Core.List.{List, [], ◌∷◌, ◌++◌, append_assoc}
use Prim.Native.Nat.{ℕ, zero, suc, ◌+◌, ◌-◌, ◌≤◌, ◌<◌}
use native.Mathlib.Nat.{zero-sub, suc-sub-suc, sub-zero, not-suc-le-zero, le_of_suc-le-suc}
use native.Mathlib.Omega.{arith}
use lib.ListN.{length, get_or, take, drop, set, length-append, length-drop, length-set, take-append-drop}
use lib.Seq.{drop-drop, drop-cons, drop-nil, drop_at, take_at, take-nil, drop-append-le, length-take-le, get_or-set_same, get_or-set_other}
use lib.Dec.{T, eqb}
use Rattle.bank.specs.Lists.{part, turned, swapped, count, each_once}
use Rattle.bank.proofs.Tests.{at, all-at}
use native.Mathlib.Decide.{ℕ_discrete}
use Rattle.bank.proofs.Counts.{count-append}

-- ---- parts of a list

pub drop-take : (j n : ℕ) (l : List ℕ) → drop j (take n l) ≡ take (n - j) (drop j l)
drop-take zero n l = rw sub-zero
drop-take (suc j) zero l = drop-nil (suc j) ∙ ap (λ (k : ℕ). take k (drop (suc j) l)) (sym (zero-sub (suc j)))
drop-take (suc j) (suc n) [] = rw (take-nil (suc n - suc j))
drop-take (suc j) (suc n) (x ∷ l) = drop-take j n l ∙ ap (λ (k : ℕ). take k (drop j l)) (sym (suc-sub-suc n j))

pub length_part : (a b : ℕ) (ps : List ℕ) → b ≤ length ps → length (part a b ps) ≡ b - a
length_part a b ps h = length-take-le (b - a) (drop a ps) (rw length-drop (omega arith))

pub part-one : (i : ℕ) (ps : List ℕ) → i < length ps → part i (i + 1) ps ≡ get_or ps i 0 ∷ []
part-one i ps h =
    ap (λ (k : ℕ). take k (drop i ps)) (let e : i + 1 - i ≡ 1 = omega arith in e) ∙ ap (take 1) (drop-cons ps i 0 h)

-- a part, and what comes after it
pub part-rest : (i j : ℕ) (ps : List ℕ) → i ≤ j → part i j ps ++ drop j ps ≡ drop i ps
part-rest i j ps h =
    ap (λ (l : List ℕ). part i j ps ++ l)
    (ap (λ (n : ℕ). drop n ps) (let e : j ≡ i + (j - i) = omega arith in e) ∙ sym (drop-drop (j - i) i ps))
    ∙ take-append-drop (j - i) (drop i ps)

pub parts : (a b c : ℕ) (ps : List ℕ) → a ≤ b → b ≤ c → take a ps ++ (part a b ps ++ (part b c ps ++ drop c ps)) ≡ ps
parts a b c ps ab bc =
    ap (λ (l : List ℕ). take a ps ++ (part a b ps ++ l)) (part-rest b c ps bc)
    ∙ ap (λ (l : List ℕ). take a ps ++ l) (part-rest a b ps ab)
    ∙ take-append-drop a ps

-- ---- what a turn keeps

-- whatever adds up over the parts of a list is the same after a turn
turned-sum : (f : List ℕ → ℕ) → ((xs ys : List ℕ) → f (xs ++ ys) ≡ f xs + f ys)
    → (a b c : ℕ) (ps : List ℕ) → a ≤ b → b ≤ c → f (turned a b c ps) ≡ f ps
unfolding turned
turned-sum f add a b c ps ab bc =
    simp add
    (let e : f (take a ps) + (f (part a b ps) + (f (part b c ps) + f (drop c ps))) ≡ f ps
    = (simp add at (ap f (parts a b c ps ab bc))) in
    omega arith)

pub length-turned : (a b c : ℕ) (ps : List ℕ) → a ≤ b → b ≤ c → length (turned a b c ps) ≡ length ps
length-turned = turned-sum length length-append

pub count-turned : (s a b c : ℕ) (ps : List ℕ) → a ≤ b → b ≤ c → count s (turned a b c ps) ≡ count s ps
count-turned s = turned-sum (count s) (count-append s)

-- what keeps the length and the counts keeps the slots
kept : (ps qs : List ℕ) → length qs ≡ length ps → ((s : ℕ) → count s qs ≡ count s ps) → T (each_once ps) → T (each_once qs)
unfolding each_once
kept ps qs l e t =
    rw l
    (all-at (length ps) (λ s. eqb (count s qs) 1)
    (λ k h. rw (e k) (at (length ps) (λ s. eqb (count s ps) 1) t k h)))

pub once-turned : (a b c : ℕ) (ps : List ℕ) → a ≤ b → b ≤ c → T (each_once ps) → T (each_once (turned a b c ps))
once-turned a b c ps ab bc =
    kept ps (turned a b c ps) (length-turned a b c ps ab bc) (λ s. count-turned s a b c ps ab bc)

-- ---- what stands where after a turn

-- from a place in the part that moved up on
pub drop-turned : (a b c j : ℕ) (ps : List ℕ) → a ≤ b → b ≤ c → c ≤ length ps → j ≤ b - a
    → drop (a + (c - b) + j) (turned a b c ps) ≡ part (a + j) b ps ++ drop c ps
unfolding turned
drop-turned a b c j ps ab bc cl jl =
    sym (drop-drop j (a + (c - b)) (turned a b c ps))
    ∙ ap (drop j) (ap (drop (a + (c - b))) (sym (append_assoc (take a ps) (part b c ps) (part a b ps ++ drop c ps)))
    ∙ drop_at (take a ps ++ part b c ps) (part a b ps ++ drop c ps) (a + (c - b)) n)
    ∙ drop-append-le j (part a b ps) (drop c ps) (omega (arith, length_part a b ps (omega arith)))
    ∙ ap (λ (l : List ℕ). l ++ drop c ps)
    (drop-take j (b - a) (drop a ps) ∙ ap₂ take (let e : b - a - j ≡ b - (a + j) = omega arith in e) (drop-drop j a ps))
  where
    n : length (take a ps ++ part b c ps) ≡ a + (c - b)
    n =
        length-append (take a ps) (part b c ps)
        ∙ ap₂ (λ (x y : ℕ). x + y) (length-take-le a ps (omega arith)) (length_part b c ps cl)

-- a turn, and then the turn back
pub turned-back : (a b c : ℕ) (ps : List ℕ) → a ≤ b → b ≤ c → c ≤ length ps → turned a (a + (c - b)) c (turned a b c ps) ≡ ps
unfolding turned
turned-back a b c ps ab bc cl =
    ap₂ (λ (x y : List ℕ). x ++ y) low
    (ap₂ (λ (x y : List ℕ). x ++ y) second (ap₂ (λ (x y : List ℕ). x ++ y) first top))
    ∙ parts a b c ps ab bc
  where
    all : List ℕ
    all = take a ps ++ (part b c ps ++ (part a b ps ++ drop c ps))

    la : length (take a ps) ≡ a
    la = length-take-le a ps (omega arith)

    low : take a all ≡ take a ps
    low = take_at (take a ps) (part b c ps ++ (part a b ps ++ drop c ps)) a la

    from-a : drop a all ≡ part b c ps ++ (part a b ps ++ drop c ps)
    from-a = drop_at (take a ps) (part b c ps ++ (part a b ps ++ drop c ps)) a la

    from_second : drop (a + (c - b)) all ≡ part a b ps ++ drop c ps
    from_second =
        sym (drop-drop (c - b) a all)
        ∙ ap (drop (c - b)) from-a
        ∙ drop_at (part b c ps) (part a b ps ++ drop c ps) (c - b) (length_part b c ps cl)

    second : take (c - (a + (c - b))) (drop (a + (c - b)) all) ≡ part a b ps
    second =
        ap₂ take (let e : c - (a + (c - b)) ≡ b - a = omega arith in e) from_second
        ∙ take_at (part a b ps) (drop c ps) (b - a) (length_part a b ps (omega arith))

    first : take (a + (c - b) - a) (drop a all) ≡ part b c ps
    first =
        ap₂ take (let e : a + (c - b) - a ≡ c - b = omega arith in e) from-a
        ∙ take_at (part b c ps) (part a b ps ++ drop c ps) (c - b) (length_part b c ps cl)

    top : drop c all ≡ drop c ps
    top =
        ap (λ (k : ℕ). drop k all) (let e : c ≡ (a + (c - b)) + (b - a) = omega arith in e)
        ∙ sym (drop-drop (b - a) (a + (c - b)) all)
        ∙ ap (drop (b - a)) from_second
        ∙ drop_at (part a b ps) (drop c ps) (b - a) (length_part a b ps (omega arith))

-- ---- what a swap keeps

-- one position set: what it held is counted once less, what it holds now once more
count_set : (s : ℕ) (ps : List ℕ) (i x : ℕ) → i < length ps
    → count s (set ps i x) + count s (get_or ps i 0 ∷ []) ≡ count s ps + count s (x ∷ [])
count_set s [] i x h = absurd (not-suc-le-zero h)
count_set s (p ∷ ps) zero x h = omega (arith, count-append s (x ∷ []) ps, count-append s (p ∷ []) ps)
count_set s (p ∷ ps) (suc i) x h =
    omega (arith, count-append s (p ∷ []) (set ps i x), count-append s (p ∷ []) ps, count_set s ps i x (le_of_suc-le-suc h))

module _ (i j : ℕ) (ps : List ℕ) (hi : i < length ps) (hj : j < length ps) where
  -- after the first store position j still holds what it held
  second-kept : get_or (set ps i (get_or ps j 0)) j 0 ≡ get_or ps j 0
  second-kept =
      elim (ℕ_discrete i j) [
        | yes e ↦ ap (λ (k : ℕ). get_or (set ps i (get_or ps j 0)) k 0) (sym e) ∙ get_or-set_same ps i (get_or ps j 0) 0 hi
        | no e ↦ get_or-set_other ps i j (get_or ps j 0) 0 (λ q. e (sym q))
      ]

  pub length-swapped : length (swapped i j ps) ≡ length ps
  unfolding swapped
  length-swapped = simp length-set

  pub once-swapped : T (each_once ps) → T (each_once (swapped i j ps))
  unfolding swapped
  once-swapped = kept ps (set (set ps i (get_or ps j 0)) j (get_or ps i 0)) (simp length-set) same
    where
      same : (s : ℕ) → count s (set (set ps i (get_or ps j 0)) j (get_or ps i 0)) ≡ count s ps
      same s =
          let l : j < length (set ps i (get_or ps j 0)) = rw length-set hj in
          let e : count s (get_or (set ps i (get_or ps j 0)) j 0 ∷ [])
          ≡ count s (get_or ps j 0 ∷ []) = ap (λ (x : ℕ). count s (x ∷ [])) second-kept in
          omega (arith, count_set s ps i (get_or ps j 0) hi, count_set s (set ps i (get_or ps j 0)) j (get_or ps i 0) l)
