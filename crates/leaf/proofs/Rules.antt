-- What the slot word's calls do to the view of a leaf, whatever holds the bank of slots: an insertion inserts, a removal removes, and a
-- sorted bank shows the entries as they stand. Assumes nothing.
use Prim.Native.Nat.{ℕ, zero, suc, ◌+◌, ◌-◌, ◌≤◌, ◌<◌}
use mathlib.Core.Path.{◌≡◌, refl, sym, ap, ap₂, ◌∙◌}
use mathlib.Core.List.{List, [], ◌∷◌, ◌++◌, map}
use native.Mathlib.Omega.{arith}
use native.Mathlib.Decide.{ℕ_discrete}
use lib.Dec.{T}
use lib.ListN.{length, get_or, take, drop, set, length-drop, take-append-drop}
use lib.Seq.{length-take-le, take-append-add, take-append-le, take-take, take_at, drop-cons, get_or-drop, get_or-take, get_or-set_same}
use lib.Seq.{get_or-set_other, split_at}
use Rattle.bank.specs.Lists.{part, turned, count, each_once, up}
use Rattle.bank.specs.Bank.{Bank, width, slot_at, inserted_from_back, removed, sorted}
use Rattle.bank.proofs.Counts.{count_same, count-other, count-append, count_at, once, slot_lt}
use Rattle.bank.proofs.Moves.{drop-take, length_part, part-one}
use Rattle.bank.proofs.Sorted.{sorted-slots, sorted-size, length_up}
use Rattle.leaf_entries.specs.declared.Entry.{Entry}
use Rattle.leaf.specs.Leaf.{none, slots_in_use, viewed}
use Rattle.leaf.proofs.Lists.{map-append, map-take, map-drop}

-- ---- the slots in use after a call

module _ (i n : ℕ) (ps : List ℕ) where
  -- the first n + 1 positions after the last one went to i
  in-use-inserted : i ≤ n → n < length ps
      → take (n + 1) (turned i (length ps - 1) (length ps) ps) ≡ take i (take n ps) ++ get_or ps (length ps - 1) 0 ∷ drop i (take n ps)
  unfolding turned
  in-use-inserted l h =
      ap (λ (k : ℕ). take k (take i ps ++ (last ++ rest)))
      (let z : n + 1 ≡ length (take i ps) + suc (n - i) = omega (arith, length-take-le i ps (omega arith)) in z)
      ∙ take-append-add (take i ps) (last ++ rest) (suc (n - i))
      ∙ ap₂ (λ (x y : List ℕ). x ++ y) (sym (take-take i n ps l))
      (ap (λ (x : List ℕ). take (suc (n - i)) (x ++ rest)) one ∙ ap (λ (x : List ℕ). get_or ps (length ps - 1) 0 ∷ x) tail)
    where
      last : List ℕ
      last = part (length ps - 1) (length ps) ps

      rest : List ℕ
      rest = part i (length ps - 1) ps ++ drop (length ps) ps

      one : part (length ps - 1) (length ps) ps ≡ get_or ps (length ps - 1) 0 ∷ []
      one =
          ap (λ (k : ℕ). part (length ps - 1) k ps) (let z : length ps ≡ length ps - 1 + 1 = omega arith in z)
          ∙ part-one (length ps - 1) ps (omega arith)

      tail : take (n - i) (part i (length ps - 1) ps ++ drop (length ps) ps) ≡ drop i (take n ps)
      tail =
          take-append-le (n - i) (part i (length ps - 1) ps) (drop (length ps) ps)
          (omega (arith, length_part i (length ps - 1) ps (omega arith)))
          ∙ take-take (n - i) (length ps - 1 - i) (drop i ps) (omega arith)
          ∙ sym (drop-take i n ps)

  -- the first n - 1 positions after the one at i went to n - 1
  in-use-removed : i < n → n ≤ length ps → take (n - 1) (turned i (i + 1) n ps) ≡ take i (take n ps) ++ drop (i + 1) (take n ps)
  unfolding turned
  in-use-removed l h =
      ap (λ (k : ℕ). take k (take i ps ++ (part (i + 1) n ps ++ rest)))
      (let z : n - 1 ≡ length (take i ps) + (n - (i + 1)) = omega (arith, length-take-le i ps (omega arith)) in z)
      ∙ take-append-add (take i ps) (part (i + 1) n ps ++ rest) (n - (i + 1))
      ∙ ap₂ (λ (x y : List ℕ). x ++ y) (sym (take-take i n ps (omega arith)))
      (take_at (part (i + 1) n ps) rest (n - (i + 1)) (length_part (i + 1) n ps h) ∙ sym (drop-take (i + 1) n ps))
    where
      rest : List ℕ
      rest = part i (i + 1) ps ++ drop n ps

-- ---- an entry in a slot that is not in use changes nothing of the view

abbrev seen : List Entry → ℕ → Entry
seen entries slot = get_or entries slot none

unseen : (entries : List Entry) (slot : ℕ) (e : Entry) (slots : List ℕ) → count slot slots ≡ 0
    → map (seen (set entries slot e)) slots ≡ map (seen entries) slots
unseen entries slot e [] h = refl
unseen entries slot e (s ∷ slots) h =
    elim (ℕ_discrete s slot) [
      | yes q ↦ absurd (omega (arith, count_same s slots, ap (λ (x : ℕ). count x (s ∷ slots)) q))
      | no q ↦
          ap₂ (λ (x : Entry) (l : List Entry). x ∷ l) (get_or-set_other entries slot s e none q)
          (unseen entries slot e slots (sym (count-other s slot slots q) ∙ h))
    ]

-- an entry in one slot among others that are not this slot
seen-between : (entries : List Entry) (slot : ℕ) (e : Entry) (before after : List ℕ) → slot < length entries → count slot before ≡ 0
    → count slot after ≡ 0
    → map (seen (set entries slot e)) (before ++ slot ∷ after) ≡ map (seen entries) before ++ e ∷ map (seen entries) after
seen-between entries slot e before after l p q =
    map-append (seen (set entries slot e)) before (slot ∷ after)
    ∙ ap₂ (λ (x y : List Entry). x ++ y) (unseen entries slot e before p)
    (ap₂ (λ (x : Entry) (y : List Entry). x ∷ y) (get_or-set_same entries slot e none l) (unseen entries slot e after q))

-- a slot that stands at a position from n on is not among the first n
free-slot : (ps : List ℕ) (n k : ℕ) → T (each_once ps) → n ≤ k → k < length ps → count (get_or ps k 0) (take n ps) ≡ 0
free-slot ps n k t l h =
    let there : 1 ≤ count (get_or (drop n ps) (k - n) 0) (drop n ps)
    = count_at (drop n ps) (k - n) (let z : k - n < length (drop n ps) = rw length-drop (omega arith) in z) in
    let same : get_or (drop n ps) (k - n) 0 ≡ get_or ps k 0
    = get_or-drop n ps (k - n) 0 ∙ ap (λ (j : ℕ). get_or ps j 0) (let z : n + (k - n) ≡ k = omega arith in z) in
    let both : count (get_or ps k 0) (take n ps) + count (get_or ps k 0) (drop n ps) ≡ count (get_or ps k 0) ps
    = sym (count-append (get_or ps k 0) (take n ps) (drop n ps)) ∙ ap (count (get_or ps k 0)) (take-append-drop n ps) in
    omega (arith, rw same at there, once ps t (get_or ps k 0) (slot_lt ps t k h))

-- the parts of a list count no more than the whole
count-parts : (s i : ℕ) (l : List ℕ) → count s (take i l) + count s (drop i l) ≡ count s l
count-parts s i l = sym (count-append s (take i l) (drop i l)) ∙ ap (count s) (take-append-drop i l)

-- ---- the rules

module _ (b : Bank) (entries : List Entry) (t : T (each_once b.slots)) (wide : width b ≤ length entries) where
  -- An entry put into the slot that an insertion at i hands out stands at place i of the view.
  pub inserted-view : (i : ℕ) (e : Entry) → i ≤ b.size → b.size < width b
      → viewed (inserted_from_back i b) (set entries (slot_at (width b - 1) b) e)
      ≡ take i (viewed b entries) ++ e ∷ drop i (viewed b entries)
  unfolding viewed
  inserted-view i e l h =
      let slot = slot_at (width b - 1) b in
      let free = free-slot b.slots b.size (width b - 1) t (omega arith) (omega arith) in
      let sum = count-parts slot i (slots_in_use b) in
      ap (map (seen (set entries slot e))) (in-use-inserted i b.size b.slots l h)
      ∙ seen-between entries slot e (take i (slots_in_use b)) (drop i (slots_in_use b)) (omega (arith, slot_lt b.slots t (width b - 1) (omega arith)))
      (omega arith) (omega arith)
      ∙ ap₂ (λ (x y : List Entry). x ++ e ∷ y) (map-take (seen entries) i (slots_in_use b)) (map-drop (seen entries) i (slots_in_use b))

  -- An entry put into the slot at a position in use takes the place of the one that stood there.
  pub replaced-view : (i : ℕ) (e : Entry) → i < b.size → b.size ≤ width b
      → viewed b (set entries (slot_at i b) e) ≡ take i (viewed b entries) ++ e ∷ drop (suc i) (viewed b entries)
  unfolding viewed
  replaced-view i e l h =
      let slot = slot_at i b in
      let used : get_or (slots_in_use b) i 0 ≡ slot = get_or-take b.size b.slots i 0 l in
      let cut : slots_in_use b ≡ take i (slots_in_use b) ++ slot ∷ drop (suc i) (slots_in_use b)
      = split_at (slots_in_use b) i 0 (omega (arith, length-take-le b.size b.slots h))
      ∙ ap (λ (s : ℕ). take i (slots_in_use b) ++ s ∷ drop (suc i) (slots_in_use b)) used in
      let sum : count slot (slots_in_use b) ≡ count slot (take i (slots_in_use b)) + count slot (slot ∷ drop (suc i) (slots_in_use b))
      = ap (count slot) cut ∙ count-append slot (take i (slots_in_use b)) (slot ∷ drop (suc i) (slots_in_use b)) in
      let all = count-parts slot b.size b.slots in
      let one = once b.slots t slot (slot_lt b.slots t i (omega arith)) in
      let here = count_same slot (drop (suc i) (slots_in_use b)) in
      ap (map (seen (set entries slot e))) cut
      ∙ seen-between entries slot e (take i (slots_in_use b)) (drop (suc i) (slots_in_use b)) (omega (arith, slot_lt b.slots t i (omega arith)))
      (omega arith) (omega arith)
      ∙ ap₂ (λ (x y : List Entry). x ++ e ∷ y) (map-take (seen entries) i (slots_in_use b)) (map-drop (seen entries) (suc i) (slots_in_use b))

-- A removal at i takes the entry at place i out of the view.
pub removed-view : (b : Bank) (entries : List Entry) (i : ℕ) → i < b.size → b.size ≤ width b
    → viewed (removed i b) entries ≡ take i (viewed b entries) ++ drop (i + 1) (viewed b entries)
unfolding viewed
removed-view b entries i l h =
    ap (map (seen entries)) (in-use-removed i b.size b.slots l h)
    ∙ map-append (seen entries) (take i (slots_in_use b)) (drop (i + 1) (slots_in_use b))
    ∙ ap₂ (λ (x y : List Entry). x ++ y) (map-take (seen entries) i (slots_in_use b)) (map-drop (seen entries) (i + 1) (slots_in_use b))

-- entries by rising slots, as they stand
seen_up : (entries : List Entry) (s k : ℕ) → s + k ≤ length entries → map (seen entries) (up s k) ≡ take k (drop s entries)
unfolding up
seen_up entries s zero h = refl
seen_up entries s (suc k) h =
    ap (λ (l : List Entry). seen entries s ∷ l) (seen_up entries (suc s) k (omega arith))
    ∙ ap (take (suc k)) (sym (drop-cons entries s none (omega arith)))

-- With a sorted bank of n slots in use the view is the first n entries.
pub sorted-view : (w n : ℕ) (entries : List Entry) → n ≤ w → n ≤ length entries → viewed (sorted w n) entries ≡ take n entries
unfolding viewed
sorted-view w n entries h l =
    ap (map (seen entries))
    (ap₂ take (sorted-size w n h) (sorted-slots w n h) ∙ take_at (up 0 n) _ n (length_up 0 n))
    ∙ seen_up entries 0 n (omega arith)
