-- The view of a leaf after each accepted call on its slot word. Assumes nothing.
use Prim.Native.Nat.{ℕ, suc, ◌+◌, ◌-◌, ◌/◌, ◌%◌, ◌≤◌, ◌<◌}
use mathlib.Core.Path.{◌≡◌, refl, sym, ap, ap₂, ◌∙◌}
use mathlib.Core.Bool.{Bool, true, false, cond}
use mathlib.Core.List.{List, [], ◌∷◌, ◌++◌}
use native.Mathlib.Omega.{arith}
use lib.Dec.{leb, ltb}
use lib.ListN.{length, get_or, take, drop, set, replicate, length-append, length-replicate, length-drop}
use lib.Seq.{take_at, length-take-le}
use borrow.Author.Tests.{leb-true, ltb-true, le-leb, lt-ltb}
use Rattle.refusal.specs.Answer.{Answer, accepted}
use Rattle.bank.specs.Bank.{Bank, width, slot_at, inserted_from_back, removed, sorted}
use Rattle.bank.specs.Calls.{insert_from_back, remove}
use Rattle.bank.specs.Holder.{changed_in, made_sorted_in}
use Rattle.bank.proofs.Moves.{length-turned, once-turned}
use Rattle.bank.proofs.Sorted.{sorted-size, sorted-width, sorted-once}
use Rattle.nibbles.specs.Words.{word_of, valid_word}
use Rattle.leaf_entries.specs.Sorting.{changed, made_sorted}
use Rattle.nibbles.proofs.Nibbles.{length-nibbles}
use Rattle.leaf_entries.proofs.Sorting.{Fit, size-packed, slots-packed, valid-packed, fit-inserted}
use Rattle.leaf_entries.specs.declared.Entry.{Entry}
use Rattle.leaf.specs.Leaf.{none, viewed, slots_of, entries_in_order, laid, rising}
use Rattle.leaf.specs.Cut.{cut_of}
use Rattle.leaf.proofs.Views.{good-word}
use Rattle.leaf.proofs.Rules as rules
use Rattle.leaf.proofs.Cuts.{cut-is}

-- ---- a bank that a leaf's word holds, packed and read again

bank-again : (b : Bank) → Fit 15 b → slots_of (word_of b) ≡ b
bank-again b f = ap₂ (λ (n : ℕ) (ps : List ℕ). record { size = n; slots = ps }) (size-packed 15 b f) (slots-packed 15 b f)

wide : (word : ℕ) → width (slots_of word) ≡ 15
wide word = length-nibbles 15 (word / 16)

fit-slots : (word : ℕ) → valid_word 15 word ≡ true → Fit 15 (slots_of word)
fit-slots word v =
    let g = good-word word v in
    record { least = g.least; most = g.most; wide = wide word; sized = g.sized; once = g.once }

fit-removed : (i : ℕ) (b : Bank) → Fit 15 b → i < b.size → Fit 15 (removed i b)
fit-removed i b f p =
    record {
      least = f.least;
      most = f.most;
      wide = length-turned i (i + 1) b.size b.slots (omega arith) (omega arith) ∙ f.wide;
      sized = omega arith;
      once = once-turned i (i + 1) b.size b.slots (omega arith) (omega arith) f.once;
    }

fit-sorted : (n : ℕ) → n ≤ 15 → Fit 15 (sorted 15 n)
fit-sorted n h =
    record {
      least = omega arith;
      most = omega arith;
      wide = sorted-width 15 n h;
      sized = rw (sorted-size 15 n h) h;
      once =
          sorted-once 15 n h;
    }

-- ---- an insertion

module _ (word i : ℕ) where
  abbrev back : ℕ
  back = slot_at (width (slots_of word) - 1) (slots_of word)

  abbrev resting : ℕ
  resting = width (slots_of word) - (inserted_from_back i (slots_of word)).size

  -- a leaf with room accepts it
  pub put-accepted : valid_word 15 word ≡ true → i ≤ word % 16 → word % 16 < 15
      → changed 15 word (insert_from_back i) ≡ accepted (word_of (inserted_from_back i (slots_of word)) ∷ back ∷ resting ∷ [])
  unfolding changed_in
  put-accepted v l h = rw (v, le-leb i (word % 16) l, lt-ltb (word % 16) (width (slots_of word)) (omega (arith, wide word)))

  record Put (next slot : ℕ) : Type 0 where
    pub word-valid : valid_word 15 word ≡ true
    pub place : i ≤ word % 16
    pub room : word % 16 < width (slots_of word)
    pub next_word : next ≡ word_of (inserted_from_back i (slots_of word))
    pub next-slot : slot ≡ back

  put-told : (next slot : ℕ) (told : List ℕ) → changed 15 word (insert_from_back i) ≡ accepted (next ∷ slot ∷ told) → Put next slot
  unfolding changed_in
  put-told next slot told =
      by (valid_word 15 word) refl (leb i (word % 16)) (leb-true i (word % 16)) (ltb (word % 16) (width (slots_of word)))
      (ltb-true (word % 16) (width (slots_of word)))
    where
      by : (p : Bool) → valid_word 15 word ≡ p → (q : Bool) → (q ≡ true → i ≤ word % 16) → (r : Bool)
          → (r ≡ true → word % 16 < width (slots_of word))
          → cond p
          (cond q
          (cond r
          (accepted (word_of (inserted_from_back i (slots_of word)) ∷ back ∷ resting ∷ []))
          (record { number = 5; values = word ∷ [] }))
          (record { number = 4; values = word ∷ [] }))
          (record { number = 2; values = word ∷ [] })
          ≡ accepted (next ∷ slot ∷ told)
          → Put next slot
      by true v true f true g e =
          record {
            word-valid = v;
            place = f refl;
            room = g refl;
            next_word = sym (ap (λ (a : Answer). get_or a.values 0 0) e);
            next-slot = sym (ap (λ (a : Answer). get_or a.values 1 0) e);
          }
      by true v true f false g e = absurd (let z : ◌≡◌ {A = ℕ} 5 0 = ap (λ (a : Answer). a.number) e in omega arith)
      by true v false f r g e = absurd (let z : ◌≡◌ {A = ℕ} 4 0 = ap (λ (a : Answer). a.number) e in omega arith)
      by false v q f r g e = absurd (let z : ◌≡◌ {A = ℕ} 2 0 = ap (λ (a : Answer). a.number) e in omega arith)

  module _ {next slot : ℕ} {told : List ℕ} (e : changed 15 word (insert_from_back i) ≡ accepted (next ∷ slot ∷ told)) where
    put_fit : Fit 15 (inserted_from_back i (slots_of word))
    put_fit = let p = put-told next slot told e in
        fit-inserted 15 i (slots_of word) (fit-slots word p.word-valid) p.place (omega (arith, p.room, wide word))

    -- An entry put into the slot that is handed out stands at place i of the view.
    pub put_view : (entries : List Entry) (entry : Entry) → length entries ≡ 15
        → entries_in_order next (set entries slot entry) ≡ take i (entries_in_order word entries) ++ entry ∷ drop i (entries_in_order word entries)
    put_view entries entry h =
        let p = put-told next slot told e in
        ap₂ (λ (b : Bank) (s : ℕ). viewed b (set entries s entry))
        (ap slots_of p.next_word ∙ bank-again (inserted_from_back i (slots_of word)) put_fit) p.next-slot
        ∙ rules.inserted-view (slots_of word) entries (fit-slots word p.word-valid).once (omega (arith, wide word)) i entry p.place
        p.room

    pub put-valid : valid_word 15 next ≡ true
    put-valid = let p = put-told next slot told e in
        ap (valid_word 15) p.next_word ∙ valid-packed 15 (inserted_from_back i (slots_of word)) put_fit

-- ---- a removal

module _ (word i : ℕ) where
  pub take-accepted : valid_word 15 word ≡ true → i < word % 16
      → changed 15 word (remove i) ≡ accepted (word_of (removed i (slots_of word)) ∷ [])
  unfolding changed_in
  take-accepted v l = rw (v, lt-ltb i (word % 16) l)

  record Taken (next : ℕ) : Type 0 where
    pub word-valid : valid_word 15 word ≡ true
    pub place : i < word % 16
    pub next_word : next ≡ word_of (removed i (slots_of word))

  take-told : (next : ℕ) → changed 15 word (remove i) ≡ accepted (next ∷ []) → Taken next
  unfolding changed_in
  take-told next = by (valid_word 15 word) refl (ltb i (word % 16)) (ltb-true i (word % 16))
    where
      by : (p : Bool) → valid_word 15 word ≡ p → (q : Bool) → (q ≡ true → i < word % 16)
          → cond p
          (cond q (accepted (word_of (removed i (slots_of word)) ∷ [])) (record { number = 4; values = word ∷ [] }))
          (record { number = 2; values = word ∷ [] })
          ≡ accepted (next ∷ [])
          → Taken next
      by true v true f e = record { word-valid = v; place = f refl; next_word = sym (ap (λ (a : Answer). get_or a.values 0 0) e) }
      by true v false f e = absurd (let z : ◌≡◌ {A = ℕ} 4 0 = ap (λ (a : Answer). a.number) e in omega arith)
      by false v q f e = absurd (let z : ◌≡◌ {A = ℕ} 2 0 = ap (λ (a : Answer). a.number) e in omega arith)

  module _ {next : ℕ} (e : changed 15 word (remove i) ≡ accepted (next ∷ [])) where
    take-fit : Fit 15 (removed i (slots_of word))
    take-fit = let p = take-told next e in fit-removed i (slots_of word) (fit-slots word p.word-valid) p.place

    -- The entry at place i is gone from the view; no entry is written.
    pub take-view : (entries : List Entry) → entries_in_order next entries ≡ take i (entries_in_order word entries) ++ drop (i + 1) (entries_in_order word entries)
    take-view entries =
        let p = take-told next e in
        ap (λ (b : Bank). viewed b entries) (ap slots_of p.next_word ∙ bank-again (removed i (slots_of word)) take-fit)
        ∙ rules.removed-view (slots_of word) entries i p.place (omega (arith, (fit-slots word p.word-valid).sized, wide word))

    pub take-valid : valid_word 15 next ≡ true
    take-valid = let p = take-told next e in ap (valid_word 15) p.next_word ∙ valid-packed 15 (removed i (slots_of word)) take-fit

-- ---- another entry in a slot in use

pub change-view : (word : ℕ) (entries : List Entry) (i : ℕ) (entry : Entry) → valid_word 15 word ≡ true → length entries ≡ 15 → i < word % 16
    → entries_in_order word (set entries (slot_at i (slots_of word)) entry) ≡ take i (entries_in_order word entries) ++ entry ∷ drop (suc i)
    (entries_in_order word entries)
change-view word entries i entry v h l =
    let f = fit-slots word v in
    rules.replaced-view (slots_of word) entries f.once (omega (arith, wide word)) i entry l (omega (arith, f.sized, wide word))

-- ---- sorted words

module _ (n : ℕ) (h : n ≤ 15) where
  pub sorted-accepted : made_sorted 15 n ≡ accepted (word_of (sorted 15 n) ∷ [])
  unfolding made_sorted_in
  sorted-accepted = rw (le-leb n 15 h)

  module _ {word : ℕ} (e : made_sorted 15 n ≡ accepted (word ∷ [])) where
    made : word ≡ word_of (sorted 15 n)
    made = ap (λ (a : Answer). get_or a.values 0 0) (sym e ∙ sorted-accepted)

    -- The view of a leaf with a sorted word is its first n entries.
    pub sorted-view : (entries : List Entry) → n ≤ length entries → entries_in_order word entries ≡ take n entries
    sorted-view entries l =
        ap (λ (b : Bank). viewed b entries) (ap slots_of made ∙ bank-again (sorted 15 n) (fit-sorted n h))
        ∙ rules.sorted-view 15 n entries h l

    pub sorted-valid : valid_word 15 word ≡ true
    sorted-valid = ap (valid_word 15) made ∙ valid-packed 15 (sorted 15 n) (fit-sorted n h)

-- Entries laid into slots 0, 1, .. under the sorted word are the view.
pub laid-view : (es : List Entry) {word : ℕ} → length es ≤ 15 → made_sorted 15 (length es) ≡ accepted (word ∷ [])
    → entries_in_order word (laid es) ≡ es
laid-view es {word} h e =
    sorted-view (length es) h e (laid es) (omega (arith, length-append es (replicate (15 - length es) none)))
    ∙ take_at es (replicate (15 - length es) none) (length es) refl

pub laid-long : (es : List Entry) → length es ≤ 15 → length (laid es) ≡ 15
laid-long es h =
    length-append es (replicate (15 - length es) none)
    ∙ ap (λ (n : ℕ). length es + n) (length-replicate (15 - length es) none)
    ∙ (let z : length es + (15 - length es) ≡ 15 = omega arith in z)

-- The two halves of sixteen rising entries, cut and laid under sorted words.
module _ (es : List Entry) (r : rising es ≡ true) (h : length es ≡ 16) where
  pub left-view : {word : ℕ} → made_sorted 15 (cut_of es) ≡ accepted (word ∷ [])
      → entries_in_order word (laid (take (cut_of es) es)) ≡ take (cut_of es) es
  left-view {word} e =
      let c = cut-is es r h in
      let n : length (take (cut_of es) es) ≡ cut_of es = length-take-le (cut_of es) es (omega (arith, c.most)) in
      laid-view (take (cut_of es) es) (omega (arith, c.most)) (ap (made_sorted 15) n ∙ e)

  pub right-view : {word : ℕ} → made_sorted 15 (16 - cut_of es) ≡ accepted (word ∷ [])
      → entries_in_order word (laid (drop (cut_of es) es)) ≡ drop (cut_of es) es
  right-view {word} e =
      let c = cut-is es r h in
      let n : length (drop (cut_of es) es) ≡ 16 - cut_of es = length-drop (cut_of es) es ∙ ap (λ (k : ℕ). k - cut_of es) h in
      laid-view (drop (cut_of es) es) (omega (arith, c.least)) (ap (made_sorted 15) n ∙ e)
