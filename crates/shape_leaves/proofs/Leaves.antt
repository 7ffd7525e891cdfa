-- The entries of a leaf in memory, and what stands in its other slots, by positions of its slot word; and a law for each way in which
-- a judgement of a leaf returns. Assumes nothing.
use Prim.Native.Nat.{ℕ, zero, suc, ◌+◌, ◌*◌, ◌-◌, ◌/◌, ◌%◌, ◌^◌, ◌≤◌, ◌<◌}
use mathlib.Core.Path.{◌≡◌, refl, sym, ap, ap₂, ◌∙◌, subst}
use mathlib.Core.Bool.{Bool, true, false, not, ◌&&◌}
use mathlib.Core.List.{List, [], ◌∷◌, map}
use native.Mathlib.Omega.{arith}
use native.Mathlib.Nat.{le_of_suc-le-suc, not-suc-le-zero}
use lib.Dec.{leb, eqb}
use lib.Bits.{bit_or}
use lib.Pow.{shr-shr}
use lib.ListN.{length, get_or, take, length-map, length-drop}
use lib.Seq.{take_all, get_or-drop}
use borrow.Author.Count.{below_more}
use borrow.Author.Tests.{le-leb, lt-leb, eq-eqb, ne_eqb, not-true, not-false}
use Rattle.bank.specs.Bank.{slot_at}
use Rattle.nibbles.specs.Words.{valid_word}
use Rattle.nibbles.proofs.Nibbles.{length-nibbles}
use Rattle.leaf_entries.specs.declared.Entry.{Entry}
use Rattle.leaf.specs.Lists.{every}
use Rattle.leaf.specs.Leaf.{none, slots_of, less, rising}
use Rattle.leaf.proofs.Lists.{get_d_map, every-all, every-not}
use Rattle.leaf_entries.proofs.Views.{slot-in-word, slot-fifteen}
use Rattle.leaf.proofs.Orders.{less-weight, rising-if, rising-not}
use Rattle.arena.specs.Layout.{word_at}
use Rattle.forest.specs.Nodes.{entry_at, not_in_use, entries_at, rest_at, of_class, is_zero, leaf_right}
use Rattle.forest.proofs.InUse.{entries-length, entry_here}
use Rattle.zeros.proofs.Zeros.{or-none}

-- ---- an entry by its three words

pub entry_read : (nodes : List ℕ) (k slot : ℕ)
    → ◌≡◌ {A = Entry}
    (record {
      ikey = get_or nodes (2 + k * 47 + 2 + slot) 0;
      class = get_or nodes (2 + k * 47 + 17 + slot) 0;
      at =
          get_or nodes (2 + k * 47 + 32 + slot) 0;
    })
    (entry_at nodes k slot)
entry_read nodes k slot =
    let a : 2 + k * 47 + 2 + slot ≡ 2 + k * 47 + (2 + slot) = omega arith in
    let b : 2 + k * 47 + 17 + slot ≡ 2 + k * 47 + (17 + slot) = omega arith in
    let d : 2 + k * 47 + 32 + slot ≡ 2 + k * 47 + (32 + slot) = omega arith in
    rw (a, b, d)

-- ---- the entries in use and the rest, by positions

module _ (nodes : List ℕ) (k word : ℕ) (v : valid_word 15 word ≡ true) (w : word ≡ word_at nodes k 1) where
  used-length : length (entries_at nodes k) ≡ word % 16
  used-length = entries-length nodes k word w

  used-at : (i : ℕ) {slot : ℕ} → i < word % 16 → slot ≡ slot_at i (slots_of word) → get_or (entries_at nodes k) i none ≡ entry_at nodes k slot
  used-at i l e = entry_here nodes k word w i l e

  other : rest_at nodes k ≡ map (entry_at nodes k) (not_in_use (slots_of word))
  unfolding rest_at
  other = ap (λ (x : ℕ). map (entry_at nodes k) (not_in_use (slots_of x))) (sym w)

  not-used-length : length (not_in_use (slots_of word)) ≡ 15 - word % 16
  not-used-length =
      length-drop (word % 16) (slots_of word).slots ∙ ap (λ (n : ℕ). n - word % 16) (length-nibbles 15 (word / 16))

  other_length : length (rest_at nodes k) ≡ 15 - word % 16
  other_length =
      ap length other ∙ length-map (not_in_use (slots_of word)) (entry_at nodes k) ∙ not-used-length

  other_at : (i : ℕ) {slot : ℕ} → word % 16 ≤ i → i < 15 → slot ≡ slot_at i (slots_of word)
      → get_or (rest_at nodes k) (i - word % 16) none ≡ entry_at nodes k slot
  other_at i {slot} h l e =
      ap (λ (es : List Entry). get_or es (i - word % 16) none) other
      ∙ get_d_map (entry_at nodes k) (not_in_use (slots_of word)) (i - word % 16) 0 none
      (let z : i - word % 16 < length (not_in_use (slots_of word)) = rw not-used-length (omega arith) in z)
      ∙ ap (entry_at nodes k)
      (get_or-drop (word % 16) (slots_of word).slots (i - word % 16) 0
      ∙ ap (λ (n : ℕ). get_or (slots_of word).slots n 0) (let z : word % 16 + (i - word % 16) ≡ i = omega arith in z)
      ∙ sym e)

-- ---- classes of the entries in use

module _ (nodes : List ℕ) (k word : ℕ) (v : valid_word 15 word ≡ true) (w : word ≡ word_at nodes k 1) {size : ℕ} (s : size ≡ word % 16) where
  class-here : (i : ℕ) {slot : ℕ} → i < size → slot ≡ slot_at i (slots_of word)
      → of_class (get_or (entries_at nodes k) i none) ≡ leb (get_or nodes (2 + k * 47 + 17 + slot) 0) 10
  class-here i {slot} l e =
      ap of_class (used-at nodes k word v w i (omega arith) e)
      ∙ ap (λ (n : ℕ). leb (get_or nodes n 0) 10) (let z : 2 + k * 47 + (17 + slot) ≡ 2 + k * 47 + 17 + slot = omega arith in z)

  module _ (i : ℕ) {slot : ℕ} (l : i < size) (e : slot ≡ slot_at i (slots_of word)) where
    pub class-not : 10 < get_or nodes (2 + k * 47 + 17 + slot) 0 → false ≡ every of_class (entries_at nodes k)
    class-not h =
        every-not of_class none (entries_at nodes k) i (omega (arith, used-length nodes k word v w))
        (class-here i l e ∙ lt-leb (get_or nodes (2 + k * 47 + 17 + slot) 0) 10 h)

    pub class-next : ((j : ℕ) → j < i → of_class (get_or (entries_at nodes k) j none) ≡ true) → get_or nodes (2 + k * 47 + 17 + slot) 0 ≤ 10
        → (j : ℕ) → j < i + 1 → of_class (get_or (entries_at nodes k) j none) ≡ true
    class-next f h = below_more _ i f (class-here i l e ∙ le-leb (get_or nodes (2 + k * 47 + 17 + slot) 0) 10 h)

  pub class-all : (i : ℕ) → size ≤ i → ((j : ℕ) → j < i → of_class (get_or (entries_at nodes k) j none) ≡ true)
      → true ≡ every of_class (entries_at nodes k)
  class-all i l f = every-all of_class none (entries_at nodes k) (λ j h. f j (omega (arith, used-length nodes k word v w)))

  -- ---- their order

  module _ (i : ℕ) {slot next : ℕ} {a b : Entry} {r : Bool} (p : 1 ≤ i) (l : i < size) (d : slot ≡ slot_at (i - 1) (slots_of word))
      (ea : a ≡ entry_at nodes k slot) (e : next ≡ slot_at i (slots_of word)) (eb : b ≡ entry_at nodes k next) (q : r ≡ less a b) where
    pair-here : less (get_or (entries_at nodes k) (i - 1) none) (get_or (entries_at nodes k) i none) ≡ r
    pair-here =
        ap₂ less (used-at nodes k word v w (i - 1) (omega arith) d ∙ sym ea) (used-at nodes k word v w i (omega arith) e ∙ sym eb) ∙ sym q

    pub order-not : not r ≡ true → false ≡ rising (entries_at nodes k)
    order-not n =
        rising-not (entries_at nodes k) (i - 1) (omega (arith, used-length nodes k word v w))
        (ap (λ (m : ℕ). less (get_or (entries_at nodes k) (i - 1) none) (get_or (entries_at nodes k) m none))
        (let z : suc (i - 1) ≡ i = omega arith in z)
        ∙ pair-here ∙ not-true r n)

    pub order-next : ((j : ℕ) → j < i → 1 ≤ j → less (get_or (entries_at nodes k) (j - 1) none) (get_or (entries_at nodes k) j none) ≡ true)
        → not r ≡ false → (j : ℕ) → j < i + 1 → 1 ≤ j
        → less (get_or (entries_at nodes k) (j - 1) none) (get_or (entries_at nodes k) j none) ≡ true
    order-next f n = below_more _ i f (λ h. pair-here ∙ not-false r n)

  pub order-all : (i : ℕ) → size ≤ i → ((j : ℕ) → j < i → 1 ≤ j
      → less (get_or (entries_at nodes k) (j - 1) none) (get_or (entries_at nodes k) j none) ≡ true)
      → true ≡ rising (entries_at nodes k)
  order-all i l f =
      sym (rising-if (entries_at nodes k)
      (λ j h. less-weight (get_or (entries_at nodes k) j none) (get_or (entries_at nodes k) (suc j) none)
      (ap (λ (n : ℕ). less (get_or (entries_at nodes k) n none) (get_or (entries_at nodes k) (suc j) none))
      (let z : j ≡ suc j - 1 = omega arith in z)
      ∙ f (suc j) (omega (arith, used-length nodes k word v w)) (omega arith))))

-- ---- the slots that are not in use, of which some are left

-- one entry more
every_more : (es : List Entry) (n : ℕ) → n < length es
    → every is_zero (take (suc n) es) ≡ (every is_zero (take n es) && is_zero (get_or es n none))
unfolding every
every_more [] n l = absurd (not-suc-le-zero l)
every_more (e ∷ es) zero l = and-true (is_zero e)
  where
    and-true : (b : Bool) → (b && true) ≡ b
    and-true true = refl
    and-true false = refl
every_more (e ∷ es) (suc n) l =
    ap (λ (b : Bool). is_zero e && b) (every_more es n (le_of_suc-le-suc l))
    ∙ grouped (is_zero e) (every is_zero (take n es)) (is_zero (get_or es n none))
  where
    grouped : (a b c : Bool) → (a && (b && c)) ≡ ((a && b) && c)
    grouped true b c = refl
    grouped false b c = refl

module _ (nodes : List ℕ) (k word : ℕ) (v : valid_word 15 word ≡ true) (w : word ≡ word_at nodes k 1) where
  module _ {size : ℕ} (s : size ≡ word % 16) where
    pub nibbles-first : word / 16 / 2 ^ (4 * size) ≡ word / 2 ^ (4 * (size + 1))
    nibbles-first =
        shr-shr word 4 (4 * size)
        ∙ ap (λ (n : ℕ). word / 2 ^ n) (let z : 4 + 4 * size ≡ 4 * (size + 1) = omega arith in z)

    pub over_first : eqb 0 0 ≡ every is_zero (take (size - word % 16) (rest_at nodes k))
    unfolding every
    over_first =
        ap (λ (n : ℕ). every is_zero (take n (rest_at nodes k))) (let z : 0 ≡ size - word % 16 = omega arith in z)

    module _ {rest i : ℕ} (m : size ≤ i) (l : i < 15) (er : rest ≡ word / 2 ^ (4 * (i + 1))) where
      pub nibbles-next : rest / 16 ≡ word / 2 ^ (4 * (i + 1 + 1))
      nibbles-next =
          ap (λ (x : ℕ). x / 16) er
          ∙ shr-shr word (4 * (i + 1)) 4
          ∙ ap (λ (n : ℕ). word / 2 ^ n) (let z : 4 * (i + 1) + 4 ≡ 4 * (i + 1 + 1) = omega arith in z)

      module _ {slot : ℕ} (es : slot ≡ rest % 16) where
        slot-left : slot ≡ slot_at i (slots_of word)
        slot-left = slot-in-word word i l (es ∙ ap (λ (x : ℕ). x % 16) er)

        pub slot-left-lt : slot < 15
        slot-left-lt = slot-fifteen word v i l slot-left

        here : get_or (rest_at nodes k) (i - word % 16) none ≡ entry_at nodes k slot
        here = other_at nodes k word v w i (omega arith) l slot-left

        pub over-next : {a : Entry} (r found : ℕ) → a ≡ entry_at nodes k slot → eqb r 0 ≡ is_zero a
            → eqb found 0 ≡ every is_zero (take (i - word % 16) (rest_at nodes k))
            → eqb (bit_or found r) 0 ≡ every is_zero (take (i + 1 - word % 16) (rest_at nodes k))
        over-next {a} r found ea q f =
            or-none found r
            ∙ ap₂ ◌&&◌ f (q ∙ ap is_zero (ea ∙ sym here))
            ∙ sym (every_more (rest_at nodes k) (i - word % 16) (omega (arith, other_length nodes k word v w)))
            ∙ ap (λ (n : ℕ). every is_zero (take n (rest_at nodes k)))
            (let z : suc (i - word % 16) ≡ i + 1 - word % 16 = omega arith in z)

  pub over-all : {i : ℕ} (found : ℕ) → 15 ≤ i → eqb found 0 ≡ every is_zero (take (i - word % 16) (rest_at nodes k))
      → eqb found 0 ≡ every is_zero (rest_at nodes k)
  over-all {i} found l f =
      f ∙ ap (every is_zero) (take_all (i - word % 16) (rest_at nodes k) (omega (arith, other_length nodes k word v w)))

-- ---- the whole leaf

pub told-valid : (word : ℕ) {r : Bool} → r ≡ valid_word 15 word → not r ≡ false → valid_word 15 word ≡ true
told-valid word {r} e h = sym e ∙ not-false r h

module _ (nodes : List ℕ) (k : ℕ) where
  pub leaf-kind : (get_or nodes (2 + k * 47) 0 ≡ 1 → ⊥) → false ≡ leaf_right nodes k
  unfolding leaf_right
  leaf-kind h = rw (ne_eqb (get_or nodes (2 + k * 47) 0) 1 h)

  module _ (kind : get_or nodes (2 + k * 47) 0 ≡ 1) {valid : Bool} (v : valid ≡ valid_word 15 (get_or nodes (2 + k * 47 + 1) 0)) where
    pub leaf-word : not valid ≡ true → false ≡ leaf_right nodes k
    unfolding leaf_right
    leaf-word h = rw (eq-eqb (get_or nodes (2 + k * 47) 0) 1 kind, ← v, not-true valid h)

    module _ (hv : not valid ≡ false) {classes : Bool} (ec : classes ≡ every of_class (entries_at nodes k)) where
      pub leaf-classes : not classes ≡ true → false ≡ leaf_right nodes k
      unfolding leaf_right
      leaf-classes h =
          rw (eq-eqb (get_or nodes (2 + k * 47) 0) 1 kind, ← v, not-false valid hv, ← ec, not-true classes h)

      module _ (hc : not classes ≡ false) {rises : Bool} (er : rises ≡ rising (entries_at nodes k)) where
        pub leaf-order : not rises ≡ true → false ≡ leaf_right nodes k
        unfolding leaf_right
        leaf-order h =
            rw (eq-eqb (get_or nodes (2 + k * 47) 0) 1 kind, ← v, not-false valid hv, ← ec, not-false classes hc, ← er, not-true rises h)

        pub leaf-rest : not rises ≡ false → {r : Bool} → r ≡ every is_zero (rest_at nodes k) → r ≡ leaf_right nodes k
        unfolding leaf_right
        leaf-rest h e =
            rw (eq-eqb (get_or nodes (2 + k * 47) 0) 1 kind, ← v, not-false valid hv, ← ec, not-false classes hc, ← er, not-false rises h) e

pub ruleset classes = (class-not, class-next, class-all)

pub ruleset orders = (order-not, order-next, order-all)

pub ruleset rests = (nibbles-first, over_first, slot-left-lt, nibbles-next, over-next, over-all)

pub ruleset leaves = (leaf-kind, leaf-word, leaf-classes, leaf-order, leaf-rest)
