-- A law for each way in which a call on a key returns. Assumes nothing.
use Prim.Native.Nat.{ℕ, ◌+◌, ◌-◌, ◌*◌, ◌/◌, ◌%◌, ◌≤◌, ◌<◌, Ordering}
use mathlib.Core.Path.{◌≡◌, refl, sym, ap, ◌∙◌}
use mathlib.Core.Bool.{Bool, true, false, cond}
use mathlib.Core.List.{List, [], ◌∷◌}
use native.Mathlib.Omega.{arith}
use lib.Dec.{ltb, eqb}
use lib.ListN.{length, take, drop}
use borrow.Author.Tests.{lt-ltb, le-ltb, le-leb, lt-leb, eq-eqb, ne_eqb, not-true, not-false}
use Rattle.order.specs.Bytes.{bytewise}
use Rattle.order.specs.Layer.{class_of, class_at, at_layer}
use Rattle.refusal.specs.Answer.{Answer, accepted, refused, answered, ◌unless◌}
use Rattle.refusal.specs.declared.Refusal.{Refusal}
use Rattle.refusal.specs.Refusals.{number_of}
use Rattle.refusal.proofs.One.{no-refusal}
use Rattle.refusal.specs.declared.Refusal.TheVariants.{Key, Shift}
use Rattle.ikey.specs.Said.{place}
use Rattle.key_layer.specs.Said.{truth}
use Rattle.key_layer.specs.Keys.{numbers_at, fits, asked, moved, allows, shiftable, new_said, suffix_from, data_from}
use Rattle.ikey.proofs.Ikeys.{rest_of}
use Rattle.key_layer.proofs.Fitting.{allows-is}

-- ---- the judgement itself

module _ (bytes : List ℕ) (i s p : ℕ) {r : Bool} (e : r ≡ fits bytes i s p) where
  pub asked-unfit : r ≡ false → refused Key (i ∷ s ∷ p ∷ []) ≡ asked bytes i s p []
  unfolding asked
  asked-unfit q = rw (← e, q)

  pub asked-fit : r ≡ true → accepted [] ≡ asked bytes i s p []
  unfolding asked
  asked-fit q = rw (← e, q)

-- ---- its number alone

module _ (bytes : List ℕ) (i s p : ℕ) {r : Bool} (e : r ≡ fits bytes i s p) where
  pub number-fit : r ≡ true → 0 ≡ (asked bytes i s p []).number
  unfolding asked
  number-fit q = rw (← e, q)

  pub number-unfit : r ≡ false → {n : ℕ} → n ≡ number_of Key → n ≡ (asked bytes i s p []).number
  unfolding asked
  number-unfit q h = rw (← e, q) h

-- ---- a call that judges its key first

module _ (bytes : List ℕ) (i s p : ℕ) where
  -- the judgement passes: the key fits
  pub judged-fits : accepted [] ≡ asked bytes i s p [] → true ≡ fits bytes i s p
  unfolding asked
  judged-fits e = go (fits bytes i s p) e
    where
      go : (t : Bool) → accepted [] ≡ answered ((7 unless t) ∷ []) [] (i ∷ s ∷ p ∷ []) → true ≡ t
      go true h = refl
      go false h = no-refusal Key h

  -- the judgement refuses: so does every call
  pub asked-refused : (vs : List ℕ) (why : Refusal) (back : List ℕ) → refused why back ≡ asked bytes i s p [] → refused why back ≡ asked bytes i s p vs
  unfolding asked
  asked-refused vs why back e = go (fits bytes i s p) e
    where
      go : (t : Bool) → refused why back ≡ answered ((7 unless t) ∷ []) [] (i ∷ s ∷ p ∷ [])
          → refused why back ≡ answered ((7 unless t) ∷ []) vs (i ∷ s ∷ p ∷ [])
      go true h = no-refusal why (sym h)
      go false h = h

  pub moved-refused : (allowed : Bool) (to : ℕ) (why : Refusal) (back : List ℕ) → refused why back ≡ asked bytes i s p []
      → refused why back ≡ moved bytes i s p allowed to
  unfolding asked moved
  moved-refused allowed to why back e = go (fits bytes i s p) e
    where
      go : (t : Bool) → refused why back ≡ answered ((7 unless t) ∷ []) [] (i ∷ s ∷ p ∷ [])
          → refused why back ≡ answered ((7 unless t) ∷ (8 unless allowed) ∷ []) (numbers_at bytes to) (i ∷ s ∷ p ∷ [])
      go true h = no-refusal why (sym h)
      go false h = h

-- it passes: the call answers
module _ (bytes : List ℕ) (i s p : ℕ) (e : true ≡ fits bytes i s p) where
  pub asked-passed : {us vs : List ℕ} → us ≡ vs → accepted us ≡ asked bytes i s p vs
  unfolding asked
  asked-passed u = rw (← e, u)

  pub asked-told : (vs : List ℕ) → accepted vs ≡ asked bytes i s p vs
  asked-told vs = asked-passed refl

  pub count-passed : {m n : ℕ} → m ≡ n → accepted (m ∷ []) ≡ asked bytes i s p (n ∷ [])
  count-passed u = asked-passed (ap (λ (n : ℕ). n ∷ []) u)

  pub below-passed : (k : ℕ) {m n : ℕ} → m ≡ n → accepted (truth (ltb k m) ∷ []) ≡ asked bytes i s p (truth (ltb k n) ∷ [])
  below-passed k u = asked-passed (ap (λ (n : ℕ). truth (ltb k n) ∷ []) u)

  pub layer-passed : {o : Ordering} (k m : ℕ) {n : ℕ} → o ≡ at_layer i (class_of n) k (class_of m) → n ≡ length bytes - 8 * s
      → accepted (place o ∷ []) ≡ asked bytes i s p (place (at_layer i (class_at bytes (8 * s)) k (class_of m)) ∷ [])
  layer-passed k m u w = asked-passed (ap (λ (y : Ordering). place y ∷ []) (u ∙ ap (λ (y : ℕ). at_layer i (class_of y) k (class_of m)) w))

  pub suffix-passed : {o : Ordering} (other : List ℕ) → o ≡ bytewise (take (length bytes - p) (drop p bytes)) other
      → accepted (place o ∷ []) ≡ asked bytes i s p (place (bytewise (drop p bytes) other) ∷ [])
  suffix-passed other u = asked-passed
      (ap (λ (y : Ordering). place y ∷ []) (u ∙ ap (λ (y : List ℕ). bytewise y other) (rest_of bytes p)))

  -- the same of the part that is handed back for the suffix
  from-start : p ≡ suffix_from bytes i s p
  unfolding suffix_from
  from-start = rw (← e)

  pub part-passed : {o : Ordering} {part : List ℕ} (other : List ℕ) → o ≡ bytewise part other → part ≡ drop (suffix_from bytes i s p) bytes
      → accepted (place o ∷ []) ≡ asked bytes i s p (place (bytewise (drop p bytes) other) ∷ [])
  part-passed other u w = asked-passed (ap (λ (y : Ordering). place y ∷ [])
      (u ∙ ap (λ (y : List ℕ). bytewise y other) (w ∙ ap (λ (n : ℕ). drop n bytes) (sym from-start))))

  -- a move that is not allowed
  module _ {x : Answer} (u : x ≡ refused Shift (i ∷ s ∷ p ∷ [])) (to : ℕ) where
    pub moved-not : (allowed : Bool) {a : Bool} → a ≡ allowed → a ≡ false → x ≡ moved bytes i s p allowed to
    unfolding moved
    moved-not allowed f h = rw (← e, ← f, h) u

    pub moved-over : (k : ℕ) {m n : ℕ} → n ≡ m → n ≤ k → x ≡ moved bytes i s p (ltb k m) to
    moved-over k {m} l h = moved-not (ltb k m) refl (le-ltb k m (omega arith))

    pub moved-first : (k m : ℕ) → m ≤ k → x ≡ moved bytes i s p (ltb k m) to
    moved-first k m h = moved-over k {m = m} refl h

  -- and one that is
  module _ (to : ℕ) {us : List ℕ} (u : us ≡ numbers_at bytes to) where
    pub moved_at : (allowed : Bool) {a : Bool} → a ≡ allowed → a ≡ true → accepted us ≡ moved bytes i s p allowed to
    unfolding moved
    moved_at allowed f h = rw (← e, ← f, h, u)

    pub moved-within : (k : ℕ) {m n : ℕ} → n ≡ m → k < n → accepted us ≡ moved bytes i s p (ltb k m) to
    moved-within k {m} l h = moved_at (ltb k m) refl (lt-ltb k m (omega arith))

    pub moved_later : (k m : ℕ) → k < m → accepted us ≡ moved bytes i s p (ltb k m) to
    moved_later k m h = moved-within k {m = m} refl h

-- ---- how far a shift is allowed

module _ (bytes : List ℕ) (s by : ℕ) where
  pub shiftable-none : by ≡ 0 → eqb by 0 ≡ shiftable bytes s by
  unfolding shiftable allows
  shiftable-none z =
      let q : by / 8 ≡ 0 = omega arith in
      rw (eq-eqb by 0 z, eq-eqb (by % 8) 0 (omega arith), q)

  module _ (z : by ≡ 0 → ⊥) where
    pub shiftable-odd : (by % 8 ≡ 0 → ⊥) → eqb (by % 8) 0 ≡ shiftable bytes s by
    unfolding shiftable
    shiftable-odd h = rw (ne_eqb (by % 8) 0 h)

    pub shiftable-far : by % 8 ≡ 0 → {n : ℕ} → n ≡ length bytes - 8 * s → ltb by n ≡ shiftable bytes s by
    unfolding shiftable
    shiftable-far h l =
        let d : (by / 8 ≡ 0 → ⊥) = λ q. z (omega arith) in
        let m : 8 * (by / 8) ≡ by = omega arith in
        rw (eq-eqb (by % 8) 0 h, allows-is (by / 8) bytes s, ne_eqb (by / 8) 0 d, m, l)

-- ---- a new key

module _ (bytes : List ℕ) where
  pub new-long : 256 < length bytes → refused Key [] ≡ new_said bytes
  unfolding new_said
  new-long h = rw (lt-leb (length bytes) 256 h)

  pub new-at : length bytes ≤ 256 → {us : List ℕ} → us ≡ numbers_at bytes 0 → accepted us ≡ new_said bytes
  unfolding new_said
  new-at h u = rw (le-leb (length bytes) 256 h, u)

-- ---- a part that is handed back

module _ (bytes : List ℕ) (i s p : ℕ) {r : Bool} (e : r ≡ fits bytes i s p) where
  module _ (q : r ≡ false) where
    at-end : length bytes ≡ suffix_from bytes i s p
    unfolding suffix_from
    at-end = rw (← e, q)

    data-end : length bytes ≡ data_from bytes i s p
    unfolding data_from
    data-end = rw (← e, q)

    pub suffix-none : take (length bytes - length bytes) (drop (length bytes) bytes) ≡ drop (suffix_from bytes i s p) bytes
    suffix-none = rest_of bytes (length bytes) ∙ ap (λ (n : ℕ). drop n bytes) at-end

    pub suffix-none-at : (a : ℕ) → length bytes + a ≡ suffix_from bytes i s p + a
    suffix-none-at a = ap (◌+ a) at-end

    pub data-none : take (length bytes - length bytes) (drop (length bytes) bytes) ≡ drop (data_from bytes i s p) bytes
    data-none = rest_of bytes (length bytes) ∙ ap (λ (n : ℕ). drop n bytes) data-end

    pub data-none-at : (a : ℕ) → length bytes + a ≡ data_from bytes i s p + a
    data-none-at a = ap (◌+ a) data-end

  module _ (q : r ≡ true) where
    at-suffix : p ≡ suffix_from bytes i s p
    unfolding suffix_from
    at-suffix = rw (← e, q)

    at-start : 0 ≡ data_from bytes i s p
    unfolding data_from
    at-start = rw (← e, q)

    pub suffix-some : take (length bytes - p) (drop p bytes) ≡ drop (suffix_from bytes i s p) bytes
    suffix-some = rest_of bytes p ∙ ap (λ (n : ℕ). drop n bytes) at-suffix

    pub suffix-some-at : (a : ℕ) → p + a ≡ suffix_from bytes i s p + a
    suffix-some-at a = ap (◌+ a) at-suffix

    pub data-all : take (length bytes - 0) bytes ≡ drop (data_from bytes i s p) bytes
    data-all = rest_of bytes 0 ∙ ap (λ (n : ℕ). drop n bytes) at-start

    pub data-all-at : (a : ℕ) → 0 + a ≡ data_from bytes i s p + a
    data-all-at a = ap (◌+ a) at-start

pub ruleset judging = (asked-unfit, asked-fit, not-true, not-false)

pub ruleset numbering = (number-fit, number-unfit, not-true, not-false)

pub ruleset asking = (asked-refused, asked-told, count-passed, below-passed, layer-passed, suffix-passed)

pub ruleset moving = (
  shiftable-none,
  shiftable-odd,
  shiftable-far,
  moved-refused,
  moved-not,
  moved-over,
  moved-first,
  moved_at,
  moved-within,
  moved_later,
  new-long,
  new-at,
)
