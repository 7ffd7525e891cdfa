-- One law for each way in which a call returns after the judgement, whatever holds the bank. Assumes nothing.
use mathlib.Core.Path.{◌≡◌, refl, sym, ap, ap₂, ◌∙◌}
use mathlib.Core.Bool.{true}
use mathlib.Core.Logic.{◌⊎◌, inl, inr}
use mathlib.Core.List.{List, [], ◌∷◌, ◌++◌, append-nil}
use Prim.Native.Nat.{ℕ, ◌+◌, ◌-◌, ◌≤◌, ◌<◌}
use native.Mathlib.Omega.{arith}
use borrow.Author.Tests.{lt-leb, le-leb, lt-ltb, le-ltb}
use Rattle.refusal.specs.Answer.{accepted, refused, all_hold}
use Rattle.refusal.specs.declared.Refusal.TheVariants.{Position, Full, Unused}
use Rattle.refusal.proofs.Laws.{accepted-if}
use Rattle.bank.specs.Lists.{turned}
use Rattle.bank.specs.Bank.{Bank, width, slot_at, place_in_use, inserted_from_back, exchanged, resized}
use Rattle.bank.specs.Calls.{
  Change,
  from_value,
  set_size,
  swap_free_slots,
  insert_from_back,
  insert_first_free,
  remove,
  remove_to_back,
  remove_slot,
  exchange,
  rotate,
  size,
  get,
  back,
  back_at_offset,
  change_rules,
  after,
  told_beside,
}
use Rattle.bank.specs.Holder.{Holder, changed_in, asked_in}

-- the bank with a size of its own and with positions a to c-1 turned: what most calls make
abbrev pub turned_bank : ℕ → ℕ → ℕ → ℕ → Bank → Bank
turned_bank n i j k b = record { size = n; slots = turned i j k b.slots }

module _ {Held : Type 0} (h : Holder Held) (held : Held) (good : h.good_width ≡ true) (valid : h.valid held ≡ true) where
  abbrev b : Bank
  b = h.bank_of held

  -- ---- refused: what was given goes back

  module _ {given : List ℕ} (g : given ≡ h.values held) where
    -- by the size
    module _ {n : ℕ} (s : n ≡ b.size) where
      pub remove-position : (i : ℕ) → n ≤ i → refused Position given ≡ changed_in h held (remove i)
      unfolding changed_in
      remove-position i l = rw (good, valid, g, le-ltb i b.size (omega arith))

      pub withdraw-position : (i : ℕ) → n ≤ i → refused Position given ≡ changed_in h held (remove_to_back i)
      unfolding changed_in
      withdraw-position i l = rw (good, valid, g, le-ltb i b.size (omega arith))

      pub slot-unused : {i : ℕ} (slot : ℕ) → i ≡ place_in_use slot b → n ≤ i → refused Unused given ≡ changed_in h held (remove_slot slot)
      unfolding changed_in
      slot-unused slot p l = rw (good, valid, g, le-ltb (place_in_use slot b) b.size (omega arith))

      pub insert-position : (i : ℕ) → n < i → refused Position given ≡ changed_in h held (insert_from_back i)
      unfolding changed_in
      insert-position i l = rw (good, valid, g, lt-leb i b.size (omega arith))

      pub first-free-position : (i : ℕ) → n < i → refused Position given ≡ changed_in h held (insert_first_free i)
      unfolding changed_in
      first-free-position i l = rw (good, valid, g, lt-leb i b.size (omega arith))

    -- by the width
    module _ {w : ℕ} (wide : width b ≡ w) where
      pub get-position : (i : ℕ) → w ≤ i → refused Position given ≡ asked_in h held (get i)
      unfolding asked_in
      get-position i l = rw (good, valid, g, wide, le-ltb i w l)

      pub resize-position : (n : ℕ) → w < n → refused Position given ≡ changed_in h held (set_size n)
      unfolding changed_in
      resize-position n l = rw (good, valid, g, wide, lt-leb n w l)

      pub exchange-out : (i j : ℕ) → (w ≤ i) ⊎ ((i < w) × (w ≤ j)) → refused Position given ≡ changed_in h held (exchange i j)
      unfolding changed_in
      exchange-out i j (inl l) = rw (good, valid, g, wide, le-ltb i w l)
      exchange-out i j (inr l) = rw (good, valid, g, wide, lt-ltb i w l.0, le-ltb j w l.1)

      pub rotate-out : (i j : ℕ) → (j < i) ⊎ ((i ≤ j) × (w < j)) → refused Position given ≡ changed_in h held (rotate i j)
      unfolding changed_in
      rotate-out i j (inl l) = rw (good, valid, g, lt-leb i j l)
      rotate-out i j (inr l) = rw (good, valid, g, wide, le-leb i j l.0, lt-leb j w l.1)

      module _ {n : ℕ} (s : n ≡ b.size) where
        pub offset-position : (k : ℕ) → w - n ≤ k → b.size ≤ w → refused Position given ≡ asked_in h held (back_at_offset k)
        unfolding asked_in
        offset-position k l m = rw (good, valid, g, wide, le-ltb (b.size + k) w (omega arith))

        pub insert-full : (i : ℕ) → i ≤ n → w ≤ n → refused Full given ≡ changed_in h held (insert_from_back i)
        unfolding changed_in
        insert-full i l m = rw (good, valid, g, wide, le-leb i b.size (omega arith), le-ltb b.size w (omega arith))

        pub first-free-full : (i : ℕ) → i ≤ n → w ≤ n → refused Full given ≡ changed_in h held (insert_first_free i)
        unfolding changed_in
        first-free-full i l m = rw (good, valid, g, wide, le-leb i b.size (omega arith), le-ltb b.size w (omega arith))

        -- i in use, i out of range, j in use, j out of range
        pub swap-out : (i j : ℕ)
            → (i < n) ⊎ (((n ≤ i) × (w ≤ i)) ⊎ (((n ≤ i) × (i < w) × (j < n)) ⊎ ((n ≤ i) × (i < w) × (n ≤ j) × (w ≤ j))))
            → refused Position given ≡ changed_in h held (swap_free_slots i j)
        unfolding changed_in
        swap-out i j (inl l) = rw (good, valid, g, lt-leb b.size i (omega arith))
        swap-out i j (inr (inl l)) = rw (good, valid, g, wide, le-leb b.size i (omega arith), le-ltb i w l.1)
        swap-out i j (inr (inr (inl l))) =
            rw (good, valid, g, wide, le-leb b.size i (omega arith), lt-ltb i w l.1, lt-leb b.size j (omega arith))
        swap-out i j (inr (inr (inr l))) =
            rw (good, valid, g, wide, le-leb b.size i (omega arith), lt-ltb i w l.1, le-leb b.size j (omega arith), le-ltb j w l.3)

  -- ---- accepted: a number of the bank is told

  pub told-size : {n : ℕ} → n ≡ b.size → accepted (n ∷ []) ≡ asked_in h held size
  unfolding asked_in
  told-size s = rw (good, valid, s)

  pub told_back : {slot : ℕ} → slot ≡ slot_at (width b - 1) b → accepted (slot ∷ []) ≡ asked_in h held back
  unfolding asked_in
  told_back d = rw (good, valid, d)

  module _ {w slot : ℕ} (wide : width b ≡ w) where
    pub told-get : (i : ℕ) → i < w → slot ≡ slot_at i b → accepted (slot ∷ []) ≡ asked_in h held (get i)
    unfolding asked_in
    told-get i l d = rw (good, valid, wide, lt-ltb i w l, d)

    pub told-offset : {n : ℕ} (k : ℕ) → n ≡ b.size → k < w - n → slot ≡ slot_at (w - 1 - k) b
        → accepted (slot ∷ []) ≡ asked_in h held (back_at_offset k)
    unfolding asked_in
    told-offset k s l d = rw (good, valid, wide, lt-ltb (b.size + k) w (omega arith), d)

  -- ---- accepted: what holds the new bank goes back

  -- with what is told behind it
  so : (c : Change) {next : Held} {told : List ℕ} → all_hold (change_rules c b) ≡ true → next ≡ h.held_of (after c b) → told ≡ told_beside c b
      → accepted (h.values next ++ told) ≡ changed_in h held c
  unfolding changed_in
  so c e d t =
      rw (good, valid)
      (ap₂ (λ (x : Held) (l : List ℕ). accepted (h.values x ++ l)) d t
      ∙ sym (accepted-if (change_rules c b) (h.values (h.held_of (after c b)) ++ told_beside c b) (h.values held) e))

  module _ {next : Held} {given : List ℕ} where
    -- with nothing behind it
    alone : (c : Change) → told_beside c b ≡ [] → all_hold (change_rules c b) ≡ true → next ≡ h.held_of (after c b) → given ≡ h.values next
        → accepted given ≡ changed_in h held c
    alone c t e d v = ap accepted (v ∙ sym (append-nil (h.values next))) ∙ so c e d (sym t)

    module _ {w : ℕ} (wide : width b ≡ w) where
      pub resize-so : (n : ℕ) → n ≤ w → next ≡ h.held_of (resized n b) → given ≡ h.values next
          → accepted given ≡ changed_in h held (set_size n)
      unfolding all_hold
      resize-so n l d v = alone (set_size n) refl (rw (wide, le-leb n w l)) d v

      pub exchange-so : (i j : ℕ) → i < w → j < w → next ≡ h.held_of (exchanged i j b) → given ≡ h.values next
          → accepted given ≡ changed_in h held (exchange i j)
      unfolding all_hold
      exchange-so i j l m d v = alone (exchange i j) refl (rw (wide, lt-ltb i w l, lt-ltb j w m)) d v

      module _ {n : ℕ} (s : n ≡ b.size) (i : ℕ) where
        pub swap-so : (j : ℕ) → n ≤ i → i < w → n ≤ j → j < w → next ≡ h.held_of (exchanged i j b) → given ≡ h.values next
            → accepted given ≡ changed_in h held (swap_free_slots i j)
        unfolding all_hold
        swap-so j l m k o d v =
            alone (swap_free_slots i j) refl
            (rw (wide, le-leb b.size i (omega arith), lt-ltb i w m, le-leb b.size j (omega arith), lt-ltb j w o)) d v

        pub rotate-so : (j : ℕ) → i ≤ j → j ≤ w → next ≡ h.held_of (turned_bank n i j w b) → given ≡ h.values next
            → accepted given ≡ changed_in h held (rotate i j)
        unfolding all_hold
        rotate-so j l m d v = alone (rotate i j) refl (rw (wide, le-leb i j l, le-leb j w m)) (d ∙ rw (s, wide)) v

        pub withdraw-so : i < n → next ≡ h.held_of (turned_bank (n - 1) i (i + 1) w b) → given ≡ h.values next
            → accepted given ≡ changed_in h held (remove_to_back i)
        unfolding all_hold
        withdraw-so l d v = alone (remove_to_back i) refl (rw (lt-ltb i b.size (omega arith))) (d ∙ rw (s, wide)) v

        pub first-free-so : i ≤ n → n < w → next ≡ h.held_of (turned_bank (n + 1) i n (n + 1) b) → given ≡ h.values next
            → accepted given ≡ changed_in h held (insert_first_free i)
        unfolding all_hold
        first-free-so l m d v =
            alone (insert_first_free i) refl (rw (wide, le-leb i b.size (omega arith), lt-ltb b.size w (omega arith))) (d ∙ rw s) v

    module _ {n : ℕ} (s : n ≡ b.size) where
      pub remove-so : (i : ℕ) → i < n → next ≡ h.held_of (turned_bank (n - 1) i (i + 1) n b) → given ≡ h.values next
          → accepted given ≡ changed_in h held (remove i)
      unfolding all_hold
      remove-so i l d v = alone (remove i) refl (rw (lt-ltb i b.size (omega arith))) (d ∙ rw s) v

      pub slot-so : {i : ℕ} (slot : ℕ) → i ≡ place_in_use slot b → i < n → next ≡ h.held_of (turned_bank (n - 1) i (i + 1) n b)
          → given ≡ h.values next → accepted given ≡ changed_in h held (remove_slot slot)
      unfolding all_hold
      slot-so slot p l d v =
          alone (remove_slot slot) refl (rw (lt-ltb (place_in_use slot b) b.size (omega arith))) (d ∙ rw (s, p)) v

  -- a judgement alone gives back what holds the same bank
  pub value-so : {next : Held} {given : List ℕ} → next ≡ h.held_of b → given ≡ h.values next → accepted given ≡ changed_in h held from_value
  unfolding all_hold
  value-so d v = alone from_value refl refl d v

  -- an insertion from the back tells the slot there, and how many rest
  pub insert-so : {w n slot resting : ℕ} {next : Held} {given : List ℕ} (i : ℕ) → width b ≡ w → n ≡ b.size → i ≤ n → n < w
      → next ≡ h.held_of (inserted_from_back i b) → slot ≡ slot_at (width b - 1) b → resting ≡ w - (n + 1)
      → given ≡ h.values next ++ slot ∷ resting ∷ []
      → accepted given ≡ changed_in h held (insert_from_back i)
  unfolding all_hold
  insert-so {w} {n} i wide s l m d t r v =
      ap accepted v
      ∙ so (insert_from_back i) (rw (wide, le-leb i b.size (omega arith), lt-ltb b.size w (omega arith))) d
      (ap₂ (λ (x y : ℕ). x ∷ y ∷ []) t (omega (arith, r, wide, s)))

pub ruleset returns = (
  remove-position,
  withdraw-position,
  slot-unused,
  insert-position,
  insert-full,
  first-free-position,
  first-free-full,
  swap-out,
  rotate-out,
  get-position,
  offset-position,
  resize-position,
  exchange-out,
  told-size,
  told_back,
  told-get,
  told-offset,
  value-so,
  resize-so,
  exchange-so,
  swap-so,
  rotate-so,
  withdraw-so,
  first-free-so,
  remove-so,
  slot-so,
)
