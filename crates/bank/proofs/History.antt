-- Slots go out in the order of the free list, and a withdrawn run leaves no trace, at every width. Assumes nothing.
use mathlib.Core.Path.{◌≡◌, refl, sym, ap, ap₂, ◌∙◌, subst}
use mathlib.Core.Bool.{Bool, true, false, cond}
use mathlib.Core.List.{List, [], ◌∷◌, ◌++◌, reverse, append_assoc, append-nil, reverse-cons, reverse-append, reverse-reverse}
use Prim.Native.Nat.{ℕ, suc, ◌+◌, ◌-◌, ◌≤◌, ◌<◌}
use native.Mathlib.Omega.{arith}
use lib.ListN.{length, get_or, take, drop}
use lib.Seq.{drop-cons, drop-length, drop_at, take_at}
use lib.Dec.{leb→le, ltb→lt}
use borrow.Author.Tests.{le-leb, lt-ltb}
use Rattle.refusal.specs.Answer.{all_hold}
use Rattle.bank.specs.Lists.{turned, part, up}
use Rattle.bank.specs.Bank.{Bank, width, slot_at, place_in_use, sorted, inserted_from_back, inserted_first_free, removed, removed_to_back}
use Rattle.bank.specs.Calls.{Change, from_value, insert_from_back, insert_first_free, remove, remove_slot, change_rules, after}
use Rattle.bank.specs.History.{
  Done,
  nothing,
  and_then,
  Call,
  inserting,
  removing,
  removing_slot,
  as_change,
  Step,
  call,
  burst,
  without_bursts,
  taken_back,
  in_turn,
  withdrawn,
  ran,
  opposites_of,
  did,
  bank_does,
  free,
}
use Rattle.bank.proofs.Counts.{place_found}
use Rattle.bank.proofs.Moves.{length-turned, part-one, part-rest, drop-turned, turned-back}
use Rattle.bank.proofs.Sorted.{sorted-slots, sorted-size, length_up}
use Rattle.bank.proofs.Kept.{Fits, first-test, second-test, fits_after}

-- ---- the free list before and after one move

-- an insertion takes the last
free-inserted : (i n : ℕ) (ps : List ℕ) → i ≤ n → n < length ps
    → reverse (drop n ps) ≡ get_or ps (length ps - 1) 0 ∷ reverse (drop (n + 1) (turned i (length ps - 1) (length ps) ps))
free-inserted i n ps h l =
    ap reverse (sym (part-rest n (length ps - 1) ps (omega arith)) ∙ ap (λ (r : List ℕ). part n (length ps - 1) ps ++ r) last)
    ∙ reverse-append (part n (length ps - 1) ps) (get_or ps (length ps - 1) 0 ∷ [])
    ∙ ap (λ (r : List ℕ). get_or ps (length ps - 1) 0 ∷ reverse r) (sym rest)
  where
    last : drop (length ps - 1) ps ≡ get_or ps (length ps - 1) 0 ∷ []
    last =
        drop-cons ps (length ps - 1) 0 (omega arith)
        ∙ ap (λ (r : List ℕ). get_or ps (length ps - 1) 0 ∷ r)
        (ap (λ (k : ℕ). drop k ps) (let e : suc (length ps - 1) ≡ length ps = omega arith in e) ∙ drop-length ps)

    rest : drop (n + 1) (turned i (length ps - 1) (length ps) ps) ≡ part n (length ps - 1) ps
    rest =
        ap (λ (k : ℕ). drop k (turned i (length ps - 1) (length ps) ps))
        (let e : n + 1 ≡ i + (length ps - (length ps - 1)) + (n - i) = omega arith in e)
        ∙ drop-turned i (length ps - 1) (length ps) (n - i) ps (omega arith) (omega arith) (omega arith) (omega arith)
        ∙ ap₂ (λ (k : ℕ) (r : List ℕ). part k (length ps - 1) ps ++ r) (let e : i + (n - i) ≡ n = omega arith in e) (drop-length ps)
        ∙ append-nil (part n (length ps - 1) ps)

-- a removal puts the slot behind all the others
free-removed : (i n : ℕ) (ps : List ℕ) → i < n → n ≤ length ps
    → reverse (drop n ps) ++ get_or ps i 0 ∷ [] ≡ reverse (drop (n - 1) (turned i (i + 1) n ps))
free-removed i n ps h l =
    sym
    (ap reverse
    (ap (λ (k : ℕ). drop k (turned i (i + 1) n ps)) (let e : n - 1 ≡ i + (n - (i + 1)) + 0 = omega arith in e)
    ∙ drop-turned i (i + 1) n 0 ps (omega arith) (omega arith) l (omega arith)
    ∙ ap (λ (r : List ℕ). r ++ drop n ps)
    (ap (λ (k : ℕ). part k (i + 1) ps) (let e : i + 0 ≡ i = omega arith in e) ∙ part-one i ps (omega arith)))
    ∙ reverse-cons (get_or ps i 0) (drop n ps))

-- ---- one call

-- a call is accepted, where each of its conditions holds, or does nothing
module _ (c : Change) (b : Bank) where
  by_cases : (P : Done Bank → Type 0) → (all_hold (change_rules c b) ≡ true → P (did c b)) → P (nothing b) → P (bank_does c b)
  unfolding bank_does
  by_cases P f g = pick (all_hold (change_rules c b)) refl
    where
      pick : (p : Bool) → all_hold (change_rules c b) ≡ p → P (cond p (did c b) (nothing b))
      pick true e = f e
      pick false e = g

  does-if : all_hold (change_rules c b) ≡ true → bank_does c b ≡ did c b
  unfolding bank_does
  does-if e = rw e

  pub fits-does : (w : ℕ) → Fits w b → Fits w (bank_does c b).now
  fits-does w f = by_cases (λ d. Fits w d.now) (fits_after w b f c) f

-- The free list before calls, with what they release behind, is what they hand out and then the free list after them.
abbrev Queued : Bank → Done Bank → Type 0
Queued b d = free b ++ d.released ≡ d.handed ++ free d.now

module _ (w : ℕ) (b : Bank) (f : Fits w b) where
  -- both removals: at a position, and where a slot is in use
  queued-removed : (i : ℕ) → i < b.size → free b ++ slot_at i b ∷ [] ≡ free (removed i b)
  queued-removed i l = free-removed i b.size b.slots l (omega (arith, f.wide, f.sized))

  -- the place of a slot that is in use holds it
  in_use : (s : ℕ) → place_in_use s b < b.size → s ≡ slot_at (place_in_use s b) b
  in_use s l =
      let n : length (take b.size b.slots)
      ≡ b.size = lib.Seq.length-take-le b.size b.slots (omega (arith, f.wide, f.sized)) in
      sym (place_found s (take b.size b.slots) (omega arith)) ∙ lib.Seq.get_or-take b.size b.slots (place_in_use s b) 0 l

  queued-did : (c : Call) → all_hold (change_rules (as_change c) b) ≡ true → Queued b (did (as_change c) b)
  queued-did (inserting i) e =
      let rules = change_rules (insert_from_back i) b in
      append-nil (free b)
      ∙ free-inserted i b.size b.slots (leb→le i b.size (first-test rules e)) (ltb→lt b.size (width b) (second-test rules e))
  queued-did (removing i) e = queued-removed i (ltb→lt i b.size (first-test (change_rules (remove i) b) e))
  queued-did (removing_slot s) e =
      let l = ltb→lt (place_in_use s b) b.size (first-test (change_rules (remove_slot s) b) e) in
      ap (λ (x : ℕ). free b ++ x ∷ []) (in_use s l) ∙ queued-removed (place_in_use s b) l

  queued : (c : Call) → Queued b (bank_does (as_change c) b)
  queued c = by_cases (as_change c) b (Queued b) (queued-did c) (append-nil (free b))

-- ---- a call withdrawn, and a run of them

-- the opposite of a call of a history; each has one
abbrev pub opposite : Call → Bank → Change
opposite c b = get_or (opposites_of (as_change c) b) 0 from_value

one-opposite : (c : Call) (b : Bank) → opposites_of (as_change c) b ≡ opposite c b ∷ []
one-opposite (inserting i) b = refl
one-opposite (removing i) b = refl
one-opposite (removing_slot s) b = refl

-- an accepted call is taken back by its opposite: that is accepted, and gives the bank of before
pub record TakenBack (c : Call) (b : Bank) : Type 0 where
  pub accepts : all_hold (change_rules (opposite c b) (after (as_change c) b)) ≡ true
  pub again : after (opposite c b) (after (as_change c) b) ≡ b

module _ (w : ℕ) (b : Bank) (f : Fits w b) where
  abbrev bank : ℕ → List ℕ → Bank
  bank n ps = record { size = n; slots = ps }

  inserted-back : (i : ℕ) → i ≤ b.size → b.size < width b → removed_to_back i (inserted_from_back i b) ≡ b
  inserted-back i h l =
      ap₂ bank (let e : b.size + 1 - 1 ≡ b.size = omega arith in e)
      (ap₂ (λ (j k : ℕ). turned i j k (turned i (width b - 1) (width b) b.slots))
      (let e : i + 1 ≡ i + (width b - (width b - 1)) = omega arith in e)
      (length-turned i (width b - 1) (width b) b.slots (omega arith) (omega arith))
      ∙ turned-back i (width b - 1) (width b) b.slots (omega arith) (omega arith) (omega arith))

  removed-back : (i : ℕ) → i < b.size → inserted_first_free i (removed i b) ≡ b
  removed-back i h =
      ap₂ bank (let e : b.size - 1 + 1 ≡ b.size = omega arith in e)
      (ap₂ (λ (j k : ℕ). turned i j k (turned i (i + 1) b.size b.slots))
      (let e : b.size - 1 ≡ i + (b.size - (i + 1)) = omega arith in e)
      (let e : b.size - 1 + 1 ≡ b.size = omega arith in e)
      ∙ turned-back i (i + 1) b.size b.slots (omega arith) (omega arith) (omega (arith, f.wide, f.sized)))

  removed-accepts : (i : ℕ) → i < b.size → all_hold (change_rules (insert_first_free i) (removed i b)) ≡ true
  unfolding all_hold
  removed-accepts i l =
      rw (
        length-turned i (i + 1) b.size b.slots (omega arith) (omega arith),
        le-leb i (b.size - 1) (omega arith),
        lt-ltb (b.size - 1) (width b) (omega (arith, f.wide, f.sized)),
      )

  pub taken-back : (c : Call) → all_hold (change_rules (as_change c) b) ≡ true → TakenBack c b
  unfolding all_hold
  taken-back (inserting i) e =
      let l = leb→le i b.size (first-test (change_rules (insert_from_back i) b) e) in
      record {
        accepts = rw (lt-ltb i (b.size + 1) (omega (arith, l)));
        again = inserted-back i l (ltb→lt b.size (width b) (second-test (change_rules (insert_from_back i) b) e));
      }
  taken-back (removing i) e =
      let l = ltb→lt i b.size (first-test (change_rules (remove i) b) e) in
      record { accepts = removed-accepts i l; again = removed-back i l }
  taken-back (removing_slot s) e =
      let l = ltb→lt (place_in_use s b) b.size (first-test (change_rules (remove_slot s) b) e) in
      record { accepts = removed-accepts (place_in_use s b) l; again = removed-back (place_in_use s b) l }

  -- a call, accepted or refused, and its withdrawal
  pub withdrawn-one : (c : Call) → taken_back bank_does (bank_does (as_change c) b).opposites (bank_does (as_change c) b).now ≡ b
  withdrawn-one c =
      by_cases (as_change c) b (λ d. taken_back bank_does d.opposites d.now ≡ b)
      (λ e.
      let t = taken-back c e in
      ap (λ (l : List Change). taken_back bank_does l (after (as_change c) b)) (one-opposite c b)
      ∙ ap (λ (d : Done Bank). d.now) (does-if (opposite c b) (after (as_change c) b) t.accepts)
      ∙ t.again)
      refl

-- whatever holds the bank: the first call of a run is withdrawn last
module _ {Held : Type 0} (does : Change → Held → Done Held) where
  taken-back-more : (first more : List Change) (held : Held)
      → taken_back does (first ++ more) held ≡ taken_back does more (taken_back does first held)
  taken-back-more [] more held = refl
  taken-back-more (c ∷ first) more held = taken-back-more first more (does c held).now

  pub withdrawn-last : (c : Call) (run : List Call) (held : Held) → withdrawn does (c ∷ run) held
      ≡ taken_back does (does (as_change c) held).opposites (withdrawn does run (does (as_change c) held).now)
  unfolding in_turn
  withdrawn-last c run held =
      let d = does (as_change c) held in
      let e = in_turn does run d.now in
      taken-back-more e.opposites d.opposites e.now

pub withdrawn-run : (w : ℕ) (run : List Call) (b : Bank) → Fits w b → withdrawn bank_does run b ≡ b
unfolding in_turn
withdrawn-run w [] b f = refl
withdrawn-run w (c ∷ run) b f =
    withdrawn-last bank_does c run b
    ∙ ap (taken_back bank_does (bank_does (as_change c) b).opposites)
    (withdrawn-run w run (bank_does (as_change c) b).now (fits-does (as_change c) b w f))
    ∙ withdrawn-one w b f c

-- ---- a history

ran-queued : (w : ℕ) (steps : List Step) (b : Bank) → Fits w b → Queued b (ran bank_does steps b)
unfolding ran
ran-queued w [] b f = append-nil (free b)
ran-queued w (call c ∷ steps) b f =
    joined (bank_does (as_change c) b) (ran bank_does steps (bank_does (as_change c) b).now) (queued w b f c)
    (ran-queued w steps (bank_does (as_change c) b).now (fits-does (as_change c) b w f))
  where
    joined : (d e : Done Bank) → Queued b d → Queued d.now e → Queued b (and_then d e)
    joined d e q r =
        sym (append_assoc (free b) d.released e.released)
        ∙ ap (λ (l : List ℕ). l ++ e.released) q
        ∙ append_assoc d.handed (free d.now) e.released
        ∙ ap (λ (l : List ℕ). d.handed ++ l) r
        ∙ sym (append_assoc d.handed e.handed (free e.now))
ran-queued w (burst run ∷ steps) b f =
    subst (λ (x : Bank). Queued b (ran bank_does steps x)) (sym (withdrawn-run w run b f)) (ran-queued w steps b f)

-- the slots handed out are the first of those that were free, from the back forward, and then the released ones
pub handed-in-order : (w : ℕ) (steps : List Step) (b : Bank) → Fits w b
    → (ran bank_does steps b).handed ≡ take (length (ran bank_does steps b).handed) (free b ++ (ran bank_does steps b).released)
handed-in-order w steps b f =
    let r = ran bank_does steps b in
    sym (ap (take (length r.handed)) (ran-queued w steps b f) ∙ take_at r.handed (free r.now) (length r.handed) refl)

pub as-if-not : (w : ℕ) (steps : List Step) (b : Bank) → Fits w b → ran bank_does steps b ≡ ran bank_does (without_bursts steps) b
unfolding ran without_bursts
as-if-not w [] b f = refl
as-if-not w (call c ∷ steps) b f = rw (as-if-not w steps (bank_does (as_change c) b).now (fits-does (as_change c) b w f))
as-if-not w (burst run ∷ steps) b f = rw (withdrawn-run w run b f) (as-if-not w steps b f)

-- slot n is at the back of the sorted bank, and the others before it
pub free-sorted : (w n : ℕ) → n ≤ w → free (sorted w n) ≡ up n (w - n)
free-sorted w n h =
    ap reverse (ap₂ drop (sorted-size w n h) (sorted-slots w n h) ∙ drop_at (up 0 n) (reverse (up n (w - n))) n (length_up 0 n))
    ∙ reverse-reverse (up n (w - n))
