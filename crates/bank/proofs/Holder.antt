-- Whatever holds a bank goes through a history as the bank does. Assumes nothing.
use mathlib.Core.Path.{◌≡◌, refl, sym, ap, ap₂, ◌∙◌, subst}
use mathlib.Core.Bool.{Bool, true, false, cond, ◌&&◌}
use mathlib.Core.List.{List, [], ◌∷◌, ◌++◌, append-nil}
use Prim.Native.Nat.{ℕ, ◌+◌, ◌-◌, ◌<◌}
use native.Mathlib.Omega.{arith}
use lib.ListN.{length, get_or, take, drop, length-take}
use lib.Seq.{get_or-take}
use lib.Dec.{T}
use borrow.Author.Tests.{ne_eqb}
use Rattle.refusal.specs.Answer.{Answer, Rule, accepted, all_hold}
use Rattle.refusal.proofs.Laws.{accepted-if, positive, Refused, refused-if}
use Rattle.bank.specs.Bank.{Bank, width}
use Rattle.bank.specs.Calls.{
  Change,
  from_value,
  set_size,
  swap_free_slots,
  insert_from_back,
  insert_first_free,
  remove,
  remove_to_back,
  remove_slot,
  exchange,
  rotate,
  change_rules,
  after,
  handed_out,
  told_beside,
}
use Rattle.bank.specs.History.{
  Done,
  nothing,
  and_then,
  Call,
  inserting,
  removing,
  removing_slot,
  as_change,
  Step,
  call,
  burst,
  without_bursts,
  taken_back,
  in_turn,
  withdrawn,
  ran,
  released_by,
  opposites_of,
  did,
  bank_does,
  free,
}
use Rattle.bank.specs.Holder.{Holder, handed_of, held_rules, changed_in, held_does}
use Rattle.bank.proofs.Kept.{Fits, fits_after}
use Rattle.bank.proofs.History.{opposite}
use Rattle.bank.proofs.History as banks

-- ---- what a holder must meet

-- it passes the judgement: its width is good, and it is valid
pub record Fine {Held : Type 0} (h : Holder Held) (held : Held) : Type 0 where
  pub good : h.good_width ≡ true
  pub valid : h.valid held ≡ true

module _ {Held : Type 0} (h : Holder Held) (w : ℕ) (Whole : Held → Type 0) where
  -- what holds a bank is valid, and holds that bank
  pub record Packed (b : Bank) : Type 0 where
    pub whole : Whole (h.held_of b)
    pub valid : h.valid (h.held_of b) ≡ true
    pub unpacked : h.bank_of (h.held_of b) ≡ b

  -- What is held, and what is told behind it, are read off an answer again; what passes the judgement holds a valid bank of width w; and
  -- at a good width every such bank can be held.
  pub record Encodes : Type 0 where
    pub read_again : (held : Held) (more : List ℕ) → Whole held → h.read (h.values held ++ more) ≡ held
    pub rest : (held : Held) (more : List ℕ) → Whole held → drop h.places (h.values held ++ more) ≡ more
    pub fits : (held : Held) → Whole held → Fine h held → Fits w (h.bank_of held)
    pub packed : h.good_width ≡ true → (b : Bank) → Fits w b → Packed b

-- ---- the rules of a change

-- every one has a number
numbered-change : (c : Change) (b : Bank) → T (positive (change_rules c b))
unfolding positive
numbered-change from_value b = tt
numbered-change (set_size n) b = tt
numbered-change (swap_free_slots i j) b = tt
numbered-change (insert_from_back i) b = tt
numbered-change (insert_first_free i) b = tt
numbered-change (remove i) b = tt
numbered-change (remove_to_back i) b = tt
numbered-change (remove_slot s) b = tt
numbered-change (exchange i j) b = tt
numbered-change (rotate i j) b = tt

-- the opposite of a call of a history tells nothing beside the bank
none_told : (c : Call) (b next : Bank) → told_beside (opposite c b) next ≡ []
none_told (inserting i) b next = refl
none_told (removing i) b next = refl
none_told (removing_slot s) b next = refl

-- of what a change tells beside the bank, the first is what it hands out
first-handed : (c : Change) (b : Bank) → handed_of (told_beside c b) ≡ handed_out c b
first-handed from_value b = refl
first-handed (set_size n) b = refl
first-handed (swap_free_slots i j) b = refl
first-handed (insert_from_back i) b = refl
first-handed (insert_first_free i) b = refl
first-handed (remove i) b = refl
first-handed (remove_to_back i) b = refl
first-handed (remove_slot s) b = refl
first-handed (exchange i j) b = refl
first-handed (rotate i j) b = refl

-- the k-th of a list that is the beginning of another
pub of-prefix : (xs ys : List ℕ) → xs ≡ take (length xs) ys → (k : ℕ) → k < length xs → (k < length ys) × (get_or xs k 0 ≡ get_or ys k 0)
of-prefix xs ys e k h =
    (omega (arith, ap length e ∙ length-take (length xs) ys), ap (λ (l : List ℕ). get_or l k 0) e ∙ get_or-take (length xs) ys k 0 h)

module _ {Held : Type 0} (h : Holder Held) (w : ℕ) (Whole : Held → Type 0) (encodes : Encodes h w Whole) where
  -- ---- one call, by its answer

  -- what a bank did, as its holder did it
  abbrev pub as-held : Done Bank → Done Held
  as-held d = record { now = h.held_of d.now; handed = d.handed; released = d.released; opposites = d.opposites }

  module _ (c : Change) (held : Held) where
    abbrev pub rules_of : List Rule
    rules_of = held_rules h held (change_rules c (h.bank_of held))

    abbrev values_of : List ℕ
    values_of = h.values (h.held_of (after c (h.bank_of held))) ++ told_beside c (h.bank_of held)

    -- which rules are left where the judgement passes
    pub own-rules : Fine h held → all_hold rules_of ≡ all_hold (change_rules c (h.bank_of held))
    unfolding all_hold
    own-rules f = rw (f.good, f.valid)

    -- and where it does not, not all hold
    pub not-all : h.good_width && h.valid held ≡ false → all_hold rules_of ≡ false
    unfolding all_hold
    not-all e = by h.good_width (h.valid held) (all_hold (change_rules c (h.bank_of held))) e
      where
        by : (p q r : Bool) → p && q ≡ false → p && (q && r) ≡ false
        by true true r d = absurd (let z : ◌≡◌ {A = ℕ} 0 1 = cc in omega arith)
        by true false r d = refl
        by false q r d = refl

    answers-if : all_hold rules_of ≡ true → changed_in h held c ≡ accepted values_of
    unfolding changed_in
    answers-if = accepted-if rules_of values_of (h.values held)

    answers-not : all_hold rules_of ≡ false → Refused (h.values held) (changed_in h held c)
    unfolding changed_in positive
    answers-not = refused-if rules_of values_of (h.values held) (numbered-change c (h.bank_of held))

    -- from what is read off the answer
    same : {now : Held} {handed : List ℕ} (released : List ℕ) (opposites : List Change) {next : Held} {told : List ℕ} → now ≡ next
        → handed ≡ told
        → ◌≡◌ {A = Done Held} (record { now = now; handed = handed; released = released; opposites = opposites })
        (record { now = next; handed = told; released = released; opposites = opposites })
    same released opposites e d = rw (e, d)

    pub does_not : Whole held → all_hold rules_of ≡ false → held_does h c held ≡ nothing held
    unfolding held_does
    does_not whole e =
        let r = answers-not e in
        rw (r.given, ne_eqb (changed_in h held c).number 0 (λ z. omega (arith, r.numbered)))
        (same [] []
        (ap h.read (sym (append-nil (h.values held))) ∙ encodes.read_again held [] whole)
        (ap handed_of (ap (drop h.places) (sym (append-nil (h.values held))) ∙ encodes.rest held [] whole)))

    pub does-so : all_hold rules_of ≡ true → Whole (h.held_of (after c (h.bank_of held)))
        → held_does h c held ≡ as-held (did c (h.bank_of held))
    unfolding held_does
    does-so e next =
        rw (answers-if e)
        (same (released_by c (h.bank_of held)) (opposites_of c (h.bank_of held))
        (encodes.read_again (h.held_of (after c (h.bank_of held))) (told_beside c (h.bank_of held)) next)
        (ap handed_of (encodes.rest (h.held_of (after c (h.bank_of held))) (told_beside c (h.bank_of held)) next)
        ∙ first-handed c (h.bank_of held)))

  -- ---- at a good width a bank goes through a history as its holder does

  module _ (good : h.good_width ≡ true) where
    -- what holds a bank passes the judgement
    fine : (b : Bank) → Fits w b → Fine h (h.held_of b)
    fine b f = record { good = good; valid = (encodes.packed good b f).valid }

    -- a call on what holds a bank is the call on the bank
    same-does : (c : Change) (b : Bank) → Fits w b → held_does h c (h.held_of b) ≡ as-held (bank_does c b)
    unfolding bank_does
    same-does c b f = by (all_hold (change_rules c b)) refl
      where
        p : Packed h w Whole b
        p = encodes.packed good b f

        rules : all_hold (rules_of c (h.held_of b)) ≡ all_hold (change_rules c b)
        rules = own-rules c (h.held_of b) (fine b f) ∙ ap (λ (x : Bank). all_hold (change_rules c x)) p.unpacked

        by : (q : Bool) → all_hold (change_rules c b) ≡ q → held_does h c (h.held_of b) ≡ as-held (cond q (did c b) (nothing b))
        by true e =
            does-so c (h.held_of b) (rules ∙ e)
            (subst (λ (x : Bank). Whole (h.held_of (after c x))) (sym p.unpacked)
            (encodes.packed good (after c b) (fits_after w b f c e)).whole)
            ∙ ap (λ (x : Bank). as-held (did c x)) p.unpacked
        by false e = does_not c (h.held_of b) p.whole (rules ∙ e)

    same_back : (cs : List Change) (b : Bank) → Fits w b → taken_back (held_does h) cs (h.held_of b) ≡ h.held_of (taken_back bank_does cs b)
    same_back [] b f = refl
    same_back (c ∷ cs) b f =
        ap (λ (d : Done Held). taken_back (held_does h) cs d.now) (same-does c b f)
        ∙ same_back cs (bank_does c b).now (banks.fits-does c b w f)

    -- a run that is withdrawn
    same-run : (run : List Call) (b : Bank) → Fits w b → withdrawn (held_does h) run (h.held_of b) ≡ h.held_of b
    unfolding in_turn
    same-run [] b f = refl
    same-run (c ∷ run) b f =
        let g = banks.fits-does (as_change c) b w f in
        banks.withdrawn-last (held_does h) c run (h.held_of b)
        ∙ ap (λ (d : Done Held). taken_back (held_does h) d.opposites (withdrawn (held_does h) run d.now)) (same-does (as_change c) b f)
        ∙ ap (taken_back (held_does h) (bank_does (as_change c) b).opposites) (same-run run (bank_does (as_change c) b).now g)
        ∙ same_back (bank_does (as_change c) b).opposites (bank_does (as_change c) b).now g
        ∙ ap h.held_of (banks.withdrawn-one w b f c)

    same-ran : (steps : List Step) (b : Bank) → Fits w b → ran (held_does h) steps (h.held_of b) ≡ as-held (ran bank_does steps b)
    unfolding ran
    same-ran [] b f = refl
    same-ran (call c ∷ steps) b f =
        ap (λ (d : Done Held). and_then d (ran (held_does h) steps d.now)) (same-does (as_change c) b f)
        ∙ ap (and_then (as-held (bank_does (as_change c) b)))
        (same-ran steps (bank_does (as_change c) b).now (banks.fits-does (as_change c) b w f))
    same-ran (burst run ∷ steps) b f =
        ap (ran (held_does h) steps) (same-run run b f)
        ∙ same-ran steps b f
        ∙ ap (λ (x : Bank). as-held (ran bank_does steps x)) (sym (banks.withdrawn-run w run b f))

  -- ---- what does not pass the judgement: nothing is ever done

  module _ (held : Held) (whole : Whole held) (bad : h.good_width && h.valid held ≡ false) where
    nothing-done : (c : Change) → held_does h c held ≡ nothing held
    nothing-done c = does_not c held whole (not-all c held bad)

    nothing_run : (run : List Call) → withdrawn (held_does h) run held ≡ held
    unfolding in_turn
    nothing_run [] = refl
    nothing_run (c ∷ run) =
        banks.withdrawn-last (held_does h) c run held
        ∙ ap (λ (d : Done Held). taken_back (held_does h) d.opposites (withdrawn (held_does h) run d.now)) (nothing-done (as_change c))
        ∙ nothing_run run

    nothing-ran : (steps : List Step) → ran (held_does h) steps held ≡ nothing held
    unfolding ran
    nothing-ran [] = refl
    nothing-ran (call c ∷ steps) = rw (nothing-done (as_change c), nothing-ran steps)
    nothing-ran (burst run ∷ steps) = rw (nothing_run run, nothing-ran steps)

  -- ---- demand 3, whatever holds the bank and whether it passes the judgement or not, as long as what passes it packs its own bank

  module _ (held : Held) (whole : Whole held) (own : Fine h held → h.held_of (h.bank_of held) ≡ held) where
    cases : (P : Held → Type 0) → ((b : Bank) → Fits w b → h.good_width ≡ true → h.bank_of held ≡ b → P (h.held_of b))
        → (h.good_width && h.valid held ≡ false → P held) → P held
    cases P f g = by h.good_width (h.valid held) refl refl
      where
        by : (p q : Bool) → h.good_width ≡ p → h.valid held ≡ q → P held
        by true true d e =
            let fine : Fine h held = record { good = d; valid = e } in
            subst P (own fine) (f (h.bank_of held) (encodes.fits held whole fine) d refl)
        by true false d e = g (rw (d, e))
        by false q d e = g (rw d)

    pub withdrawn-run : (run : List Call) → withdrawn (held_does h) run held ≡ held
    withdrawn-run run =
        cases (λ x. withdrawn (held_does h) run x ≡ x) (λ b f g d. same-run g run b f) (λ bad. nothing_run held whole bad run)

    pub as-if-not : (steps : List Step) → ran (held_does h) steps held ≡ ran (held_does h) (without_bursts steps) held
    as-if-not steps =
        cases (λ x. ran (held_does h) steps x ≡ ran (held_does h) (without_bursts steps) x)
        (λ b f g d. same-ran g steps b f ∙ ap as-held (banks.as-if-not w steps b f) ∙ sym (same-ran g (without_bursts steps) b f))
        (λ bad. nothing-ran held whole bad steps ∙ sym (nothing-ran held whole bad (without_bursts steps)))

    -- the slots handed out are the first of those that were free, from the back forward, and then the released ones
    pub in_order : (steps : List Step)
        → (ran (held_does h) steps held).handed
        ≡ take (length (ran (held_does h) steps held).handed) (free (h.bank_of held) ++ (ran (held_does h) steps held).released)
    in_order steps =
        cases (λ x. (ran (held_does h) steps x).handed
        ≡ take (length (ran (held_does h) steps x).handed) (free (h.bank_of held) ++ (ran (held_does h) steps x).released))
        (λ b f g d. rw (same-ran g steps b f, d) (banks.handed-in-order w steps b f))
        (λ bad. rw (nothing-ran held whole bad steps))

    pub kth : (steps : List Step) (k : ℕ) → k < length (ran (held_does h) steps held).handed
        → (k < length (free (h.bank_of held) ++ (ran (held_does h) steps held).released))
        × (get_or (ran (held_does h) steps held).handed k 0 ≡ get_or (free (h.bank_of held) ++ (ran (held_does h) steps held).released) k 0)
    kth steps =
        of-prefix (ran (held_does h) steps held).handed (free (h.bank_of held) ++ (ran (held_does h) steps held).released) (in_order steps)

  -- ---- an accepted call: the judgement passes, its own rules hold, what is told first holds the bank after it, and the rest is told
  -- beside it

  module _ (held : Held) (c : Change) where
    pub record Accepted (next : Held) (told : List ℕ) : Type 0 where
      pub fine : Fine h held
      pub rules : all_hold (change_rules c (h.bank_of held)) ≡ true
      pub fits : Fits w (after c (h.bank_of held))
      pub is-next : next ≡ h.held_of (after c (h.bank_of held))
      pub is-told : told ≡ told_beside c (h.bank_of held)

    pub accepted-so : (next : Held) (told : List ℕ) → Whole held → Whole next → changed_in h held c ≡ accepted (h.values next ++ told)
        → Accepted next told
    accepted-so next told whole t e = by h.good_width (h.valid held) (all_hold (change_rules c (h.bank_of held))) refl refl refl
      where
        refused : all_hold (rules_of c held) ≡ false → ⊥
        refused d =
            let z : 0 < 0 = subst (λ (a : Answer). 0 < a.number) e (answers-not c held d).numbered in
            omega arith

        taken : Fine h held → all_hold (change_rules c (h.bank_of held)) ≡ true → Accepted next told
        taken f g =
            let fits = fits_after w (h.bank_of held) (encodes.fits held whole f) c g in
            let p = encodes.packed f.good (after c (h.bank_of held)) fits in
            let same = sym e ∙ answers-if c held (own-rules c held f ∙ g) in
            record {
              fine = f;
              rules = g;
              fits = fits;
              is-next = sym (encodes.read_again next told t)
                  ∙ ap (λ (a : Answer). h.read a.values) same
                  ∙ encodes.read_again (h.held_of (after c (h.bank_of held))) (told_beside c (h.bank_of held)) p.whole;
              is-told = sym (encodes.rest next told t)
                  ∙ ap (λ (a : Answer). drop h.places a.values) same
                  ∙ encodes.rest (h.held_of (after c (h.bank_of held))) (told_beside c (h.bank_of held)) p.whole;
            }

        by : (p q r : Bool) → h.good_width ≡ p → h.valid held ≡ q → all_hold (change_rules c (h.bank_of held)) ≡ r → Accepted next told
        by true true true d v g = taken (record { good = d; valid = v }) g
        by true true false d v g = absurd (refused (own-rules c held (record { good = d; valid = v }) ∙ g))
        by true false r d v g = absurd (refused (not-all c held (ap₂ ◌&&◌ d v)))
        by false q r d v g = absurd (refused (not-all c held (ap (λ (x : Bool). x && h.valid held) d)))

  -- how many rest after an accepted insertion from the back, and the size of the bank that it leaves, make up the width
  pub rest-told : (held : Held) → Whole held → (i : ℕ) (next : Held) (slot resting : ℕ) → Whole next
      → changed_in h held (insert_from_back i) ≡ accepted (h.values next ++ slot ∷ resting ∷ []) → (h.bank_of next).size + resting ≡ w
  rest-told held whole i next slot resting t e =
      let a = accepted-so held (insert_from_back i) next (slot ∷ resting ∷ []) whole t e in
      let p = encodes.packed a.fine.good (after (insert_from_back i) (h.bank_of held)) a.fits in
      let size : (h.bank_of next).size ≡ (h.bank_of held).size + 1 =
      ap (λ (x : Held). (h.bank_of x).size) a.is-next ∙ ap (λ (b : Bank). b.size) p.unpacked in
      let told : resting ≡ width (h.bank_of held) - ((h.bank_of held).size + 1) = ap (λ (l : List ℕ). get_or l 1 0) a.is-told in
      omega (arith, size, told, (encodes.fits held whole a.fine).wide, a.fits.sized)

  -- taken back by its opposite, which is accepted, it gives what packs the bank of before
  module _ (held : Held) (whole : Whole held) (before : Held) (own : Fine h held → h.held_of (h.bank_of held) ≡ before) where
    pub withdrawal : (c : Call) (next : Held) (told : List ℕ) → Whole next
        → changed_in h held (as_change c) ≡ accepted (h.values next ++ told)
        → changed_in h next (opposite c (h.bank_of held)) ≡ accepted (h.values before)
    withdrawal c next told t e =
        let a = accepted-so held (as_change c) next told whole t e in
        let back = banks.taken-back w b (encodes.fits held whole a.fine) c a.rules in
        let p = encodes.packed a.fine.good (after (as_change c) b) a.fits in
        let now : h.bank_of next ≡ after (as_change c) b = ap h.bank_of a.is-next ∙ p.unpacked in
        let judged : Fine h next = subst (Fine h) (sym a.is-next) (fine a.fine.good (after (as_change c) b) a.fits) in
        answers-if (opposite c b) next
        (own-rules (opposite c b) next judged ∙ ap (λ (x : Bank). all_hold (change_rules (opposite c b) x)) now ∙ back.accepts)
        ∙ ap₂ (λ (x : Held) (l : List ℕ). accepted (h.values x ++ l))
        (ap (λ (x : Bank). h.held_of (after (opposite c b) x)) now ∙ ap h.held_of back.again ∙ own a.fine)
        (none_told c b (h.bank_of next))
        ∙ ap accepted (append-nil (h.values before))
      where
        b : Bank
        b = h.bank_of held
