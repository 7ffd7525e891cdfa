-- Two that are judged alike and hold the same bank hand out and release the same slots, whatever is called. Assumes nothing.
use mathlib.Core.Path.{◌≡◌, refl, sym, ap, ap₂, ◌∙◌, subst}
use mathlib.Core.Bool.{Bool, true, false, ◌&&◌}
use mathlib.Core.List.{List, [], ◌∷◌, ◌++◌}
use Prim.Native.Nat.{ℕ}
use native.Mathlib.Omega.{arith}
use Rattle.refusal.specs.Answer.{all_hold}
use Rattle.bank.specs.Bank.{Bank}
use Rattle.bank.specs.Calls.{Change, change_rules, after}
use Rattle.bank.specs.History.{Done, nothing, and_then, Call, as_change, Step, call, burst, taken_back, in_turn, withdrawn, ran, did}
use Rattle.bank.specs.Holder.{Holder, held_rules, held_does}
use Rattle.bank.proofs.Kept.{fits_after}
use Rattle.bank.proofs.Holder.{Fine, Encodes, as-held, rules_of, own-rules, not-all, does-so, does_not}

module _ {Held : Type 0} (h : Holder Held) (w : ℕ) (Whole : Held → Type 0) (encodes : Encodes h w Whole) where
  pub record Alike (x y : Held) : Type 0 where
    pub judged : h.valid x ≡ h.valid y
    pub bank : h.bank_of x ≡ h.bank_of y
    pub first : Whole x
    pub second : Whole y

  -- what is done to one is done to the other: the same slots, the same opposites, and what is held stays alike
  pub record DoneAlike (d e : Done Held) : Type 0 where
    pub handed : d.handed ≡ e.handed
    pub released : d.released ≡ e.released
    pub opposites : d.opposites ≡ e.opposites
    pub now : Alike d.now e.now

  same-done : (d : Done Held) → Whole d.now → DoneAlike d d
  same-done d whole =
      record {
        handed = refl;
        released = refl;
        opposites = refl;
        now = record { judged = refl; bank = refl; first = whole; second = whole };
      }

  both : {d e d' e' : Done Held} → DoneAlike d e → DoneAlike d' e' → DoneAlike (and_then d d') (and_then e e')
  both a b =
      record {
        handed = ap₂ ◌++◌ a.handed b.handed;
        released = ap₂ ◌++◌ a.released b.released;
        opposites = ap₂ ◌++◌ b.opposites a.opposites;
        now = b.now;
      }

  -- a call that is accepted leaves the same of both
  alike-so : (c : Change) (x y : Held) → Alike x y → Fine h x → Fine h y → all_hold (change_rules c (h.bank_of x)) ≡ true
      → DoneAlike (held_does h c x) (held_does h c y)
  alike-so c x y a f g e =
      subst (λ (d : Done Held). DoneAlike (held_does h c x) d)
      (does-so h w Whole encodes c x (own-rules h w Whole encodes c x f ∙ e) whole
      ∙ ap (λ (b : Bank). as-held h w Whole encodes (did c b)) a.bank
      ∙ sym (does-so h w Whole encodes c y (own-rules h w Whole encodes c y g ∙ other) whole-other))
      (same-done (held_does h c x) (subst (λ (d : Done Held). Whole d.now)
      (sym (does-so h w Whole encodes c x (own-rules h w Whole encodes c x f ∙ e) whole)) whole))
    where
      whole : Whole (h.held_of (after c (h.bank_of x)))
      whole = (encodes.packed f.good (after c (h.bank_of x)) (fits_after w (h.bank_of x) (encodes.fits x a.first f) c e)).whole

      other : all_hold (change_rules c (h.bank_of y)) ≡ true
      other = ap (λ (b : Bank). all_hold (change_rules c b)) (sym a.bank) ∙ e

      whole-other : Whole (h.held_of (after c (h.bank_of y)))
      whole-other = subst (λ (b : Bank). Whole (h.held_of (after c b))) a.bank whole

  -- one that is refused leaves both
  alike-not : (c : Change) (x y : Held) → Alike x y → all_hold (rules_of h w Whole encodes c x) ≡ false
      → all_hold (rules_of h w Whole encodes c y) ≡ false → DoneAlike (held_does h c x) (held_does h c y)
  alike-not c x y a d e =
      subst (λ (k : Done Held). DoneAlike k (held_does h c y)) (sym (does_not h w Whole encodes c x a.first d))
      (subst (DoneAlike (nothing x)) (sym (does_not h w Whole encodes c y a.second e))
      (record { handed = refl; released = refl; opposites = refl; now = a }))

  alike-does : (c : Change) (x y : Held) → Alike x y → DoneAlike (held_does h c x) (held_does h c y)
  alike-does c x y a = by h.good_width (h.valid x) (all_hold (change_rules c (h.bank_of x))) refl refl refl
    where
      refused : h.good_width && h.valid x ≡ false → DoneAlike (held_does h c x) (held_does h c y)
      refused d =
          alike-not c x y a (not-all h w Whole encodes c x d)
          (not-all h w Whole encodes c y (ap (λ (b : Bool). h.good_width && b) (sym a.judged) ∙ d))

      by : (p q r : Bool) → h.good_width ≡ p → h.valid x ≡ q → all_hold (change_rules c (h.bank_of x)) ≡ r
          → DoneAlike (held_does h c x) (held_does h c y)
      by true true r d v e =
          let f : Fine h x = record { good = d; valid = v } in
          let g : Fine h y = record { good = d; valid = sym a.judged ∙ v } in
          cases r e f g
        where
          cases : (r : Bool) → all_hold (change_rules c (h.bank_of x)) ≡ r → Fine h x → Fine h y
              → DoneAlike (held_does h c x) (held_does h c y)
          cases true e f g = alike-so c x y a f g e
          cases false e f g =
              alike-not c x y a (own-rules h w Whole encodes c x f ∙ e)
              (own-rules h w Whole encodes c y g ∙ ap (λ (b : Bank). all_hold (change_rules c b)) (sym a.bank) ∙ e)
      by true false r d v e = refused (ap₂ ◌&&◌ d v)
      by false q r d v e = refused (ap (λ (b : Bool). b && h.valid x) d)

  alike-back : (cs : List Change) (x y : Held) → Alike x y → Alike (taken_back (held_does h) cs x) (taken_back (held_does h) cs y)
  alike-back [] x y a = a
  alike-back (c ∷ cs) x y a = alike-back cs (held_does h c x).now (held_does h c y).now (alike-does c x y a).now

  alike-turn : (run : List Call) (x y : Held) → Alike x y → DoneAlike (in_turn (held_does h) run x) (in_turn (held_does h) run y)
  unfolding in_turn
  alike-turn [] x y a = record { handed = refl; released = refl; opposites = refl; now = a }
  alike-turn (c ∷ run) x y a =
      let d = alike-does (as_change c) x y a in
      both d (alike-turn run (held_does h (as_change c) x).now (held_does h (as_change c) y).now d.now)

  alike-run : (run : List Call) (x y : Held) → Alike x y → Alike (withdrawn (held_does h) run x) (withdrawn (held_does h) run y)
  alike-run run x y a =
      let d = alike-turn run x y a in
      subst (λ (cs : List Change). Alike (withdrawn (held_does h) run x) (taken_back (held_does h) cs (in_turn (held_does h) run y).now))
      d.opposites
      (alike-back (in_turn (held_does h) run x).opposites (in_turn (held_does h) run x).now (in_turn (held_does h) run y).now d.now)

  pub alike-ran : (steps : List Step) (x y : Held) → Alike x y → DoneAlike (ran (held_does h) steps x) (ran (held_does h) steps y)
  unfolding ran
  alike-ran [] x y a = record { handed = refl; released = refl; opposites = refl; now = a }
  alike-ran (call c ∷ steps) x y a =
      let d = alike-does (as_change c) x y a in
      both d (alike-ran steps (held_does h (as_change c) x).now (held_does h (as_change c) y).now d.now)
  alike-ran (burst run ∷ steps) x y a =
      alike-ran steps (withdrawn (held_does h) run x) (withdrawn (held_does h) run y) (alike-run run x y a)
