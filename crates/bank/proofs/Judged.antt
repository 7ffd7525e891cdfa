-- What follows from the judgement, for the calls that begin with it, whatever holds the bank. Assumes nothing.
use mathlib.Core.Path.{◌≡◌, refl, sym, ap, ◌∙◌}
use mathlib.Core.Bool.{Bool, true, false, cond}
use mathlib.Core.List.{List, [], ◌∷◌, ◌++◌}
use Prim.Native.Nat.{ℕ}
use native.Mathlib.Omega.{arith}
use Rattle.std.specs.Prelude.{Result, Ok, Err}
use Rattle.refusal.specs.Answer.{Rule, answered, refused}
use Rattle.refusal.specs.declared.Refusal.{Refusal}
use Rattle.refusal.specs.declared.Refusal.TheVariants.{Width, Word}
use Rattle.bank.specs.Calls.{Change, Question, change_rules, after, told_beside, question_rules, told}
use Rattle.bank.specs.Holder.{Holder, held_rules, changed_in, asked_in}
use Rattle.bank.specs.Judged.{or_else, judged_in}

-- the two tests, where it passes
passed : (p q : Bool) → or_else p Width (or_else q Word (Ok tt)) ≡ Ok tt → (p ≡ true) × (q ≡ true)
passed true true e = (refl, refl)
passed true false e = absurd (let z : ◌≡◌ {A = ℕ} 0 1 = cc in omega arith)
passed false q e = absurd (let z : ◌≡◌ {A = ℕ} 0 1 = cc in omega arith)

-- one law for each way in which the judgement returns
module _ {Held : Type 0} (h : Holder Held) (held : Held) where
  pub judged-width : h.good_width ≡ false → Err Width ≡ judged_in h held
  unfolding judged_in
  judged-width e = rw e

  pub judged-wrong : h.good_width ≡ true → h.valid held ≡ false → Err Word ≡ judged_in h held
  unfolding judged_in
  judged-wrong e d = rw (e, d)

  pub judged-right : h.good_width ≡ true → h.valid held ≡ true → Ok tt ≡ judged_in h held
  unfolding judged_in
  judged-right e d = rw (e, d)

module _ {Held : Type 0} (h : Holder Held) (held : Held) {v : Result (Unit {0}) Refusal} (e : v ≡ judged_in h held) where
  fine-tests : v ≡ Ok tt → (h.good_width ≡ true) × (h.valid held ≡ true)
  unfolding judged_in
  fine-tests f = passed h.good_width (h.valid held) (sym e ∙ f)

  pub width-good : v ≡ Ok tt → h.good_width ≡ true
  width-good f = (fine-tests f).0

  pub held-valid : v ≡ Ok tt → h.valid held ≡ true
  held-valid f = (fine-tests f).1

  -- the judgement passes: what is left are the call's own conditions
  pub go_on : v ≡ Ok tt → (rules : List Rule) (values back : List ℕ)
      → answered (held_rules h held rules) values back ≡ answered rules values back
  go_on f rules values back = rw ((fine-tests f).0, (fine-tests f).1)

  module _ {why : Refusal} (f : v ≡ Err why) where
    -- the judgement refuses: so does every call
    pub refused-held : (rules : List Rule) (values back : List ℕ) → refused why back ≡ answered (held_rules h held rules) values back
    unfolding judged_in
    refused-held rules values back = by h.good_width (h.valid held) (sym e ∙ f)
      where
        by : (p q : Bool) → or_else p Width (or_else q Word (Ok tt)) ≡ Err why
            → refused why back
            ≡ cond p
            (cond q (answered rules values back) (record { number = 2; values = back }))
            (record { number = 1; values = back })
        by true true d = absurd (let z : ◌≡◌ {A = ℕ} 0 1 = cc in omega arith)
        by true false d = ap (λ (r : Refusal). refused r back) (let z : why ≡ Word = cc in z)
        by false q d = ap (λ (r : Refusal). refused r back) (let z : why ≡ Width = cc in z)

    -- with what was given
    module _ {given : List ℕ} (g : given ≡ h.values held) where
      pub asked-refused : (q : Question) → refused why given ≡ asked_in h held q
      unfolding asked_in
      asked-refused q =
          ap (refused why) g
          ∙ refused-held (question_rules q (h.bank_of held)) (told q (h.bank_of held) ∷ []) (h.values held)

      pub changed-refused : (c : Change) → refused why given ≡ changed_in h held c
      unfolding changed_in
      changed-refused c =
          ap (refused why) g
          ∙ refused-held (change_rules c (h.bank_of held))
          (h.values (h.held_of (after c (h.bank_of held))) ++ told_beside c (h.bank_of held)) (h.values held)

-- refused by the judgement; that the two tests hold where it passes is told of each holder by itself
pub ruleset judgement = (asked-refused, changed-refused)

pub ruleset judging = (judged-width, judged-wrong, judged-right)
