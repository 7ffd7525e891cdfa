-- What follows from the judgement of a word, for the calls that begin with it. Assumes nothing.
use mathlib.Core.Path.{◌≡◌, refl, sym, ap, ◌∙◌}
use mathlib.Core.Bool.{true, ◌&&◌}
use mathlib.Core.List.{[], ◌∷◌}
use Prim.Native.Nat.{ℕ, ◌+◌, ◌*◌, ◌/◌, ◌%◌, ◌^◌, ◌≤◌, ◌<◌}
use native.Mathlib.Omega.{arith}
use lib.ListN.{length}
use lib.Dec.{T, leb, eqb, leb→le, eqb→eq}
use Rattle.std.specs.Prelude.{Result, Ok, Err, IsErrAnd}
use Rattle.std.specs.declared.ops.ControlFlow.{ControlFlow}
use Rattle.std.specs.declared.ops.ControlFlow.TheVariants.{Break}
use Rattle.std.specs.Result.{result_from_control_flow}
use Rattle.refusal.specs.declared.Refusal.{Refusal}
use Rattle.bank.specs.Lists.{each_once}
use Rattle.bank.specs.Bank.{valid}
use Rattle.bank.proofs.Tests.{and_left, and_right, holds}
use Rattle.bank.specs.Calls.{Change, Question}
use Rattle.bank.proofs.Judged.{width-good, held-valid, asked-refused, changed-refused}
use Rattle.bank.proofs.Tried.{broke_off, passed_up}
use Rattle.nibbles.specs.Nibbles.{nibbles}
use Rattle.nibbles.specs.Words.{good_width, valid_word, cleared_word, words, judged}
use Rattle.nibbles.proofs.Nibbles.{length-nibbles}
use Rattle.nibbles.proofs.Words.{below-if-none}
use Rattle.slot_answers.specs.declared.Refused.{Refused}
use Rattle.slot_answers.specs.Words.{with_word, judged_back, changed, asked}
use Rattle.slot_answers.specs.Answers.{said_changed, said_told}

-- ---- what the judgement says

-- a valid word of a good width
pub record Good (w word : ℕ) : Type 0 where
  pub least : 1 ≤ w
  pub most : w ≤ 15
  pub sized : word % 16 ≤ w
  pub clear : word < 2 ^ (4 * (w + 1))
  pub once : T (each_once (nibbles w (word / 16)))

pub good-valid : (w word : ℕ) → good_width w ≡ true → valid_word w word ≡ true → Good w word
unfolding valid_word valid
good-valid w word p q =
    let wide = holds p in
    let all = holds q in
    let bank : T (leb (word % 16) (length (nibbles w (word / 16))) && each_once (nibbles w (word / 16)))
    = and_left (leb (word % 16) (length (nibbles w (word / 16))) && each_once (nibbles w (word / 16)))
    (eqb (word / 2 ^ (4 * (w + 1))) 0) all in
    record {
      least = leb→le 1 w (and_left (leb 1 w) (leb w 15) wide);
      most = leb→le w 15 (and_right (leb 1 w) (leb w 15) wide);
      sized = rw length-nibbles at (leb→le (word % 16) (length (nibbles w (word / 16)))
          (and_left (leb (word % 16) (length (nibbles w (word / 16)))) (each_once (nibbles w (word / 16))) bank));
      clear =
          below-if-none word (4 * (w + 1))
          (eqb→eq (word / 2 ^ (4 * (w + 1))) 0
          (and_right (leb (word % 16) (length (nibbles w (word / 16))) && each_once (nibbles w (word / 16)))
          (eqb (word / 2 ^ (4 * (w + 1))) 0) all));
      once = and_right (leb (word % 16) (length (nibbles w (word / 16)))) (each_once (nibbles w (word / 16))) bank;
    }

-- with the word as given or without it, the judgement passes and refuses alike
passed-with : (word : ℕ) (j : Result (Unit {0}) Refusal) → with_word word j ≡ Ok tt → j ≡ Ok tt
passed-with word (Ok done) e = refl
passed-with word (Err why) e = absurd (let z : ◌≡◌ {A = ℕ} 0 1 = cc in omega arith)

refused-with : (word : ℕ) (j : Result (Unit {0}) Refusal) (r : Refused) → with_word word j ≡ Err r
    → (j ≡ Err r.why) × (r.word ≡ word)
refused-with word (Ok done) r e = absurd (let z : ◌≡◌ {A = ℕ} 0 1 = cc in omega arith)
refused-with word (Err why) r e =
    let z : record { why = why; word = word } ≡ r = cc in
    (ap (λ (x : Refused). Err x.why) z, ap (λ (x : Refused). x.word) (sym z))

module _ (w word : ℕ) {v : Result (Unit {0}) Refused} (e : v ≡ judged_back w word) where
  -- where it passes, the width is good, and the cleared word is such a one
  module _ (f : v ≡ Ok tt) where
    passes : judged w word ≡ Ok tt
    passes = passed-with word (judged w word) (sym e ∙ f)

    pub word_width : good_width w ≡ true
    word_width = width-good (words w) word refl passes

    pub word-valid : valid_word w (cleared_word w word) ≡ true
    word-valid = held-valid (words w) word refl passes

    pub good : Good w (cleared_word w word)
    good = good-valid w (cleared_word w word) word_width word-valid

  -- where it refuses and a `?` hands that up, so does every call
  module _ {flow : ControlFlow _ (Unit {0})} {x : _} (b : v ≡ result_from_control_flow flow)
      (i : flow ≡ Break x) (out : Result ℕ Refused) (o : IsErrAnd out (λ y. y ≡ x.0)) where
    refuses : (judged w word ≡ Err x.0.why) × (x.0.word ≡ word)
    refuses = refused-with word (judged w word) x.0 (sym e ∙ broke_off b i)

    pub word-asked : (q : Question) → said_told out ≡ asked w word q
    word-asked q = rw (passed_up out o) (asked-refused (words w) word refl refuses.0 (ap (λ (k : ℕ). k ∷ []) refuses.1) q)

    pub word-changed : (c : Change) → said_changed out ≡ changed w word c
    word-changed c = rw (passed_up out o) (changed-refused (words w) word refl refuses.0 (ap (λ (k : ℕ). k ∷ []) refuses.1) c)
