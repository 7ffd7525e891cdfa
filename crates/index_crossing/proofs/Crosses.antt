-- What each case of an answer of the index leaves for C: an accepted one its values, a refused one its number and what it
-- tells. Assumes nothing.
use Prim.Native.Nat.{ℕ}
use mathlib.Core.Path.{◌≡◌, refl, sym, subst, ap, ◌∙◌}
use mathlib.Core.List.{List, [], ◌∷◌}
use Rattle.std.specs.Prelude.{Result, Ok, Err}
use Rattle.refusal.specs.declared.Refusal.{Refusal}
use Rattle.refusal.specs.Refusals.{number_of}
use Rattle.refusal.specs.Answer.{Answer}
use Rattle.arena.specs.declared.Fit.{Fit}
use Rattle.arena.specs.Memory.{Memory, Did, did, said_cleared, said_measured}
use Rattle.audit.specs.Audit.{said_audited}
use Rattle.index_put.specs.declared.PutRefused.{PutRefused}
use Rattle.index_put.specs.declared.PutRefused.TheVariants as put_no
use Rattle.index_questions.specs.declared.Listed.{Listed}
use Rattle.index.specs.Answers.{said_added, said_removed, said_found, said_listed}
use Rattle.index_count.specs.Answers.{said_counted}
use Rattle.crossing.specs.Crossing.{Crossed}
use Rattle.crossing.specs.Told.{CrossedBoth}
use Rattle.crossing.proofs.Crosses.{refusal-crosses, refusal-leaves-both}
use Rattle.index_crossing.specs.Lent.{CrossedLent}
use Rattle.index_crossing.specs.Both.{CrossedLentBoth}

-- an answer with memory behind it crosses as what was done
pub done-crosses : {a : Answer} {m : Memory} {d : Did} {r : ℕ} → did a m ≡ d → Crossed a r [] [] → CrossedLent d r m
done-crosses {a} {m} {r = r} e h =
    subst (λ (x : Did). CrossedLent x r m) e (record { number = h.number; lent = refl })

-- what was done leaves one outcome: what is returned, and the lent memory
pub one-lent-outcome : {d : Did} {r r' : ℕ} {m m' : Memory} → CrossedLent d r m → CrossedLent d r' m' → (r ≡ r') × (m ≡ m')
one-lent-outcome h h' = (h.number ∙ sym h'.number, h.lent ∙ sym h'.lent)

module _ {answer : Result (Unit {0}) Refusal} where
  pub cleared-done : {u : Unit {0}} → answer ≡ Ok u → Crossed (said_cleared answer) 0 [] []
  cleared-done e = rw e (record { number = refl; lent = refl })

  pub cleared-refused : {why : Refusal} {r : ℕ} → answer ≡ Err why → r ≡ number_of why →
      Crossed (said_cleared answer) r [] []
  cleared-refused {why} e n = rw e (refusal-crosses why [] [] n)

-- an answer that tells on both sides, with memory behind it, crosses as what was done
pub both-crosses : {a : Answer} {m : Memory} {d : Did} {r : ℕ} {before after before-told after-told : List ℕ} → did a m ≡ d →
    CrossedBoth a r before after before-told after-told → CrossedLentBoth d r m before after before-told after-told
both-crosses {m = m} {r = r} {before = before} {after = after} {before-told = old} {after-told = new} e h =
    subst (λ (x : Did). CrossedLentBoth x r m before after old new) e
    (record { number = h.number; lent = refl; values = h.values; told = h.told })

-- what was done leaves one outcome: what is returned, the lent memory, and what stands in both kinds of lent numbers
pub one-both-outcome : {d : Did} {r r' : ℕ} {m m' : Memory} {before after after' before-told after-told after-told' : List ℕ} →
    CrossedLentBoth d r m before after before-told after-told → CrossedLentBoth d r' m' before after' before-told after-told' →
    (r ≡ r') × (m ≡ m') × (after ≡ after') × (after-told ≡ after-told')
one-both-outcome h h' =
    (h.number ∙ sym h'.number, h.lent ∙ sym h'.lent, h.values ∙ sym h'.values, h.told ∙ sym h'.told)

module _ {answer : Result ℕ PutRefused} {resting lacking : ℕ} where
  pub added-done : {n : ℕ} → answer ≡ Ok n →
      CrossedBoth (said_added answer) 0 (resting ∷ []) (n ∷ []) (lacking ∷ []) (lacking ∷ [])
  added-done e = rw e (record { number = refl; values = refl; told = refl })

  pub added-few : {why : PutRefused} {n : ℕ} → answer ≡ Err why → why ≡ put_no.TooFewNodes n →
      CrossedBoth (said_added answer) 14 (resting ∷ []) (resting ∷ []) (lacking ∷ []) (n ∷ [])
  added-few e n = rw (e, n) (record { number = refl; values = refl; told = refl })

  pub added-refused : {no : PutRefused} {why : Refusal} {r : ℕ} → answer ≡ Err no → no ≡ put_no.Refused why → r ≡ number_of why →
      CrossedBoth (said_added answer) r (resting ∷ []) (resting ∷ []) (lacking ∷ []) (lacking ∷ [])
  added-refused {why = why} e w n = rw (e, w) (refusal-leaves-both why (resting ∷ []) (lacking ∷ []) n)

module _ {answer : Result (Unit {0}) Refusal} where
  pub removed-done : {u : Unit {0}} → answer ≡ Ok u → Crossed (said_removed answer) 0 [] []
  removed-done e = rw e (record { number = refl; lent = refl })

  pub removed-refused : {why : Refusal} {r : ℕ} → answer ≡ Err why → r ≡ number_of why →
      Crossed (said_removed answer) r [] []
  removed-refused {why} e n = rw e (refusal-crosses why [] [] n)

module _ {answer : Result (Unit {0}) Refusal} where
  pub audited-tree : {u : Unit {0}} → answer ≡ Ok u → Crossed (said_audited answer) 0 [] []
  audited-tree e = rw e (record { number = refl; lent = refl })

  pub audited-refused : {why : Refusal} {r : ℕ} → answer ≡ Err why → r ≡ number_of why →
      Crossed (said_audited answer) r [] []
  audited-refused {why} e n = rw e (refusal-crosses why [] [] n)

module _ {answer : Result Fit Refusal} where
  pub measured-fit : {fit : Fit} {before also : ℕ} → answer ≡ Ok fit →
      Crossed (said_measured answer) 0 (before ∷ also ∷ []) (fit.nodes ∷ fit.cells ∷ [])
  measured-fit e = rw e (record { number = refl; lent = refl })

  pub measured-refused : {why : Refusal} {before also r : ℕ} → answer ≡ Err why → r ≡ number_of why →
      Crossed (said_measured answer) r (before ∷ also ∷ []) (before ∷ also ∷ [])
  measured-refused {why} {before} {also} e n = rw e (refusal-crosses why [] (before ∷ also ∷ []) n)

module _ {answer : Result ℕ Refusal} where
  pub found-frame : {frame before : ℕ} → answer ≡ Ok frame → Crossed (said_found answer) 0 (before ∷ []) (frame ∷ [])
  found-frame e = rw e (record { number = refl; lent = refl })

  pub found-refused : {why : Refusal} {before r : ℕ} → answer ≡ Err why → r ≡ number_of why →
      Crossed (said_found answer) r (before ∷ []) (before ∷ [])
  found-refused {why} {before} e n = rw e (refusal-crosses why [] (before ∷ []) n)

module _ {answer : Result ℕ Refusal} where
  pub counted-entries : {count before : ℕ} → answer ≡ Ok count → Crossed (said_counted answer) 0 (before ∷ []) (count ∷ [])
  counted-entries e = rw e (record { number = refl; lent = refl })

  pub counted-refused : {why : Refusal} {before r : ℕ} → answer ≡ Err why → r ≡ number_of why →
      Crossed (said_counted answer) r (before ∷ []) (before ∷ [])
  counted-refused {why} {before} e n = rw e (refusal-crosses why [] (before ∷ []) n)

module _ {answer : Result Listed Refusal} where
  pub listed-entry : {entry : Listed} {a b c : ℕ} → answer ≡ Ok entry →
      Crossed (said_listed answer) 0 (a ∷ b ∷ c ∷ []) (entry.cell ∷ entry.length ∷ entry.frame ∷ [])
  listed-entry e = rw e (record { number = refl; lent = refl })

  pub listed-refused : {why : Refusal} {a b c r : ℕ} → answer ≡ Err why → r ≡ number_of why →
      Crossed (said_listed answer) r (a ∷ b ∷ c ∷ []) (a ∷ b ∷ c ∷ [])
  listed-refused {why} {a} {b} {c} e n = rw e (refusal-crosses why [] (a ∷ b ∷ c ∷ []) n)
