-- What each case of an answer about an image leaves for C: an accepted one its values, a refused one its number and what it tells. Assumes
-- nothing.
use Prim.Native.Nat.{ℕ}
use mathlib.Core.Path.{◌≡◌, refl, sym, subst, ap, ◌∙◌}
use mathlib.Core.List.{List, [], ◌∷◌}
use Rattle.refusal.specs.declared.Refusal.{Refusal}
use Rattle.refusal.specs.Refusals.{number_of}
use Rattle.refusal.specs.Answer.{Answer}
use Rattle.card_save.specs.declared.Saved.{Saved}
use Rattle.card_save.specs.declared.Saved.TheVariants as saved-is
use Rattle.card_save.specs.Answers.{said_saved}
use Rattle.card_load.specs.declared.Loaded.{Loaded}
use Rattle.card_load.specs.declared.Loaded.TheVariants as loaded-is
use Rattle.card_load.specs.Load.{said_loaded}
use Rattle.crossing.specs.Crossing.{Crossed}
use Rattle.crossing.specs.Told.{CrossedBoth}
use Rattle.crossing.proofs.Crosses.{refusal-crosses, refusal-leaves-both}
use Rattle.card_crossing.specs.Out.{CrossedOut}

-- an answer beside a buffer crosses as what was done
pub out-crosses : {a : Answer} {out : List ℕ} {done : List ℕ × Answer} {r : ℕ} {before after : List ℕ} → (out, a) ≡ done →
    Crossed a r before after → CrossedOut done r out before after
out-crosses {out = out} {r = r} {before = before} {after = after} e h =
    subst (λ (d : List ℕ × Answer). CrossedOut d r out before after) e (record { number = h.number; buffer = refl; lent = h.lent })

-- what was done leaves one outcome: what is returned, the buffer, and what stands in the lent numbers
pub one-out-outcome : {done : List ℕ × Answer} {r r' : ℕ} {out out' before after after' : List ℕ} → CrossedOut done r out before after →
    CrossedOut done r' out' before after' → (r ≡ r') × (out ≡ out') × (after ≡ after')
one-out-outcome h h' = (h.number ∙ sym h'.number, h.buffer ∙ sym h'.buffer, h.lent ∙ sym h'.lent)

module _ {answer : Saved} where
  pub saved-blocks : {n before : ℕ} → answer ≡ saved-is.Blocks n → Crossed (said_saved answer) 0 (before ∷ []) (n ∷ [])
  saved-blocks e = rw e (record { number = refl; lent = refl })

  pub saved-short : {before : ℕ} → answer ≡ saved-is.Short → Crossed (said_saved answer) 18 (before ∷ []) (before ∷ [])
  saved-short e = rw e (record { number = refl; lent = refl })

  pub saved-refused : {why : Refusal} {before r : ℕ} → answer ≡ saved-is.Refused why → r ≡ number_of why →
      Crossed (said_saved answer) r (before ∷ []) (before ∷ [])
  saved-refused {why} {before} e n = rw e (refusal-crosses why [] (before ∷ []) n)

module _ {answer : Loaded} {entries told : ℕ} where
  pub loaded-entries : {n : ℕ} → answer ≡ loaded-is.Entries n →
      CrossedBoth (said_loaded answer) 0 (entries ∷ []) (n ∷ []) (told ∷ []) (told ∷ [])
  loaded-entries e = rw e (record { number = refl; values = refl; told = refl })

  pub loaded-few : {lacking : ℕ} → answer ≡ loaded-is.TooFewNodes lacking →
      CrossedBoth (said_loaded answer) 14 (entries ∷ []) (entries ∷ []) (told ∷ []) (lacking ∷ [])
  loaded-few e = rw e (record { number = refl; values = refl; told = refl })

  pub loaded-length : answer ≡ loaded-is.Length →
      CrossedBoth (said_loaded answer) 15 (entries ∷ []) (entries ∷ []) (told ∷ []) (told ∷ [])
  loaded-length e = rw e (record { number = refl; values = refl; told = refl })

  pub loaded-check : {block : ℕ} → answer ≡ loaded-is.Check block →
      CrossedBoth (said_loaded answer) 16 (entries ∷ []) (entries ∷ []) (told ∷ []) (block ∷ [])
  loaded-check e = rw e (record { number = refl; values = refl; told = refl })

  pub loaded-stream : {place : ℕ} → answer ≡ loaded-is.Stream place →
      CrossedBoth (said_loaded answer) 17 (entries ∷ []) (entries ∷ []) (told ∷ []) (place ∷ [])
  loaded-stream e = rw e (record { number = refl; values = refl; told = refl })

  pub loaded-refused : {why : Refusal} {r : ℕ} → answer ≡ loaded-is.Refused why → r ≡ number_of why →
      CrossedBoth (said_loaded answer) r (entries ∷ []) (entries ∷ []) (told ∷ []) (told ∷ [])
  loaded-refused {why} e n = rw e (refusal-leaves-both why (entries ∷ []) (told ∷ []) n)
