-- What each case of an answer of an internode leaves for C: an accepted one its values, a refused one its number alone. Assumes
-- nothing.
use Prim.Native.Nat.{ℕ}
use mathlib.Core.Path.{◌≡◌, refl, ap, subst, sym, ◌∙◌}
use mathlib.Core.List.{List, [], ◌∷◌}
use Rattle.refusal.specs.declared.Refusal.{Refusal}
use Rattle.refusal.specs.Refusals.{number_of}
use Rattle.refusal.specs.Answer.{Answer}
use Rattle.std.specs.declared.cmp.Ordering.{Ordering}
use Rattle.ikey.specs.Said.{place, order_of}
use Rattle.internode_places.specs.declared.Internode.{Internode}
use Rattle.std.specs.Prelude.{Result, Ok, Err}
use Rattle.internode.specs.Answers.{said_place, said_child, said_compared}
use Rattle.internode.specs.Calls.{find_said, compare_said, child_said, insert_said}
use Rattle.crossing.specs.Crossing.{Crossed}
use Rattle.crossing.proofs.Crosses.{refusal-crosses}
use Rattle.nodes_crossing.specs.Node.{CrossedNode}

-- what is said of the node that was taken crosses as said of the lent one
module _ {x y : Internode} {a : Answer} {r : ℕ} {after : List ℕ} (e : x ≡ y) where
  pub find-crosses : (target : ℕ) {before : List ℕ} → a ≡ find_said x target → Crossed a r before after →
      Crossed (find_said y target) r before after
  find-crosses target {before} ea h =
      subst (λ (z : Answer). Crossed z r before after) (ea ∙ ap (λ (z : Internode). find_said z target) e) h

  pub compare-crosses : (target p : ℕ) {before : List ℕ} → a ≡ compare_said x target p → Crossed a r before after →
      Crossed (compare_said y target p) r before after
  compare-crosses target p {before} ea h =
      subst (λ (z : Answer). Crossed z r before after) (ea ∙ ap (λ (z : Internode). compare_said z target p) e) h

  pub child-crosses : (target : ℕ) {before : List ℕ} → a ≡ child_said x target → Crossed a r before after →
      Crossed (child_said y target) r before after
  child-crosses target {before} ea h =
      subst (λ (z : Answer). Crossed z r before after) (ea ∙ ap (λ (z : Internode). child_said z target) e) h

  pub insert-crosses : (p ikey child : ℕ) → a ≡ insert_said x p ikey child → CrossedNode a r after →
      CrossedNode (insert_said y p ikey child) r after
  insert-crosses p ikey child ea h =
      subst (λ (z : Answer). CrossedNode z r after) (ea ∙ ap (λ (z : Internode). insert_said z p ikey child) e) h

-- an answer leaves one outcome: what is returned, and what stands in the lent node
pub one-node-outcome : {a : Answer} {r r' : ℕ} {after after' : List ℕ} → CrossedNode a r after → CrossedNode a r' after' →
    (r ≡ r') × (after ≡ after')
one-node-outcome h h' = (h.number ∙ sym h'.number, h.lent ∙ sym h'.lent)

module _ {answer : Result ℕ Refusal} where
  pub place_at : {p before : ℕ} → answer ≡ Ok p → Crossed (said_place answer) 0 (before ∷ []) (p ∷ [])
  place_at e = rw e (record { number = refl; lent = refl })

  pub place-refused : {why : Refusal} {before r : ℕ} → answer ≡ Err why → r ≡ number_of why →
      Crossed (said_place answer) r (before ∷ []) (before ∷ [])
  place-refused {why} {before} e n = rw e (refusal-crosses why [] (before ∷ []) n)

module _ {answer : Result ℕ Refusal} where
  pub child-number : {number before : ℕ} → answer ≡ Ok number → Crossed (said_child answer) 0 (before ∷ []) (number ∷ [])
  child-number e = rw e (record { number = refl; lent = refl })

  pub child-refused : {why : Refusal} {before r : ℕ} → answer ≡ Err why → r ≡ number_of why →
      Crossed (said_child answer) r (before ∷ []) (before ∷ [])
  child-refused {why} {before} e n = rw e (refusal-crosses why [] (before ∷ []) n)

module _ {answer : Result Ordering Refusal} where
  pub order-told : {o : Ordering} {new before : ℕ} → answer ≡ Ok o → new ≡ place (order_of o) →
      Crossed (said_compared answer) 0 (before ∷ []) (new ∷ [])
  order-told e n = rw e (record { number = refl; lent = ap (λ (x : ℕ). x ∷ []) n })

  pub order-refused : {why : Refusal} {before r : ℕ} → answer ≡ Err why → r ≡ number_of why →
      Crossed (said_compared answer) r (before ∷ []) (before ∷ [])
  order-refused {why} {before} e n = rw e (refusal-crosses why [] (before ∷ []) n)
