-- One law for each way in which a call on an internode returns. Assumes nothing.
use mathlib.Core.Path.{◌≡◌, sym}
use mathlib.Core.Bool.{Bool, true, false, cond}
use mathlib.Core.List.{List, [], ◌∷◌}
use Prim.Native.Nat.{ℕ, ◌≤◌, ◌<◌, compare}
use borrow.Author.Tests.{le-leb, lt-ltb, le-ltb}
use lib.ListN.{get_or}
use Rattle.refusal.specs.Answer.{Rule, accepted, refused, refused_telling, answered}
use Rattle.refusal.specs.declared.Refusal.{Refusal}
use Rattle.refusal.proofs.One.{no-refusal}
use Rattle.refusal.specs.declared.Refusal.TheVariants.{Node, Position}
use Rattle.ikey.specs.Said.{place, said_ordering}
use Rattle.std.specs.declared.cmp.Ordering.{Ordering as Ordered}
use Rattle.internode_places.specs.declared.Internode.{Internode}
use Rattle.internode.specs.Node.{good, insert_position, child_place, inserted, numbers}
use Rattle.internode.specs.Calls.{find_said, compare_said, child_said, insert_rules, Insertable, insert_said}
pub use Rattle.internode_places.proofs.Judgement.{good-n}

-- ---- a node that the judgement refuses

module _ (x : Internode) {why : Refusal} (h : (why ≡ Node) × (good x ≡ false)) where
  pub find-node : (target : ℕ) → refused why [] ≡ find_said x target
  unfolding find_said
  find-node target = rw (h.0, h.1)

  pub compare-node : (target p : ℕ) → refused why [] ≡ compare_said x target p
  unfolding compare_said
  compare-node target p = rw (h.0, h.1)

  pub child-node : (target : ℕ) → refused why [] ≡ child_said x target
  unfolding child_said
  child-node target = rw (h.0, h.1)

-- ---- a node that passed

module _ (x : Internode) (fine : good x ≡ true) where
  pub find_at : {p : ℕ} (target : ℕ) → p ≡ insert_position x target → accepted (p ∷ []) ≡ find_said x target
  unfolding find_said
  find_at target d = rw (fine, d)

  pub compare-position : (target p : ℕ) → x.n ≤ p → refused Position [] ≡ compare_said x target p
  unfolding compare_said
  compare-position target p l = rw (fine, le-ltb p x.n l)

  pub compare-is : (o : Ordered) (target p : ℕ) → p < x.n → said_ordering o ≡ accepted (place (compare target (get_or x.ikeys p 0)) ∷ [])
      → said_ordering o ≡ compare_said x target p
  unfolding compare_said
  compare-is o target p l d = rw (fine, lt-ltb p x.n l) d

  pub child-is : {i : ℕ} (target : ℕ) → i ≡ child_place x target → accepted (get_or x.children i 0 ∷ []) ≡ child_said x target
  unfolding child_said
  child-is target d = rw (fine, d)

-- ---- an insertion

-- refused, the values that it would have had do not matter
refused-whatever : (why : Refusal) (rs : List Rule) (values back : List ℕ) → refused why back ≡ answered rs back back
    → refused why back ≡ answered rs values back
refused-whatever why [] values back h = no-refusal why (sym h)
refused-whatever why (rule ∷ rs) values back h = by (refused-whatever why rs values back) rule.holds h
  where
    by : (refused why back ≡ answered rs back back → refused why back ≡ answered rs values back) → (b : Bool)
        → refused why back ≡ cond b (answered rs back back) (refused_telling rule.number rule.told back)
        → refused why back ≡ cond b (answered rs values back) (refused_telling rule.number rule.told back)
    by later true e = later e
    by later false e = e

module _ (x : Internode) (p ikey child : ℕ) where
  -- a refused call hands the node back
  pub insert-refused : (why : Refusal) → ((values : List ℕ) → refused why values ≡ answered (insert_rules x p ikey) values values)
      → refused why (numbers x) ≡ insert_said x p ikey child
  unfolding insert_said
  insert-refused why h = refused-whatever why (insert_rules x p ikey) (numbers (inserted x p ikey child)) (numbers x) (h (numbers x))

  pub insert-done : {y : Internode} → Insertable x p ikey → y ≡ inserted x p ikey child → accepted (numbers y) ≡ insert_said x p ikey child
  unfolding insert_said
  insert-done h r = rw (h.fine, le-leb p x.n h.within, lt-ltb x.n 15 h.room, h.rises, r)
