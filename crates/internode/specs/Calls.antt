-- What each call on an internode answers: the rules of document 01's table, the values, and what a refused call hands back.
use Prim.Native.Nat.{ℕ, compare}
use Rattle.std.specs.Prelude.{◌≡◌, ◌≤◌, ◌<◌, true, List, [], ◌∷◌, ltb, leb, get_or}
use Rattle.refusal.specs.Answer.{Answer, Rule, ◌unless◌, answered}
use Rattle.ikey.specs.Said.{place}
use Rattle.internode_places.specs.declared.Internode.{Internode}
use Rattle.internode.specs.Lists.{rising, inserted_at}
use Rattle.internode.specs.Node.{keys_of, good, insert_position, child_for, inserted, numbers}

-- the first ikey not below the target, or n
unfoldable pub find_said : Internode → ℕ → Answer
find_said x target = answered ((3 unless good x) ∷ []) (insert_position x target ∷ []) []

-- how an ikey stands to the one at p
unfoldable pub compare_said : Internode → ℕ → ℕ → Answer
compare_said x ikey p =
    answered ((3 unless good x) ∷ (4 unless ltb p x.n) ∷ []) (place (compare ikey (get_or x.ikeys p 0)) ∷ []) []

-- the child after the last ikey not above the target
unfoldable pub child_said : Internode → ℕ → Answer
child_said x target = answered ((3 unless good x) ∷ []) (child_for x target ∷ []) []

-- what an insertion needs
abbrev pub insert_rules : Internode → ℕ → ℕ → List Rule
insert_rules x p ikey =
    (3 unless good x) ∷
    (4 unless leb p x.n) ∷
    (5 unless ltb x.n 15) ∷
    (9 unless rising (inserted_at p ikey (keys_of x))) ∷
    []

-- what those rules say where all hold
pub record Insertable (x : Internode) (p ikey : ℕ) : Type 0 where
  pub fine : good x ≡ true
  pub within : p ≤ x.n
  pub room : x.n < 15
  pub rises : rising (inserted_at p ikey (keys_of x)) ≡ true

-- the node with key p and child p+1 written; refused, the node as given
unfoldable pub insert_said : Internode → ℕ → ℕ → ℕ → Answer
insert_said x p ikey child = answered (insert_rules x p ikey) (numbers (inserted x p ikey child)) (numbers x)
