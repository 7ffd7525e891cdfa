-- An internode in numbers that a caller lends, and how a call that hands one back crosses to C: its number is returned, and the lent
-- node is what the answer holds, refused or not.
use Rattle.std.specs.Prelude.{ℕ, ◌≡◌, List}
use Rattle.refusal.specs.Answer.{Answer}
use Rattle.internode_places.specs.declared.Internode.{Internode}

-- the internode of these numbers
abbrev pub lent_node : ℕ → List ℕ → List ℕ → Internode
lent_node n ikeys children = record { n = n; ikeys = ikeys; children = children }

-- the call returned the answer's number, and left these numbers in the lent node
pub record CrossedNode (a : Answer) (returned : ℕ) (after : List ℕ) : Type 0 where
  pub number : returned ≡ a.number
  pub lent : after ≡ a.values
