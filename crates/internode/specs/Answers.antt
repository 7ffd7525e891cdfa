-- What each answer says, by document 01's numbers.
use Rattle.std.specs.Prelude.{ℕ, [], ◌∷◌, Result, Ok, Err}
use Rattle.refusal.specs.declared.Refusal.{Refusal}
use Rattle.refusal.specs.Answer.{Answer, accepted, refused}
use Rattle.ikey.specs.Said.{place, order_of}
use Rattle.std.specs.declared.cmp.Ordering.{Ordering}
use Rattle.internode_places.specs.declared.Internode.{Internode}
use Rattle.internode.specs.declared.Refused.{Refused}
use Rattle.internode.specs.Node.{numbers}

-- a place: 0 and the place, or the refusal's number
abbrev pub said_place : Result ℕ Refusal → Answer
said_place (Ok p) = accepted (p ∷ [])
said_place (Err why) = refused why []

-- a child: 0 and its number, or the refusal's number
abbrev pub said_child : Result ℕ Refusal → Answer
said_child (Ok number) = accepted (number ∷ [])
said_child (Err why) = refused why []

-- an order: 0 and its place (less 0, equal 1, greater 2), or the refusal's number
abbrev pub said_compared : Result Ordering Refusal → Answer
said_compared (Ok o) = accepted (place (order_of o) ∷ [])
said_compared (Err why) = refused why []

-- an insertion: 0 and all that the node holds, or the refusal's number and all that the node handed back holds
abbrev pub said_inserted : Result Internode Refused → Answer
said_inserted (Ok node) = accepted (numbers node)
said_inserted (Err r) = refused r.why (numbers r.node)

-- the node handed back, inserted into or refused
abbrev pub node_back : Result Internode Refused → Internode
node_back (Ok node) = node
node_back (Err r) = r.node
