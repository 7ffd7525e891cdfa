-- An answer is known by what it says: each contract leaves one outcome. Assumes nothing.
use mathlib.Core.Path.{◌≡◌, sym, ap, ◌∙◌}
use mathlib.Core.List.{List, ◌++◌}
use Prim.Native.Nat.{ℕ}
use lib.ListN.{get_or, take, drop}
use lib.Seq.{take_at, drop_at}
use Rattle.refusal.specs.Answer.{Answer}
use Rattle.refusal.specs.declared.Refusal.{Refusal}
use Rattle.refusal.proofs.One.{no-refusal, same-refusal, same-value}
use Rattle.std.specs.Prelude.{Result, Ok, Err}
use Rattle.std.specs.declared.cmp.Ordering.{Ordering}
use Rattle.ikey.proofs.One.{place-one}
use Rattle.internode_places.specs.declared.Internode.{Internode}
use Rattle.internode_places.proofs.Whole.{Whole}
use Rattle.internode.specs.declared.Refused.{Refused}
use Rattle.internode.specs.Node.{numbers}
use Rattle.internode.specs.Answers.{said_place, said_child, said_compared, said_inserted, node_back}

pub place-said-one : (a b : Result ℕ Refusal) → said_place a ≡ said_place b → a ≡ b
place-said-one (Ok p) (Ok q) e = ap Ok (same-value e)
place-said-one (Ok p) (Err w) e = no-refusal w e
place-said-one (Err v) (Ok q) e = no-refusal v (sym e)
place-said-one (Err v) (Err w) e = ap Err (same-refusal v w e)

pub child-one : (a b : Result ℕ Refusal) → said_child a ≡ said_child b → a ≡ b
child-one (Ok p) (Ok q) e = ap Ok (same-value e)
child-one (Ok p) (Err w) e = no-refusal w e
child-one (Err v) (Ok q) e = no-refusal v (sym e)
child-one (Err v) (Err w) e = ap Err (same-refusal v w e)

pub compared-one : (a b : Result Ordering Refusal) → said_compared a ≡ said_compared b → a ≡ b
compared-one (Ok o) (Ok q) e = ap Ok (place-one o q (same-value e))
compared-one (Ok o) (Err w) e = no-refusal w e
compared-one (Err v) (Ok q) e = no-refusal v (sym e)
compared-one (Err v) (Err w) e = ap Err (same-refusal v w e)

-- an internode is known by its numbers
pub node-one : (x y : Internode) → Whole x → Whole y → numbers x ≡ numbers y → x ≡ y
node-one x y a b e =
    λ i. record {
      n = ap (λ (l : List ℕ). get_or l 0 0) e i;
      ikeys = keys i;
      children = kids i;
    }
  where
    rest : x.ikeys ++ x.children ≡ y.ikeys ++ y.children
    rest = ap (λ (l : List ℕ). drop 1 l) e

    keys : x.ikeys ≡ y.ikeys
    keys = sym (take_at x.ikeys x.children 15 a.ikeys-15) ∙ ap (λ (l : List ℕ). take 15 l) rest
        ∙ take_at y.ikeys y.children 15 b.ikeys-15

    kids : x.children ≡ y.children
    kids = sym (drop_at x.ikeys x.children 15 a.ikeys-15) ∙ ap (λ (l : List ℕ). drop 15 l) rest
        ∙ drop_at y.ikeys y.children 15 b.ikeys-15

refused-one : (a b : Refused) → a.why ≡ b.why → a.node ≡ b.node → a ≡ b
refused-one a b e d = λ i. record { why = e i; node = d i }

pub inserted-one : (a b : Result Internode Refused) → Whole (node_back a) → Whole (node_back b) → said_inserted a ≡ said_inserted b → a ≡ b
inserted-one (Ok x) (Ok y) u v e = ap Ok (node-one x y u v (ap (λ (s : Answer). s.values) e))
inserted-one (Ok x) (Err b) u v e = no-refusal b.why e
inserted-one (Err a) (Ok y) u v e = no-refusal a.why (sym e)
inserted-one (Err a) (Err b) u v e =
    ap Err (refused-one a b (same-refusal a.why b.why e) (node-one a.node b.node u v (ap (λ (s : Answer). s.values) e)))
