-- Laws on the whole: one for each way that the audit returns, and what right lengths give to the walk. Assumes nothing.
use mathlib.Core.Path.{◌≡◌, refl, sym, ap, ◌∙◌}
use mathlib.Core.Bool.{Bool, true, false, cond}
use mathlib.Core.List.{List, [], ◌∷◌}
use mathlib.Core.Option.{some}
use Prim.Native.Nat.{ℕ, ◌<◌}
use native.Mathlib.Omega.{arith}
use borrow.Author.Rules.{rules}
use borrow.Author.Tests.{not-true, not-false}
use lib.ListN.{length, get_or, length-replicate}
use Rattle.refusal.specs.Answer.{Answer, accepted, refused}
use Rattle.refusal.specs.declared.Refusal.{Refusal}
use Rattle.refusal.specs.declared.Refusal.TheVariants.{Memory}
use Rattle.refusal.specs.Refusals.{number_of}
use Rattle.refusal.proofs.Laws.{number-pos}
use Rattle.std.specs.Prelude.{Result, Ok, Err}
use Rattle.arena.specs.declared.Fit.{Fit}
use Rattle.arena.specs.Parts.{zeros}
use Rattle.arena.specs.Memory as lent
use Rattle.arena.specs.Memory.{memory, node_count, cell_count, right_lengths, measured, said_measured}
use Rattle.arena.proofs.Measures.{Right, fit-means, right-if}
use Rattle.forest.specs.Walk.{Seen, walk_layer, walked_well, is_tree}
use Rattle.walk.specs.Steps.{told, Lent}
use Rattle.audit_seen.specs.Seen.{LentAll}
use Rattle.audit.specs.Audit.{audited}

module _ (nodes cells bytes : List ℕ) {r : Result Fit Refusal} (e : said_measured r ≡ measured (length nodes) (length cells) (length bytes)) where
  wrong : {why : Refusal} → r ≡ Err why → right_lengths (length nodes) (length cells) (length bytes) ≡ false
  unfolding measured
  wrong {why} f = by (right_lengths (length nodes) (length cells) (length bytes)) (ap said_measured (sym f) ∙ e)
    where
      by : (b : Bool) → refused why [] ≡ cond b (accepted (node_count (length nodes) ∷ cell_count (length cells) ∷ []))
          (record { number = 10; values = [] })
          → b ≡ false
      by true q = absurd (let z : number_of why ≡ 0 = ap (λ (a : Answer). a.number) q in omega (arith, number-pos why))
      by false q = refl

  pub judge-unfit : {why : Refusal} → r ≡ Err why → false ≡ is_tree (memory nodes cells bytes)
  unfolding is_tree
  judge-unfit f = rw (wrong f)

  module _ {fit : Fit} (f : r ≡ Ok fit) where
    right : Right (length nodes) (length cells) (length bytes) fit.nodes fit.cells
    right = fit-means _ _ _ e f

    fit-true : right_lengths (length nodes) (length cells) (length bytes) ≡ true
    fit-true = right-if _ _ _ fit.nodes fit.cells right

    -- the number of the root
    pub first-in : 0 < length nodes
    first-in = omega (arith, right.nodes-whole)

    pub lent-walk : Lent nodes cells bytes (zeros 510) (zeros 32) 0
    lent-walk =
        let w = right in
        record {
          nodes-few = omega arith;
          nodes-whole = omega arith;
          cells-few = omega arith;
          cells_whole = omega arith;
          bytes_whole = omega arith;
          room = length-replicate {A = ℕ} 510 0;
          way = length-replicate {A = ℕ} 32 0;
          few = omega arith;
        }

    pub lent-all : (seen : Seen) → length seen ≡ 510 → LentAll nodes cells bytes seen fit.nodes fit.cells
    lent-all seen l =
        let w = right in
        record {
          n-few = w.n-high;
          c-few = w.c-high;
          nodes-all = w.nodes-whole;
          cells-all = w.cells_whole;
          bytes-all =
              w.bytes_whole;
          room = l;
        }

    module _ (w : Bool) (s : Seen) (g : told w s ≡ walk_layer 31 (memory nodes cells bytes) [] (get_or nodes 0 0) (zeros 510)) where
      walked : is_tree (memory nodes cells bytes) ≡ walked_well (memory nodes cells bytes) (told w s)
      unfolding is_tree
      walked = rw (fit-true, ← g)

      pub judge-not : w ≡ false → false ≡ is_tree (memory nodes cells bytes)
      unfolding told
      judge-not h = rw (walked, h)

      pub judge-rest : {q : Bool} → w ≡ true → q ≡ walked_well (memory nodes cells bytes) (some s) → q ≡ is_tree (memory nodes cells bytes)
      unfolding told
      judge-rest h d = rw (walked, h) d

pub ruleset judging = (rules, not-true, not-false, judge-unfit, first-in, lent-walk, lent-all, judge-not, judge-rest)

-- ---- the answer

module _ (m : lent.Memory) {r : Bool} (e : r ≡ is_tree m) where
  pub says-tree : r ≡ true → accepted [] ≡ audited m
  unfolding audited
  says-tree f = rw (← e, f)

  pub says-no : r ≡ false → refused Memory [] ≡ audited m
  unfolding audited
  says-no f = rw (← e, f)

pub ruleset says = (rules, not-true, not-false, says-tree, says-no)
