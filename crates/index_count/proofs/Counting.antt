-- One law for each way in which count returns. Assumes nothing.
use mathlib.Core.Path.{◌≡◌, refl, sym, ap, ◌∙◌}
use mathlib.Core.Bool.{Bool, true, false}
use mathlib.Core.List.{List, [], ◌∷◌}
use Prim.Native.Nat.{ℕ, ◌<◌}
use native.Mathlib.Omega.{arith}
use borrow.Author.Rules.{rules}
use lib.ListN.{length, get_or}
use Rattle.refusal.specs.Answer.{Answer, ◌unless◌, answered, accepted, refused}
use Rattle.refusal.specs.declared.Refusal.{Refusal}
use Rattle.refusal.specs.Refusals.{number_of}
use Rattle.refusal.proofs.Laws.{number-pos}
use Rattle.std.specs.Prelude.{Result, Ok, Err}
use Rattle.arena.specs.declared.Fit.{Fit}
use Rattle.arena.specs.Memory.{memory, node_count, cell_count, right_lengths, measured, said_measured}
use Rattle.arena.proofs.Measures.{fit-means, right-if}
use Rattle.model.specs.Calls.{count_said}

module _ (nodes cells bytes : List ℕ) {r : Result Fit Refusal} (e : said_measured r ≡ measured (length nodes) (length cells) (length bytes)) where
  -- wrong lent lengths
  pub count-unfit : {why : Refusal} → r ≡ Err why → refused why [] ≡ count_said (memory nodes cells bytes)
  unfolding measured count_said
  count-unfit {why} f = by (right_lengths (length nodes) (length cells) (length bytes)) (ap said_measured (sym f) ∙ e)
    where
      by : (b : Bool)
          → refused why [] ≡ answered ((10 unless b) ∷ []) (node_count (length nodes) ∷ cell_count (length cells) ∷ []) []
          → refused why [] ≡ answered ((10 unless b) ∷ []) (get_or nodes 1 0 ∷ []) []
      by true q = absurd (let z : number_of why ≡ 0 = ap (λ (a : Answer). a.number) q in omega (arith, number-pos why))
      by false q = q

  module _ {fit : Fit} (f : r ≡ Ok fit) where
    -- the words before the nodes stand in memory
    pub header-in : (i : ℕ) → i < 2 → i < length nodes
    header-in i h = let w = fit-means _ _ _ e f in omega (arith, w.n-low, w.nodes-whole)

    pub count-told : accepted (get_or nodes 1 0 ∷ []) ≡ count_said (memory nodes cells bytes)
    unfolding count_said
    count-told = rw (right-if _ _ _ fit.nodes fit.cells (fit-means _ _ _ e f))

pub ruleset counting = (rules, count-unfit, header-in, count-told)
