-- Step after step: memory stays a tree and lists the same, the nodes given back are free, and after 31 steps none is left to do. Assumes
-- nothing.
use mathlib.Core.Path.{◌≡◌, refl, ◌∙◌, subst}
use mathlib.Core.Bool.{Bool, true, false, cond}
use mathlib.Core.List.{List, [], ◌∷◌}
use Prim.Native.Nat.{ℕ, zero, suc, ◌+◌, ◌-◌, ◌≤◌}
use native.Mathlib.Omega.{arith}
use lib.Dec.{T}
use lib.ListN.{length}
use Rattle.order.specs.Bytes.{Bytes}
use Rattle.arena.specs.Free.{free_nodes}
use Rattle.arena.specs.Memory.{Memory}
use Rattle.forest.specs.IsTree.{Layers, IsTree}
use Rattle.model.specs.declared.Met.{Met}
use Rattle.model.specs.declared.Met.TheVariants.{Stored, Conflict, Missing}
use Rattle.model.specs.GivenBack.{to_give_back, given_back, all_given_back}
use Rattle.model.specs.Calls.{place}
use Rattle.trees.specs.FreeNumbers.{times_in}
use Rattle.trees.specs.Layers.{Layered}
use Rattle.trees.proofs.Paths.{down-length}
use Rattle.views.specs.Views.{layer_view}
use Rattle.views.proofs.Whole.{sound-of, to-trees}
use Rattle.places.proofs.Meets.{Way, missing, conflict, below}
use Rattle.places.proofs.Meets as way
use Rattle.places.proofs.Seen.{place-way}
use Rattle.index_given_back.specs.GaveBack.{missing_in, nodes_back, GaveBack}
use Rattle.index_given_back.proofs.Ways.{EndsBelow}
use Rattle.index_given_back.proofs.Step.{links_to, Stepped, step_back}

-- ---- what the steps leave

-- no step
kept : (m : Memory) (v : Layers) → IsTree m v → GaveBack m v [] m
kept m v t =
    record { tree = v; is-tree = t; same-listing = refl; as_many = refl; freed = λ n. omega arith; same-cells = refl; same_bytes = refl }

pub all_back : (steps : ℕ) (m : Memory) (v : Layers) → IsTree m v → Bytes m.bytes → (K : List ℕ) → Bytes K
    → GaveBack m v (nodes_back steps m K) (all_given_back steps m K)
unfolding all_given_back nodes_back
all_back zero m v t bytes K b = kept m v t
all_back (suc steps) m v t bytes K b =
    go (to_give_back m.nodes K (place m K)) (step_back m v t bytes K b)
    (λ w W. all_back steps (given_back m K (place m K)) w W bytes K b)
  where
    go : (c : Bool)
        → (T c → (1 ≤ links_to (place m K))
        × Stepped m v t bytes K b (missing_in (place m K)) (links_to (place m K) - 1) (given_back m K (place m K)))
        → ((w : Layers) → IsTree (given_back m K (place m K)) w
        → GaveBack (given_back m K (place m K)) w (nodes_back steps (given_back m K (place m K)) K)
        (all_given_back steps (given_back m K (place m K)) K))
        → GaveBack m v (cond c (missing_in (place m K) ∷ nodes_back steps (given_back m K (place m K)) K) [])
        (cond c (all_given_back steps (given_back m K (place m K)) K) m)
    go false f rest = kept m v t
    go true f rest =
        let x = given_back m K (place m K) in
        let one = (f tt).1.0 in
        let more = rest one.tree one.is-tree in
        record {
          tree = more.tree;
          is-tree = more.is-tree;
          same-listing = more.same-listing ∙ one.same-listing;
          as_many = more.as_many ∙ one.as_many;
          freed = λ n. omega (
            arith,
            one.freed n,
            subst (λ (i : ℕ). times_in (free_nodes (all_given_back steps x K).nodes i) n
                ≡ times_in (free_nodes x.nodes i) n + times_in (nodes_back steps x K) n) one.as_many (more.freed n),
          );
          same-cells = more.same-cells ∙ one.same-cells;
          same_bytes = more.same_bytes ∙ one.same_bytes;
        }

-- ---- no step is left

pub ended : (o : Met) (links : ℕ) → EndsBelow links o → links_to o ≡ links
ended (Stored _ _ _) links e = absurd e
ended (Conflict _ _ _ _) links e = absurd e
ended (Missing holder root n) links e = e

-- a key is missing below no more links than may follow
pub way-links : (m : Memory) (K : List ℕ) {l : ℕ} {v : Layered l} {ks : List ℕ} {holder : ℕ} {o : Met} → Way m K l v ks holder o
    → links_to o ≤ l + length ks
way-links m K (missing l v ks holder q) = omega arith
way-links m K (way.stored l v ks holder lf p c q E w e) = omega arith
way-links m K (conflict l v ks holder lf p c q E w e) = omega arith
way-links m K (below l v ks holder lf p w o q E rest) = omega (arith, way-links m K rest, down-length K ks (length ks) refl)

pub none-by : (steps : ℕ) (m : Memory) (v : Layers) → IsTree m v → Bytes m.bytes → (K : List ℕ) → Bytes K → links_to (place m K) ≤ steps
    → to_give_back (all_given_back steps m K).nodes K (place (all_given_back steps m K) K) ≡ false
unfolding all_given_back
none-by zero m v t bytes K b few = go (to_give_back m.nodes K (place m K)) (λ y. (step_back m v t bytes K b y).0)
  where
    go : (c : Bool) → (T c → 1 ≤ links_to (place m K)) → c ≡ false
    go true f = let h = f tt in absurd (omega arith)
    go false f = refl
none-by (suc steps) m v t bytes K b few =
    go (to_give_back m.nodes K (place m K)) refl (step_back m v t bytes K b)
    (λ w W. none-by steps (given_back m K (place m K)) w W bytes K b)
  where
    Done : Memory → Type 0
    Done y = to_give_back y.nodes K (place y K) ≡ false

    go : (c : Bool) → to_give_back m.nodes K (place m K) ≡ c
        → (T c → (1 ≤ links_to (place m K))
        × Stepped m v t bytes K b (missing_in (place m K)) (links_to (place m K) - 1) (given_back m K (place m K)))
        → ((w : Layers) → IsTree (given_back m K (place m K)) w → links_to (place (given_back m K (place m K)) K) ≤ steps
        → Done (all_given_back steps (given_back m K (place m K)) K))
        → Done (cond c (all_given_back steps (given_back m K (place m K)) K) m)
    go false e f rest = e
    go true e f rest =
        let some-links = (f tt).0 in
        let (one, ends, fewer) = (f tt).1 in
        rest one.tree one.is-tree (omega (arith, ended (place (given_back m K (place m K)) K) (links_to (place m K) - 1) ends))

-- after 31 steps no layer is left to give back
pub none_left : (m : Memory) (v : Layers) → IsTree m v → Bytes m.bytes → (K : List ℕ) → Bytes K
    → to_give_back (all_given_back 31 m K).nodes K (place (all_given_back 31 m K) K) ≡ false
none_left m v t bytes K b =
    none-by 31 m v t bytes K b
    (omega (arith, way-links m K (place-way m (sound-of m v t.forest) (layer_view 31 v) (to-trees m v t.forest bytes) K b)))
