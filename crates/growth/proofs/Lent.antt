-- From lent memory to its nodes, and back. Assumes nothing.
use mathlib.Core.Path.{◌≡◌, ap, ◌∙◌}
use mathlib.Core.List.{List}
use Prim.Native.Nat.{ℕ, ◌-◌, ◌*◌, ◌/◌, ◌≤◌}
use native.Mathlib.Nat.{mul-div_cancel}
use native.Mathlib.Omega.{arith}
use lib.ListN.{length}
use Rattle.bank.proofs.Tests.{is_true}
use Rattle.arena.specs.Memory.{Memory, node_count, right_lengths}
use Rattle.arena.proofs.Measures.{right-means}
use Rattle.trees.specs.Nodes.{NodeList}
use Rattle.trees.specs.Layers.{Pointer}
use Rattle.views.specs.Views.{Sound}
use Rattle.growth.proofs.Memory.{Nodes}
use Rattle.growth.proofs.LayerGrown.{LayerGrows}

-- sound memory has sound nodes, 255 at most
pub nodes-of : (m : Memory) → Sound m → Nodes m.nodes (node_count (length m.nodes)) × (node_count (length m.nodes) ≤ 255)
nodes-of m s =
    let r = right-means (length m.nodes) (length m.cells) (length m.bytes)
    (is_true (right_lengths (length m.nodes) (length m.cells) (length m.bytes)) s.lent) in
    (record { long = r.nodes-whole; sound = s.nodes-sound }, r.n-high)

-- as many nodes as the words are long
pub count_of : (nodes : List ℕ) (n : ℕ) → Nodes nodes n → node_count (length nodes) ≡ n
count_of nodes n N =
    let e : length nodes - 2 ≡ n * 47 = omega (arith, N.long) in
    ap (λ (x : ℕ). x / 47) e ∙ mul-div_cancel n (omega arith)

-- what is kept of more nodes' words is kept of fewer
pub own-more : (own own' : ℕ → ℕ) (nodes : List ℕ) (n holder root : ℕ) (result : List ℕ) (b : ℕ × NodeList Pointer)
    → ((j : ℕ) → own' j ≡ 0 → own j ≡ 0)
    → LayerGrows own nodes n holder root result b → LayerGrows own' nodes n holder root result b
own-more own own' nodes n holder root result b f G =
    record { grown = G.grown; still = G.still; view = G.view; head = G.head; kept = λ j z u. G.kept j (f j z) u; rooted = G.rooted }
