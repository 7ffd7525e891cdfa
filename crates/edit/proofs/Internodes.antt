-- A law for each way in which a call on an internode returns. Assumes nothing.
use Prim.Native.Nat.{ℕ, suc, ◌+◌, ◌-◌, ◌≤◌, ◌<◌}
use mathlib.Core.Path.{◌≡◌, sym, ap, ◌∙◌}
use mathlib.Core.Bool.{false}
use mathlib.Core.List.{List}
use native.Mathlib.Decide.{ℕ_discrete}
use native.Mathlib.Omega.{arith}
use lib.Dec.{leb}
use lib.ListN.{length, get_or, take}
use lib.Seq.{length-take-le, get_or-take}
use borrow.Author.Rules.{rules}
use borrow.Author.Tests.{le-leb, lt-leb, le-ltb, lt-ltb}
use Rattle.internode_places.specs.declared.Internode as internode
use Rattle.internode_inserts.specs.declared.Split.{Split}
use Rattle.internode.specs.Node.{child_place, inserted}
use Rattle.internode.specs.Split.{split_of}
use Rattle.internode.proofs.Places.{last_none, last-here}
use Rattle.lent_nodes.specs.declared.inside.Internode as arena
use Rattle.arena.specs.Layout.{node_start, internode_of, internode_at, put_internode}
use Rattle.arena.proofs.Words.{part-part}
use Rattle.arena.proofs.Nodes.{word-loaded}
use Rattle.forest.specs.Nodes.{count_at}
use Rattle.model.specs.declared.Grown.{Grown}
use Rattle.model.specs.declared.Grown.TheVariants.{One, Two}
use Rattle.model.specs.Leaves.{fresh_node}
use Rattle.model.specs.Internodes.{internode_in, internode_put, internode_split, internode_grown}

-- ---- read and written

module _ (m : List ℕ) (k : ℕ) where
  pub node-in : {y : arena.Internode} → node_start k + 47 ≤ length m → y ≡ internode_at m k
      → ◌≡◌ {A = internode.Internode} (record { n = y.n; ikeys = y.ikeys; children = y.children }) (internode_in m k)
  unfolding internode_in internode_of
  node-in {y} fits e =
      rw e
      (let a = word-loaded m k fits 1 (omega arith) in
      let b = part-part m (node_start k) 47 2 15 fits (omega arith) in
      let d = part-part m (node_start k) 47 17 16 fits (omega arith) in
      cc)

  pub node-put : (x : internode.Internode) {y : arena.Internode} {m' : List ℕ}
      → y ≡ record { n = x.n; ikeys = x.ikeys; children = x.children }
      → m' ≡ put_internode m k y → m' ≡ internode_put m k x
  unfolding internode_put
  node-put x e f = f ∙ ap (put_internode m k) e

-- ---- the place of a child

-- all ikeys from a place on are above
abbrev pub AboveFrom : internode.Internode → ℕ → ℕ → Type 0
AboveFrom x ikey j = (i : ℕ) → j ≤ i → i < x.n → ikey < get_or x.ikeys i 0

module _ (x : internode.Internode) (ikey : ℕ) (whole : length x.ikeys ≡ 15) (few : x.n ≤ 15) where
  used : length (take x.n x.ikeys) ≡ x.n
  used = length-take-le x.n x.ikeys (omega arith)

  key-at : (i : ℕ) → i < x.n → get_or (take x.n x.ikeys) i 0 ≡ get_or x.ikeys i 0
  key-at i l = get_or-take x.n x.ikeys i 0 l

  -- one of them is above
  above_at : (i : ℕ) → i < x.n → ikey < get_or x.ikeys i 0 → leb (get_or (take x.n x.ikeys) i 0) ikey ≡ false
  above_at i l h = lt-leb (get_or (take x.n x.ikeys) i 0) ikey (rw (key-at i l) h)

  pub place_here : (j : ℕ) → 0 < j → j ≤ x.n → AboveFrom x ikey j → get_or x.ikeys (j - 1) 0 ≤ ikey → j ≡ child_place x ikey
  place_here j p l f h =
      sym (last-here (λ k. leb k ikey) (take x.n x.ikeys) (j - 1) (omega (arith, used))
      (le-leb (get_or (take x.n x.ikeys) (j - 1) 0) ikey (rw (key-at (j - 1) (omega arith)) h))
      (λ i a b. above_at i (omega (arith, used)) (f i (omega arith) (omega (arith, used))))
      ∙ (let z : suc (j - 1) ≡ j = omega arith in z))

  pub place_none : (j : ℕ) → j ≤ 0 → AboveFrom x ikey j → 0 ≡ child_place x ikey
  place_none j p f =
      sym (last_none (λ k. leb k ikey) (take x.n x.ikeys)
      (λ i b. above_at i (omega (arith, used)) (f i (omega arith) (omega (arith, used)))))

pub place_down : (x : internode.Internode) (ikey j : ℕ) → 0 < j → AboveFrom x ikey j → ikey < get_or x.ikeys (j - 1) 0
    → AboveFrom x ikey (j - 1)
place_down x ikey j p f h i l g =
    elim (ℕ_discrete i (j - 1)) [
      | yes q ↦ rw q h
      | no q ↦ f i (omega arith) g
    ]

-- ---- in two

module _ (m : List ℕ) (k : ℕ) {x : internode.Internode} (ex : x ≡ internode_in m k) where
  same_count : x.n ≡ count_at m k
  unfolding internode_in
  same_count = ap (λ (y : internode.Internode). y.n) ex

  pub full-node : count_at m k ≡ 15 → x.n ≡ 15
  full-node e = same_count ∙ e

  pub full-count : x.n ≤ 15 → 15 ≤ x.n → count_at m k ≡ 15
  full-count a b = omega (arith, same_count)

pub split-two : (m : List ℕ) (count k p ikey child : ℕ) {x : internode.Internode} {halves : Split} {right : ℕ} {m1 m2 : List ℕ}
    → x ≡ internode_in m k → halves ≡ split_of x p ikey child → right ≡ fresh_node m count → m1 ≡ internode_put m k halves.left
    → m2 ≡ internode_put m1 right halves.right → (m2, Two halves.up right) ≡ internode_split m count k p ikey child
unfolding internode_split
split-two m count k p ikey child ex eh er e1 e2 = rw (e2, e1, er, eh, ex)

-- ---- a child more

module _ (m : List ℕ) (count k ikey child : ℕ) {x : internode.Internode} (ex : x ≡ internode_in m k) where
  pub grown-many : 15 < x.n → (m, One) ≡ internode_grown m count k ikey child
  unfolding internode_grown
  grown-many h = rw (← same_count m k ex, lt-ltb 15 x.n h)

  module _ (few : x.n ≤ 15) {p : ℕ} (ep : p ≡ child_place x ikey) where
    pub grown-node : {y : internode.Internode} {m1 : List ℕ} → x.n < 15 → y ≡ inserted x p ikey child → m1 ≡ internode_put m k y
        → (m1, One) ≡ internode_grown m count k ikey child
    unfolding internode_grown
    grown-node h ey e1 = rw (← same_count m k ex, le-ltb 15 x.n few, lt-ltb x.n 15 h, ← ex, ← ep, e1, ey)

    pub grown-nodes : {m1 : List ℕ} {g : Grown} → 15 ≤ x.n → (m1, g) ≡ internode_split m count k p ikey child
        → (m1, g) ≡ internode_grown m count k ikey child
    unfolding internode_grown
    grown-nodes h e1 = rw (← same_count m k ex, le-ltb 15 x.n few, le-ltb x.n 15 h, ← ex, ← ep) e1

pub ruleset places = (rules, place_here, place_none, place_down)

pub ruleset internodes = (rules, node-in, node-put, full-node, full-count, split-two, grown-many, grown-node, grown-nodes)
