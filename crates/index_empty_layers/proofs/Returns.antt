-- A law for each way in which giving a layer back returns. Assumes nothing.
use Prim.Native.Nat.{ℕ, suc, ◌+◌, ◌-◌, ◌/◌, ◌%◌, ◌≤◌, ◌<◌}
use mathlib.Core.Path.{◌≡◌, refl, sym, ◌∙◌}
use mathlib.Core.Bool.{Bool, true, false, cond, ◌&&◌}
use mathlib.Core.List.{List, [], ◌∷◌}
use native.Mathlib.Omega.{arith}
use lib.Dec.{T, ltb, eqb, eqb→eq, ltb→lt}
use lib.ListN.{length, get_or, get_or-eq_default}
use borrow.Author.Rules.{rules}
use borrow.Author.Tests.{not-true, not-false, eq-eqb, ne_eqb, lt-ltb, le-ltb}
use denote.Enum.Declared.{tag_of}
use types.Run.{OneOf}
use mathlib.Core.Logic.{⊎_elim, inl, inr}
use Rattle.bank.proofs.Tests.{holds, and_left, and_right}
use Rattle.arena.proofs.Words.{lt-or-ge}
use Rattle.model.specs.contracts.Met as met
use Rattle.arena.specs.Layout.{node_start, word_at, freed_node}
use Rattle.arena.specs.Memory.{Memory, memory}
use Rattle.model.specs.declared.Met.{Met}
use Rattle.model.specs.declared.Met.TheVariants.{Stored, Conflict, Missing}
use Rattle.model.specs.Leaves.{entry_taken}
use Rattle.model.specs.Meet.{meet}
use Rattle.model.specs.GivenBack.{node_of_word, empty_leaf, link_place, empty_layer, without_layer, to_give_back, given_back, all_given_back}
use Rattle.seek.specs.Lengths.{NodesLent}

none_after : (b : Bool) → false ≡ b && false
none_after true = refl
none_after false = refl

module _ (nodes key : List ℕ) (holder root links : ℕ) where
  pub empty-first : links ≡ 0 → false ≡ empty_layer nodes key holder root links
  unfolding empty_layer
  empty-first e = rw e refl

  pub empty-kind : {w : ℕ} → w ≡ word_at nodes root 0 → (w ≡ 1 → ⊥) → false ≡ empty_layer nodes key holder root links
  unfolding empty_layer empty_leaf
  empty-kind e h = rw (← e, ne_eqb _ 1 h) (none_after (ltb 0 links))

  pub empty-size : {w : ℕ} → w ≡ word_at nodes root 1 → (w % 16 ≡ 0 → ⊥) → false ≡ empty_layer nodes key holder root links
  unfolding empty_layer empty_leaf
  empty-size e h = rw (← e, ne_eqb _ 0 h, ← none_after (eqb (word_at nodes root 0) 1)) (none_after (ltb 0 links))

  pub empty-holder : holder < 2 → false ≡ empty_layer nodes key holder root links
  unfolding empty_layer
  empty-holder h = rw (le-ltb 1 holder (omega arith), ← none_after (empty_leaf nodes root)) (none_after (ltb 0 links))

  pub empty-last : (links ≡ 0 → ⊥) → {a b c p : ℕ} → a ≡ word_at nodes root 0 → a ≡ 1 → b ≡ word_at nodes root 1 → b % 16 ≡ 0 → 2 ≤ holder
      → c ≡ word_at nodes ((holder - 2) / 47) 1 → p ≡ link_place nodes key ((holder - 2) / 47) links
      → ltb p (c % 16) ≡ empty_layer nodes key holder root links
  unfolding empty_layer empty_leaf
  empty-last n ea a1 eb b0 h ec ep =
      rw (lt-ltb 0 links (omega arith), ← ea, eq-eqb _ 1 a1, ← eb, eq-eqb _ 0 b0, lt-ltb 1 holder (omega arith), ← ec, ← ep) refl

  -- what an empty layer says of its numbers
  pub empty-facts : NodesLent (length nodes) → {s : Bool} → s ≡ empty_layer nodes key holder root links → s ≡ true
      → (1 ≤ links) × (2 ≤ holder) × (node_of_word holder < 255) × (link_place nodes key (node_of_word holder) links < 15)
      × (node_start root + 47 ≤ length nodes)
  unfolding empty_layer empty_leaf
  empty-facts lent {s} e y =
      let t : T (empty_layer nodes key holder root links) = holds (sym e ∙ y) in
      let rest = and_right (ltb 0 links) _ t in
      let empty = and_left (eqb (word_at nodes root 0) 1 && eqb (word_at nodes root 1 % 16) 0) _ rest in
      let last = and_right (eqb (word_at nodes root 0) 1 && eqb (word_at nodes root 1 % 16) 0) _ rest in
      let one : word_at nodes root 0 ≡ 1 = eqb→eq (word_at nodes root 0) 1 (and_left (eqb (word_at nodes root 0) 1) _ empty) in
      let some-links : 0 < links = ltb→lt 0 links (and_left (ltb 0 links) _ t) in
      let high : 1 < holder = ltb→lt 1 holder (and_left (ltb 1 holder) _ last) in
      let low : link_place nodes key (node_of_word holder) links < word_at nodes (node_of_word holder) 1 % 16 =
      ltb→lt _ _ (and_right (ltb 1 holder) _ last) in
      let root_in : node_start root + 0 < length nodes = in_words (node_start root + 0) (λ z. omega arith) in
      let leaf-in : node_start (node_of_word holder) + 1 < length nodes = in_words (node_start (node_of_word holder) + 1) (λ z. omega arith) in
      (omega arith, omega arith, omega (arith, lent.few, lent.whole), omega arith, omega (arith, lent.whole))
    where
      in_words : (i : ℕ) → (get_or nodes i 0 ≡ 0 → ⊥) → i < length nodes
      in_words i ne = ⊎_elim (λ h. h) (λ h. absurd (ne (get_or-eq_default nodes 0 {n = i} h))) (lt-or-ge i (length nodes))

  -- the layer goes
  pub layer-freed : {p : ℕ} {n1 n2 : List ℕ} → p ≡ link_place nodes key ((holder - 2) / 47) links
      → n1 ≡ entry_taken nodes ((holder - 2) / 47) p → n2 ≡ freed_node n1 root → n2 ≡ without_layer nodes key holder root links
  unfolding without_layer
  layer-freed ep e1 e2 = rw (e2, e1, ep)

-- ---- step after step

pub back_none : (m : Memory) (key : List ℕ) (steps : ℕ) → steps ≡ 0 → m ≡ all_given_back steps m key
unfolding all_given_back
back_none m key steps e = rw e refl

module _ (nodes cells bytes key : List ℕ) (steps : ℕ) (n : steps ≡ 0 → ⊥) (r : Met)
    (e : r ≡ meet 31 (memory nodes cells bytes) key 0 0 (get_or nodes 0 0)) where
  one_more : steps ≡ suc (steps - 1)
  one_more = omega arith

  pub back-there : OneOf (0 ∷ 1 ∷ []) (tag_of met.the_type r) → memory nodes cells bytes ≡ all_given_back steps (memory nodes cells bytes) key
  unfolding all_given_back
  back-there h = rw (one_more, ← e) (go r h)
    where
      go : (r : Met) → OneOf (0 ∷ 1 ∷ []) (tag_of met.the_type r)
          → memory nodes cells bytes
          ≡ cond (to_give_back nodes key r) (all_given_back (steps - 1) (given_back (memory nodes cells bytes) key r) key)
          (memory nodes cells bytes)
      go (Stored _ _ _) h = refl
      go (Conflict _ _ _ _) h = refl
      go (Missing _ _ _) h = absurd (other h)
        where
          other : OneOf (0 ∷ 1 ∷ []) 2 → ⊥
          other (inl g) = omega (arith, g)
          other (inr g) = omega (arith, g)

  module _ {holder root links : ℕ} (q : r ≡ Missing holder root links) {s : Bool} (es : s ≡ empty_layer nodes key holder root links) where
    pub back-kept : s ≡ false → memory nodes cells bytes ≡ all_given_back steps (memory nodes cells bytes) key
    unfolding all_given_back
    back-kept f = rw (one_more, ← e, q, ← es, f) refl

    pub back_on : s ≡ true → {n1 n2 : List ℕ} → n1 ≡ without_layer nodes key holder root links
        → memory n2 cells bytes ≡ all_given_back (steps - 1) (memory n1 cells bytes) key
        → memory n2 cells bytes ≡ all_given_back steps (memory nodes cells bytes) key
    unfolding all_given_back
    back_on y e1 e2 = rw (one_more, ← e, q, ← es, y, ← e1) e2

pub ruleset empties = (
  rules,
  not-true,
  not-false,
  empty-first,
  empty-kind,
  empty-size,
  empty-holder,
  empty-last,
  layer-freed,
)
