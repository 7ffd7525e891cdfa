-- A law for each way in which a leaf takes an entry more. Assumes nothing.
use Prim.Native.Nat.{ℕ, ◌+◌, ◌*◌, ◌-◌, ◌%◌, ◌≤◌, ◌<◌}
use mathlib.Core.Path.{◌≡◌}
use mathlib.Core.List.{List, ◌∷◌, ◌++◌}
use native.Mathlib.Omega.{arith}
use lib.ListN.{length, get_or, set, take, drop, length-drop}
use lib.Seq.{take_all, length-take-le}
use borrow.Author.Rules.{rules}
use borrow.Author.Tests.{lt-ltb, le-ltb}
use Rattle.bank.specs.Bank.{slot_at, inserted_from_back}
use Rattle.nibbles.specs.Words.{word_of}
use Rattle.leaf_entries.specs.declared.Entry.{Entry}
use Rattle.leaf.specs.Leaf.{none, rank, slots_of}
use Rattle.leaf.specs.Search.{place_greater}
use Rattle.leaf.specs.Cut.{cut_of}
use Rattle.lent_nodes.specs.declared.inside.Leaf.{Leaf}
use Rattle.arena.specs.Layout.{word_at, put_leaf}
use Rattle.forest.specs.Nodes.{entries_at}
use Rattle.model.specs.declared.Grown.{Grown}
use Rattle.model.specs.declared.Grown.TheVariants.{One, Two}
use Rattle.model.specs.Leaves.{
  fresh_node,
  entry_put,
  leaf_with,
  fifteen_at,
  entry_added,
  leaf_split,
  leaf_grown,
  rest_of,
  half_for,
  entry_rests,
  leaf_rests,
}

-- ---- in two

-- the half in which an entry is: below the ikey between them the left one, else the right one
module _ (es : List Entry) (ikey : ℕ) {c : ℕ} (ec : c ≡ cut_of es) (l : c ≤ 15) (h : length es ≡ 16) where
  pub half-left : ikey < (get_or es c none).ikey → 15 - c ≡ rest_of (length (half_for es ikey))
  unfolding half_for
  half-left b =
      rw (← ec, lt-ltb ikey (get_or es c none).ikey b)
      (let z : length (take c es) ≡ c = length-take-le c es (omega arith) in omega (arith, z))

  pub half-right : (get_or es c none).ikey ≤ ikey → c - 1 ≡ rest_of (length (half_for es ikey))
  unfolding half_for
  half-right b =
      rw (← ec, le-ltb ikey (get_or es c none).ikey b)
      (let z = length-drop c es in omega (arith, z))

pub leaf-two : (nodes : List ℕ) (count k : ℕ) (es : List Entry) {c right : ℕ} {a b : Leaf} {m1 m2 : List ℕ} → c ≡ cut_of es
    → right ≡ fresh_node nodes count → a ≡ leaf_with (take c (drop 0 es)) → m1 ≡ put_leaf nodes k a → length es ≡ 16
    → b ≡ leaf_with (take (16 - c) (drop c es)) → m2 ≡ put_leaf m1 right b
    → (m2, Two (get_or es c none).ikey right) ≡ leaf_split nodes count k es
unfolding leaf_split
leaf-two nodes count k es {c} ec er ea e1 h eb e2 =
    let z : take (16 - c) (drop c es) ≡ drop c es = take_all (16 - c) (drop c es) (simp length-drop (omega arith)) in
    rw (e2, eb, z, e1, ea, er, ec)

-- ---- an entry more

module _ (nodes : List ℕ) (count k : ℕ) (e : Entry) {p word size : ℕ} (ep : p ≡ place_greater e.ikey (rank e) (entries_at nodes k))
    (ew : word ≡ word_at nodes k 1) (es : size ≡ word % 16) where
  pub leaf-one : {next slot : ℕ} {m1 m2 : List ℕ} → size < 15 → next ≡ word_of (inserted_from_back p (slots_of word))
      → m1 ≡ set nodes (2 + k * 47 + 1) next → slot ≡ slot_at 14 (slots_of word) → m2 ≡ entry_put m1 k slot e
      → (m2, One) ≡ leaf_grown nodes count k e
  unfolding leaf_grown entry_added
  leaf-one l en e1 s e2 = rw (← ep, ← ew, lt-ltb (word % 16) 15 (omega arith), e2, e1, en, s)

  pub leaf-more : {all : List Entry} {m2 : List ℕ} {g : Grown} → 15 ≤ size
      → all ≡ take p (fifteen_at nodes k) ++ e ∷ drop p (fifteen_at nodes k) → (m2, g) ≡ leaf_split nodes count k all
      → (m2, g) ≡ leaf_grown nodes count k e
  unfolding leaf_grown entry_added
  leaf-more l ea e2 = rw (← ep, ← ew, le-ltb (word % 16) 15 (omega arith), ← ea) e2

  pub rests-one : size < 15 → 14 - size ≡ leaf_rests nodes k e
  unfolding leaf_rests entry_rests
  rests-one l = rw (← ew, lt-ltb (word % 16) 15 (omega arith)) (omega (arith, es))

  pub rests-more : {all : List Entry} {r : ℕ} → 15 ≤ size → all ≡ take p (fifteen_at nodes k) ++ e ∷ drop p (fifteen_at nodes k)
      → r ≡ rest_of (length (half_for all e.ikey)) → r ≡ leaf_rests nodes k e
  unfolding leaf_rests entry_rests
  rests-more l ea er = rw (← ep, ← ew, le-ltb (word % 16) 15 (omega arith), ← ea) er

pub ruleset leaves = (rules, half-left, half-right, leaf-two, leaf-one, leaf-more, rests-one, rests-more)
