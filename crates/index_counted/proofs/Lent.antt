-- On a tree, put is the same without the audit: what is passed up is how many slots rest, after it, where the key stands. Assumes nothing.
use mathlib.Core.Path.{◌≡◌, refl, sym, ap, ◌∙◌}
use mathlib.Core.Bool.{Bool, true, false, not}
use mathlib.Core.List.{List, [], ◌∷◌}
use Prim.Native.Nat.{ℕ, ◌+◌, ◌≤◌}
use native.Mathlib.Omega.{arith}
use lib.ListN.{length, get_or}
use borrow.Author.Tests.{le-leb}
use Rattle.order.specs.Bytes.{Bytes, bytewise}
use Rattle.order.specs.Map.{lookup}
use Rattle.order.proofs.Bytes.{bytewise-order}
use Rattle.order.proofs.Lookup.{lookup-insert}
use Rattle.bank.proofs.Tests.{holds}
use Rattle.refusal.specs.Answer.{Rule, ◌unless◌, ◌telling◌, answered, accepted}
use Rattle.arena.specs.Memory.{Memory, Did, did}
use Rattle.forest.specs.Walk.{is_tree}
use Rattle.forest.specs.IsTree.{Layers, IsTree}
use Rattle.forest.proofs.Accepts.{tree-found, count-few}
use Rattle.model.specs.Calls.{count_of, place, stored, has_cell, has_nodes, has_room, lacking, with, with_entry, rests_in, rests_passed}
use Rattle.model.specs.Calls.{put_leaves, put_done, put_lent}
use Rattle.trees.proofs.WholeTree.{ones_below-le}
use Rattle.views.proofs.Nodes.{nodes_in}
use Rattle.places.proofs.Found.{is_some, stored-lookup, listing-rises}
use Rattle.places.proofs.Seen.{place-way}
use Rattle.places.proofs.Rests.{way-rests}
use Rattle.puts.proofs.Puts.{put-seen}
use Rattle.index_counted.proofs.Set.{set-sound, set-tree}
use Rattle.index_counted.proofs.Kept.{put-counted}

module _ (m : Memory) (key : List ℕ) where
  -- the rules of a put, where its three tests come out so
  abbrev as_ruled : Bool → Bool → Bool → List Rule
  as_ruled known cell nodes =
      (11 unless not known) ∷ (13 unless cell) ∷ ((14 unless nodes) telling (lacking m key ∷ [])) ∷ []

module _ (m : Memory) (key : List ℕ) (frame : ℕ) (bytes : Bytes m.bytes) (b : Bytes key) (short : length key ≤ 256) where
  module _ (v : Layers) (t : IsTree m v) (absent : stored m key ≡ false) (room : has_room m key ≡ true) where
    -- after the put the key is stored
    pub there : stored (with_entry m key frame) key ≡ true
    there =
        let ((u, U, listed), c) = put-counted m v t bytes key b short frame absent room in
        stored-lookup (with_entry m key frame) u U.forest c key b
        ∙ ap is_some (ap (lookup bytewise key) listed ∙ lookup-insert bytewise-order key (listing-rises m v t.forest bytes) frame)

    -- and so many slots rest there
    pub rests-passed : rests_in (with_entry m key frame) key ≡ rests_passed m key (place m key) ∷ []
    rests-passed =
        let (S, x, X, size) = put-seen m v t.forest bytes key b short frame absent room in
        let n = count_of m + 1 in
        let S' = set-sound (with m key frame) n S in
        let X' = set-tree (with m key frame) n S x X in
        way-rests (with_entry m key frame) S' key b (place-way (with_entry m key frame) S' x X' key b) there X'.holds
        (λ j. omega (arith, X'.nodes j, ones_below-le (nodes_in (with_entry m key frame)) j))
        ∙ ap (λ (i : ℕ). i ∷ []) (sym size)

  -- what the put without the audit says and leaves, where the tests come out so
  abbrev lent_as : Bool → Bool → Bool → Did
  lent_as known cell nodes =
      let a = answered ((10 unless true) ∷ as_ruled m key known cell nodes) (rests_passed m key (place m key) ∷ []) [] in
      did a (put_leaves a m key frame)

  -- and what put does
  abbrev put_as : Bool → Bool → Bool → Did
  put_as known cell nodes =
      let a = answered ((7 unless true) ∷ (10 unless true) ∷ as_ruled m key known cell nodes) (rests_in (with_entry m key frame) key) [] in
      did a (put_leaves a m key frame)

  pub lent-is-put : is_tree m ≡ true → put_lent m key frame ≡ put_done m key frame
  unfolding put_done put_lent
  lent-is-put y =
      rw (le-leb (length key) 256 short, y, le-leb (get_or m.nodes 1 0) 255 (count-few m y))
      (by (stored m key) refl (has_cell m) refl (has_nodes m key) refl)
    where
      by : (known : Bool) → stored m key ≡ known → (cell : Bool) → has_cell m ≡ cell → (nodes : Bool) → has_nodes m key ≡ nodes
          → lent_as known cell nodes ≡ put_as known cell nodes
      by true e cell f nodes g = refl
      by false e false f nodes g = refl
      by false e true f false g = refl
      by false e true f true g =
          let (v, t) = tree-found m (holds y) in
          ap (λ (told : List ℕ). did (accepted told) (with_entry m key frame)) (sym (rests-passed v t e (rw (f, g))))
