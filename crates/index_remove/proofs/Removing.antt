-- One law for each way in which remove returns. Assumes nothing.
use mathlib.Core.Path.{◌≡◌}
use mathlib.Core.Bool.{Bool, true, false}
use mathlib.Core.List.{List, [], ◌∷◌}
use Prim.Native.Nat.{ℕ, ◌-◌, ◌≤◌, ◌<◌}
use denote.Enum.Declared.{tag_of}
use types.Run.{OneOf}
use borrow.Author.Tests.{le-leb, lt-leb}
use lib.ListN.{length, get_or, set}
use Rattle.refusal.specs.Answer.{accepted, refused}
use Rattle.refusal.specs.declared.Refusal.TheVariants as no
use Rattle.arena.specs.Layout.{freed_cell, freed_key}
use Rattle.arena.specs.Memory.{memory, did}
use Rattle.forest.specs.Walk.{is_tree}
use Rattle.model.specs.declared.Met.{Met}
use Rattle.model.specs.declared.Met.TheVariants.{Stored}
use Rattle.model.specs.Meet.{meet}
use Rattle.model.specs.Leaves.{entry_taken}
use Rattle.model.specs.GivenBack.{all_given_back}
use Rattle.model.specs.Calls.{removed}
use Rattle.model.specs.contracts.Met as met
use Rattle.index_remove.proofs.Lent.{tag-other}

-- the entry goes, and one less is counted
pub take_less : (nodes : List ℕ) (leaf p : ℕ) {less : ℕ} {n1 n2 : List ℕ} → less ≡ get_or nodes 1 0 - 1 → n1 ≡ entry_taken nodes leaf p
    → n2 ≡ set n1 1 less → n2 ≡ set (entry_taken nodes leaf p) 1 (get_or nodes 1 0 - 1)
take_less nodes leaf p e en f = rw (f, en, e)

module _ (nodes cells bytes key : List ℕ) where
  pub remove-long : 256 < length key → did (refused no.Key []) (memory nodes cells bytes) ≡ removed (memory nodes cells bytes) key
  unfolding removed
  remove-long h = rw (lt-leb (length key) 256 h)

  module _ (s : length key ≤ 256) {t : Bool} (e : t ≡ is_tree (memory nodes cells bytes)) where
    pub remove-unfit : t ≡ false → did (refused no.Memory []) (memory nodes cells bytes) ≡ removed (memory nodes cells bytes) key
    unfolding removed
    remove-unfit f = rw (le-leb (length key) 256 s, ← e, f)

    module _ (y : t ≡ true) (r : Met) (m : r ≡ meet 31 (memory nodes cells bytes) key 0 0 (get_or nodes 0 0)) where
      pub remove-none : OneOf (1 ∷ 2 ∷ []) (tag_of met.the_type r)
          → did (refused no.Missing []) (memory nodes cells bytes) ≡ removed (memory nodes cells bytes) key
      unfolding removed
      remove-none h = rw (le-leb (length key) 256 s, ← e, y, ← m, tag-other r h)

      module _ {leaf p c : ℕ} (q : r ≡ Stored leaf p c) where
        pub remove-done : {n1 n2 c1 b1 : List ℕ} → n1 ≡ set (entry_taken nodes leaf p) 1 (get_or nodes 1 0 - 1) → c1 ≡ freed_cell cells c
            → b1 ≡ freed_key bytes c → memory n2 c1 b1 ≡ all_given_back 31 (memory n1 c1 b1) key
            → did (accepted []) (memory n2 c1 b1) ≡ removed (memory nodes cells bytes) key
        unfolding removed
        remove-done en ec eb back = rw (le-leb (length key) 256 s, ← e, y, ← m, q, ← en, ← ec, ← eb, ← back)
