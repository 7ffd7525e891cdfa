-- One law for each way in which find and k-th return. Assumes nothing.
use mathlib.Core.Path.{◌≡◌, refl, sym, ◌∙◌}
use mathlib.Core.Bool.{Bool, true, false, cond}
use mathlib.Core.List.{List, [], ◌∷◌}
use Prim.Native.Nat.{ℕ, ◌-◌, ◌≤◌, ◌<◌}
use native.Mathlib.Omega.{arith}
use denote.Enum.Declared.{tag_of}
use types.Run.{OneOf}
use borrow.Author.Tests.{le-leb, lt-leb}
use lib.Dec.{ltb}
use lib.ListN.{length, get_or}
use Rattle.std.specs.Prelude.{Ok}
use Rattle.refusal.specs.Answer.{accepted, refused}
use Rattle.refusal.specs.declared.Refusal.TheVariants as no
use Rattle.arena.specs.Layout.{frame_at}
use Rattle.arena.specs.Memory.{memory}
use Rattle.forest.specs.Walk.{is_tree}
use Rattle.model.specs.declared.Met.{Met}
use Rattle.model.specs.declared.Met.TheVariants.{Stored}
use Rattle.model.specs.declared.Reached.{Reached}
use Rattle.model.specs.declared.Reached.TheVariants.{Here, Beyond}
use Rattle.model.specs.Meet.{meet}
use Rattle.model.specs.Listed.{cells_of_layer, reach}
use Rattle.model.specs.Calls.{find_said, kth_said}
use Rattle.model.specs.contracts.Met as met
use Rattle.index_questions.specs.declared.Listed.{Listed}
use Rattle.index_questions.specs.Answers.{said_listed, listed_at}
use Rattle.index_questions.proofs.Lent.{lents, tag-other}

-- ---- find

module _ (nodes cells bytes key : List ℕ) where
  pub find-long : 256 < length key → refused no.Key [] ≡ find_said (memory nodes cells bytes) key
  unfolding find_said
  find-long h = rw (lt-leb (length key) 256 h)

  module _ (s : length key ≤ 256) {t : Bool} (e : t ≡ is_tree (memory nodes cells bytes)) where
    pub find-unfit : t ≡ false → refused no.Memory [] ≡ find_said (memory nodes cells bytes) key
    unfolding find_said
    find-unfit f = rw (le-leb (length key) 256 s, ← e, f)

    module _ (y : t ≡ true) (r : Met) (m : r ≡ meet 31 (memory nodes cells bytes) key 0 0 (get_or nodes 0 0)) where
      pub find_none : OneOf (1 ∷ 2 ∷ []) (tag_of met.the_type r) → refused no.Missing [] ≡ find_said (memory nodes cells bytes) key
      unfolding find_said
      find_none h = rw (le-leb (length key) 256 s, ← e, y, ← m, tag-other r h)

      pub find-frame : {leaf p c frame : ℕ} → r ≡ Stored leaf p c → frame ≡ frame_at cells c
          → accepted (frame ∷ []) ≡ find_said (memory nodes cells bytes) key
      unfolding find_said
      find-frame q f = rw (le-leb (length key) 256 s, ← e, y, ← m, q, f)

-- ---- k-th

module _ (nodes cells bytes : List ℕ) (k : ℕ) {t : Bool} (e : t ≡ is_tree (memory nodes cells bytes)) where
  pub kth-unfit : t ≡ false → refused no.Memory [] ≡ kth_said (memory nodes cells bytes) k
  unfolding kth_said
  kth-unfit f = rw (← e, f)

  module _ (y : t ≡ true) {r : Reached} (w : r ≡ reach k (cells_of_layer 31 nodes (get_or nodes 0 0))) where
    abbrev all : List ℕ
    all = cells_of_layer 31 nodes (get_or nodes 0 0)

    here : {c : ℕ} → r ≡ Here c → (ltb k (length all) ≡ true) × (c ≡ get_or all k 0)
    unfolding reach
    here {c} h = by (ltb k (length all)) (sym h ∙ w)
      where
        by : (b : Bool) → Here c ≡ cond b (Here (get_or all k 0)) (Beyond (k - length all)) → (b ≡ true) × (c ≡ get_or all k 0)
        by true q = (refl, cc)
        by false q = absurd (let z : ◌≡◌ {A = ℕ} 0 1 = cc in omega arith)

    beyond : {more : ℕ} → r ≡ Beyond more → ltb k (length all) ≡ false
    unfolding reach
    beyond {more} h = by (ltb k (length all)) (sym h ∙ w)
      where
        by : (b : Bool) → Beyond more ≡ cond b (Here (get_or all k 0)) (Beyond (k - length all)) → b ≡ false
        by true q = absurd (let z : ◌≡◌ {A = ℕ} 0 1 = cc in omega arith)
        by false q = refl

    pub kth-here : {c : ℕ} → r ≡ Here c → {l : Listed} → l ≡ listed_at cells c
        → said_listed (Ok l) ≡ kth_said (memory nodes cells bytes) k
    unfolding kth_said
    kth-here h d = let (b, x) = here h in rw (← e, y, b, ← x, d)

    pub kth-beyond : {more : ℕ} → r ≡ Beyond more → refused no.Missing [] ≡ kth_said (memory nodes cells bytes) k
    unfolding kth_said
    kth-beyond h = rw (← e, y, beyond h)

pub ruleset answering = (lents, find-long, find-unfit, find_none, find-frame, kth-unfit, kth-here, kth-beyond)
