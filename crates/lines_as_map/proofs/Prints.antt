-- `list` prints the map; every other command prints what the caller of the index hears, and leaves what the call leaves. Assumes nothing.
use Prim.Native.Nat.{ℕ}
use mathlib.Core.Path.{◌≡◌, refl, ap, ap₂, sym, ◌∙◌}
use mathlib.Core.Bool.{Bool, true, false, cond}
use mathlib.Core.List.{List, [], ◌∷◌, ◌++◌, map}
use lib.Dec.{eqb}
use lib.ListN.{get_or, length-map}
use Rattle.refusal.specs.Answer.{Answer}
use Rattle.arena.specs.Memory.{Memory}
use Rattle.bank.proofs.Tests.{is_true}
use Rattle.forest.specs.IsTree.{Layers, IsTree, listing}
use Rattle.forest.specs.Walk.{is_tree}
use Rattle.forest.proofs.Accepts.{tree-accepted}
use Rattle.model.specs.Calls.{put_done, find_said, removed, in_key_order}
use Rattle.views.proofs.Listed.{key_and_frame, cells-listed}
use Rattle.as_map.specs.Calls as calls
use Rattle.as_map.specs.Calls.{Heard, heard_of, heard}
use Rattle.page.specs.Shown.{header_line}
use Rattle.text.specs.Command.{put, find, del, list}
use Rattle.lines_said.specs.Said as answered
use Rattle.lines_said.specs.Said.{printed, left, listed, unless_refused, entry_text, entry_texts}
use Rattle.lines_as_map.specs.Text.{entry_lines, map_text, shown}

-- ---- the listing

texts-map : (m : Memory) (cs : List ℕ) → entry_texts m cs ≡ entry_lines (map (key_and_frame m.cells m.bytes) cs)
unfolding entry_texts entry_lines
texts-map m [] = refl
texts-map m (c ∷ cs) = ap (λ (l : List ℕ). entry_text m c ++ l) (texts-map m cs)

listing-text : (m : Memory) → answered.listing m ≡ map_text (map (key_and_frame m.cells m.bytes) (in_key_order m))
unfolding answered.listing map_text
listing-text m =
    ap₂ ◌++◌ (ap header_line (sym (length-map (in_key_order m) (key_and_frame m.cells m.bytes)))) (texts-map m (in_key_order m))

-- on any lent memory that is a tree, `list` prints its listing
pub list-prints : (m : Memory) (v : Layers) → IsTree m v → printed m list ≡ map_text (listing m v)
unfolding printed listed
list-prints m v t =
    rw (is_true (is_tree m) (tree-accepted m v t)) (listing-text m ∙ ap map_text (cells-listed m v t.forest))

pub list-leaves : (m : Memory) → left m list ≡ m
unfolding left
list-leaves m = refl

-- ---- the other commands

shown-unless : (a : Answer) (tell : List ℕ → Heard) → shown (heard_of a tell) ≡ unless_refused a (shown (tell a.values))
unfolding unless_refused
shown-unless a tell = by-test (eqb a.number 0)
  where
    by-test : (b : Bool) → shown (cond b (tell a.values) (calls.refusal a.number a.values))
        ≡ cond b (shown (tell a.values)) (shown (calls.refusal a.number a.values))
    by-test true = refl
    by-test false = refl

module _ (m : Memory) (key : List ℕ) where
  pub put-prints : (x : ℕ) → printed m (put key x) ≡ shown (heard m (calls.put key x))
  unfolding printed
  put-prints x = sym (shown-unless (put_done m key x).answer (λ values. calls.done))

  pub put-leaves : (x : ℕ) → left m (put key x) ≡ calls.left m (calls.put key x)
  unfolding left
  put-leaves x = refl

  pub find-prints : printed m (find key) ≡ shown (heard m (calls.find key))
  unfolding printed
  find-prints = sym (shown-unless (find_said m key) (λ values. calls.frame (get_or values 0 0)))

  pub find-leaves : left m (find key) ≡ calls.left m (calls.find key)
  unfolding left
  find-leaves = refl

  pub del-prints : printed m (del key) ≡ shown (heard m (calls.remove key))
  unfolding printed
  del-prints = sym (shown-unless (removed m key).answer (λ values. calls.done))

  pub del-leaves : left m (del key) ≡ calls.left m (calls.remove key)
  unfolding left
  del-leaves = refl
