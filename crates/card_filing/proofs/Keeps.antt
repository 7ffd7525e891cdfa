-- The machine that puts entries beside the machine that keeps them: the index is that of the entries kept, put one after the other.
-- Assumes nothing.
use Prim.Native.Nat.{ℕ, ◌-◌}
use mathlib.Core.Path.{◌≡◌, refl, sym, ap, ◌∙◌}
use mathlib.Core.Bool.{Bool, true, false, cond}
use mathlib.Core.List.{List, [], ◌∷◌, ◌++◌, foldl, foldl-append}
use lib.ListN.{take}
use Rattle.order.specs.Map.{Map}
use Rattle.arena.specs.Memory.{Did}
use Rattle.card_stream.specs.Cuts.{arrived}
use Rattle.card_fields.specs.Step.{State, step}
use Rattle.card_fields.specs.View.{gained, step_keeping}
use Rattle.model.specs.Calls.{put_lent}
use Rattle.map_loads.specs.Loads.{and_put, puts_after}
use Rattle.card_filing.specs.Filing.{Both, entered, step_putting}

-- the index with these entries
abbrev pub with_all : Did → State × Map → Both
with_all d p = (p.0, puts_after put_lent d p.1)

one_kept : (d : Did) (t : State) (es : Map) → entered t.1 t.2 (puts_after put_lent d es) ≡ puts_after put_lent d (gained t es)
unfolding entered gained
one_kept d t es = by t.2.got
  where
    by : (b : Bool)
        → cond b (and_put put_lent (puts_after put_lent d es) (take (t.2.last - 1) t.1, t.2.frame)) (puts_after put_lent d es)
        ≡ puts_after put_lent d (cond b (es ++ (take (t.2.last - 1) t.1, t.2.frame) ∷ []) es)
    by true = sym (foldl-append (and_put put_lent) d es ((take (t.2.last - 1) t.1, t.2.frame) ∷ []))
    by false = refl

pub all-kept : (d : Did) (bytes : List ℕ) (p : State × Map)
    → arrived step_putting (with_all d p) bytes ≡ with_all d (arrived step_keeping p bytes)
unfolding step_putting
all-kept d [] p = refl
all-kept d (x ∷ bytes) p =
    ap (λ (c : Did). arrived step_putting (step p.0 x, c) bytes) (one_kept d (step p.0 x) p.1)
    ∙ all-kept d bytes (step_keeping p x)
