-- The words of an entry laid over each other: 0 where each of them is. Assumes nothing.
use mathlib.Core.Path.{◌≡◌, refl, ap, ◌∙◌}
use mathlib.Core.Bool.{Bool, true, false, ◌&&◌}
use lib.Dec.{eqb}
use lib.Bits.{bit_or}
use Rattle.leaf_entries.specs.declared.Entry.{Entry}
use Rattle.forest.specs.Nodes.{is_zero}
use Rattle.zeros.proofs.Zeros.{or-none}

pub entry-over : (e : Entry) → eqb (bit_or (bit_or e.ikey e.class) e.at) 0 ≡ is_zero e
entry-over e =
    or-none (bit_or e.ikey e.class) e.at
    ∙ ap (λ (x : Bool). x && eqb e.at 0) (or-none e.ikey e.class)
    ∙ grouped (eqb e.ikey 0)
  where
    grouped : (x : Bool) → ((x && eqb e.class 0) && eqb e.at 0) ≡ (x && (eqb e.class 0 && eqb e.at 0))
    grouped true = refl
    grouped false = refl
