-- `store::inside::needed` meets its contract. Assumes nothing.
use native.Mathlib.Omega.{arith}
use Rattle.seek.proofs.Seeks.{conflict-within, missing-within}
use Rattle.store.proofs.Counting.{counting}
use Rattle.store.proofs.inside.needed.Goals as goal

pub overflow_add-links : goal.overflow_add-links
overflow_add-links c =
    omega (
      arith,
      (conflict-within _ _ c.requires.place-within
          c.in-Conflict.is).2,
    )

pub layers-requires : goal.layers-requires
layers-requires c =
    omega (
      arith,
      (conflict-within _ _ c.requires.place-within
          c.in-Conflict.is).2,
    )

pub overflow_mul-links : goal.overflow_mul-links
overflow_mul-links c =
    omega (
      arith,
      missing-within _ _ c.requires.place-within
          c.in-Missing.is,
    )

pub returns-in-Conflict : goal.returns-in-Conflict
returns-in-Conflict c = search counting

pub returns-in-Missing : goal.returns-in-Missing
returns-in-Missing c = search counting
