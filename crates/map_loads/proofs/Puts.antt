-- After a clear memory is a tree and stays one, so that no put needs the audit. Assumes nothing.
use mathlib.Core.Path.{◌≡◌, refl, ap, ◌∙◌}
use mathlib.Core.Bool.{Bool, true, false, cond}
use mathlib.Core.List.{List, [], ◌∷◌, foldl}
use Prim.Native.Nat.{ℕ, ◌≤◌}
use lib.Dec.{eqb}
use lib.ListN.{length}
use Rattle.order.specs.Bytes.{Bytes}
use Rattle.order.specs.Map.{Map, All, a[], ◌a∷◌}
use Rattle.arena.specs.Memory.{Memory, Did}
use Rattle.forest.specs.Walk.{is_tree}
use Rattle.model.specs.Calls.{put_done, put_lent}
use Rattle.as_map.proofs.Tallied.{lent-is-put}
use Rattle.as_map.specs.Calls.{put}
use Rattle.as_map.proofs.Says.{accepted}
use Rattle.as_map.proofs.Leaves.{Lists, leaves}
use Rattle.map_loads.specs.Loads.{and_put, puts_after, Fileable}

-- memory is a tree whose keys are bytes
abbrev pub Good : Memory → Type 0
Good m = (xs : Map) × Lists m xs

pub good-tree : (m : Memory) → Good m → is_tree m ≡ true
good-tree m (xs, (v, t, b, e)) = accepted m v t b

good-bytes : (m : Memory) → Good m → Bytes m.bytes
good-bytes m (xs, (v, t, b, e)) = b

-- a put leaves it so, accepted or refused
pub put-good : (m : Memory) → Good m → (key : List ℕ) → Bytes key → (x : ℕ) → Good (put_done m key x).after
put-good m (xs, (v, t, b, e)) key k x = (_, leaves m v t b (put key x) k)

module _ (d : Did) (g : Good d.after) (e : List ℕ × ℕ) (f : Fileable e) where
  pub and-good : Good (and_put put_done d e).after
  unfolding and_put
  and-good = by (eqb d.answer.number 0)
    where
      by : (b : Bool) → Good (cond b (put_done d.after e.0 e.1) d).after
      by true = put-good d.after g e.0 f.bytes e.1
      by false = g

  -- with the audit or without
  pub and_same : and_put put_lent d e ≡ and_put put_done d e
  unfolding and_put
  and_same = rw (lent-is-put d.after e.0 e.1 (good-bytes d.after g) f.bytes f.short (good-tree d.after g))

-- any number of puts
pub puts-same : (d : Did) → Good d.after → {es : Map} → All Fileable es → puts_after put_lent d es ≡ puts_after put_done d es
puts-same d g a[] = refl
puts-same d g (◌a∷◌ {x = e} {xs = es} f fs) =
    ap (λ (c : Did). foldl (and_put put_lent) c es) (and_same d g e f) ∙ puts-same (and_put put_done d e) (and-good d g e f) fs

pub puts-good : (d : Did) → Good d.after → {es : Map} → All Fileable es → Good (puts_after put_done d es).after
puts-good d g a[] = g
puts-good d g (◌a∷◌ {x = e} f fs) = puts-good (and_put put_done d e) (and-good d g e f) fs
