-- Calls one after the other, by induction: from memory that lists a map they hear what the map says, and leave memory that lists what
-- the map leaves.
use mathlib.Core.Path.{◌≡◌, refl, sym, ap, ap₂, ◌∙◌, subst}
use mathlib.Core.Logic.{◌≢◌}
use mathlib.Core.Bool.{Bool, true, false, cond}
use mathlib.Core.List.{List, [], ◌∷◌}
use mathlib.Core.Option.{Option, none, some}
use Prim.Native.Nat.{ℕ}
use native.Mathlib.Omega.{arith}
use lib.Dec.{leb}
use lib.ListN.{length}
use Rattle.order.specs.Bytes.{bytewise}
use Rattle.order.specs.Map as order
use Rattle.order.specs.Map.{Map, All, a[], ◌a∷◌, lookup}
use Rattle.arena.specs.Memory.{Memory}
use Rattle.as_map.specs.Calls.{Call, clear, put, find, remove, kth, count, OfBytes, Heard, done, frame, entry, counted, refusal}
use Rattle.as_map.specs.Calls.{refused}
use Rattle.as_map.specs.Calls.{heard, left, left_after, answers, Room, is_cell_free, nodes_enough, nodes_lacking, room_for, rooms}
use Rattle.as_map.specs.Map.{whether, map_says, map_left, map_answers, map_after}
use Rattle.as_map.proofs.Says.{says}
use Rattle.as_map.proofs.Leaves.{Lists, leaves}

-- ---- one call

-- it hears what the map says
pub one-heard : (m : Memory) (xs : Map) → Lists m xs → (call : Call) → OfBytes call → heard m call ≡ map_says (room_for m call) xs call
one-heard m xs (v, t, bytes, e) call b = says m v t bytes call b ∙ ap (λ (ys : Map). map_says (room_for m call) ys call) e

-- and leaves what the map does
pub one_left : (m : Memory) (xs : Map) → Lists m xs → (call : Call) → OfBytes call
    → Lists (left m call) (map_left (room_for m call) xs call)
one_left m xs (v, t, bytes, e) call b =
    subst (λ (ys : Map). Lists (left m call) (map_left (room_for m call) ys call)) e (leaves m v t bytes call b)

-- ---- one call after the other

pub all-heard : (m : Memory) (xs : Map) → Lists m xs → {calls : List Call} → All OfBytes calls
    → answers m calls ≡ map_answers (rooms m calls) xs calls
all-heard m xs l a[] = refl
all-heard m xs l (◌a∷◌ {x = call} b rest) =
    ap₂ (λ (h : Heard) (hs : List Heard). h ∷ hs) (one-heard m xs l call b)
    (all-heard (left m call) (map_left (room_for m call) xs call) (one_left m xs l call b) rest)

pub all_left : (m : Memory) (xs : Map) → Lists m xs → {calls : List Call} → All OfBytes calls
    → Lists (left_after m calls) (map_after (rooms m calls) xs calls)
all_left m xs l a[] = l
all_left m xs l (◌a∷◌ {x = call} b rest) =
    all_left (left m call) (map_left (room_for m call) xs call) (one_left m xs l call b) rest

-- ---- a sorted map never says 10

-- the number of a refusal, else 0
abbrev pub refusal_of : Heard → ℕ
refusal_of done = 0
refusal_of (frame x) = 0
refusal_of (entry key x) = 0
refusal_of (counted n) = 0
refusal_of (refusal n told) = n

-- a caller does not hear 10, whatever were told with it
abbrev pub Not10 : Heard → Type 0
Not10 h = (told : List ℕ) → h ≢ refusal 10 told

not-10 : {h : Heard} (n : ℕ) → refusal_of h ≡ n → n ≢ 10 → Not10 h
not-10 n e d told q = d (sym e ∙ ap refusal_of q)

says-not-10 : (room : Room) (xs : Map) (call : Call) → Not10 (map_says room xs call)
says-not-10 room xs clear = not-10 0 refl (λ e. omega arith)
says-not-10 room xs (put key x) = go (leb (length key) 256) (lookup bytewise key xs) (is_cell_free room) (nodes_enough room) (nodes_lacking room)
  where
    go : (short : Bool) (found : Option ℕ) (cell nodes : Bool) (n : ℕ)
        → Not10 (cond short (whether (cond cell (cond nodes done (refusal 14 (n ∷ []))) (refused 13)) (λ y. refused 11) found) (refused 7))
    go true none true true n = not-10 0 refl (λ e. omega arith)
    go true none true false n = not-10 14 refl (λ e. omega arith)
    go true none false nodes n = not-10 13 refl (λ e. omega arith)
    go true (some y) cell nodes n = not-10 11 refl (λ e. omega arith)
    go false found cell nodes n = not-10 7 refl (λ e. omega arith)
says-not-10 room xs (find key) = go (leb (length key) 256) (lookup bytewise key xs)
  where
    go : (short : Bool) (found : Option ℕ) → Not10 (cond short (whether (refused 12) frame found) (refused 7))
    go true none = not-10 12 refl (λ e. omega arith)
    go true (some y) = not-10 0 refl (λ e. omega arith)
    go false found = not-10 7 refl (λ e. omega arith)
says-not-10 room xs (remove key) = go (leb (length key) 256) (lookup bytewise key xs)
  where
    go : (short : Bool) (found : Option ℕ) → Not10 (cond short (whether (refused 12) (λ y. done) found) (refused 7))
    go true none = not-10 12 refl (λ e. omega arith)
    go true (some y) = not-10 0 refl (λ e. omega arith)
    go false found = not-10 7 refl (λ e. omega arith)
says-not-10 room xs (kth k) = go (order.kth k xs)
  where
    go : (o : Option (List ℕ × ℕ)) → Not10 (whether (refused 12) (λ e. entry e.0 e.1) o)
    go none = not-10 12 refl (λ e. omega arith)
    go (some e) = not-10 0 refl (λ e. omega arith)
says-not-10 room xs count = not-10 0 refl (λ e. omega arith)

pub all-not-10 : (rooms : List Room) (xs : Map) (calls : List Call) → All Not10 (map_answers rooms xs calls)
all-not-10 rooms xs [] = a[]
all-not-10 [] xs (call ∷ calls) = a[]
all-not-10 (room ∷ rooms) xs (call ∷ calls) = says-not-10 room xs call a∷ all-not-10 rooms (map_left room xs call) calls
