-- What an insertion into an internode means: the lists of ikeys and of children after it. Assumes nothing.
use mathlib.Core.Path.{◌≡◌}
use mathlib.Core.Bool.{true}
use mathlib.Core.List.{List}
use Prim.Native.Nat.{ℕ, ◌+◌, ◌≤◌, ◌<◌}
use native.Mathlib.Omega.{arith}
use borrow.Author.Tests.{le-leb}
use lib.Dec.{T}
use lib.ListN.{length, get_or, take, drop}
use lib.Seq.{length-take-le, take_at, drop_at}
use Rattle.internode_places.specs.declared.Internode.{Internode}
use Rattle.internode_places.specs.Lists.{rising, inserted_at}
use Rattle.internode_places.specs.Node.{good, keys_of, children_of, insert_position}
use Rattle.internode_places.proofs.Whole.{Whole}
use Rattle.internode_places.proofs.Rising.{is_true}
use Rattle.internode_places.proofs.Inserts.{inserted-length}
use Rattle.internode_places.proofs.Judgement.{good-rising}
use Rattle.internode_places.proofs.Laws.{fresh-rises, position-most}
use Rattle.internode_inserts.specs.Insert.{inserted_among, inserted}

-- ---- an insertion is one in the list of ikeys and one in the list of children

among-front : (p n v : ℕ) (xs : List ℕ) → p ≤ n → n < length xs → take (n + 1) (inserted_among p n v xs) ≡ inserted_at p v (take n xs)
unfolding inserted_among
among-front p n v xs l h =
    let e : length (take n xs) ≡ n = length-take-le n xs (omega arith) in
    take_at (inserted_at p v (take n xs)) (drop (n + 1) xs) (n + 1) (omega (arith, inserted-length p v (take n xs) (omega arith)))

-- what stands beyond stays
pub among-rest : (p n v : ℕ) (xs : List ℕ) → p ≤ n → n < length xs → drop (n + 1) (inserted_among p n v xs) ≡ drop (n + 1) xs
unfolding inserted_among
among-rest p n v xs l h =
    let e : length (take n xs) ≡ n = length-take-le n xs (omega arith) in
    drop_at (inserted_at p v (take n xs)) (drop (n + 1) xs) (n + 1) (omega (arith, inserted-length p v (take n xs) (omega arith)))

module _ (x : Internode) (w : Whole x) (p ikey child : ℕ) (l : p ≤ x.n) (h : x.n < 15) where
  pub inserted-keys : keys_of (inserted x p ikey child) ≡ inserted_at p ikey (keys_of x)
  inserted-keys = among-front p x.n ikey x.ikeys l (omega (arith, w.ikeys-15))

  pub inserted-children : children_of (inserted x p ikey child) ≡ inserted_at (p + 1) child (children_of x)
  inserted-children = among-front (p + 1) (x.n + 1) child x.children (omega arith) (omega (arith, w.children-16))

  -- the node stays in order
  pub inserted-good : T (rising (inserted_at p ikey (keys_of x))) → good (inserted x p ikey child) ≡ true
  unfolding good
  inserted-good t =
      rw (le-leb (x.n + 1) 15 (omega arith), inserted-keys) (is_true (rising (inserted_at p ikey (keys_of x))) t)

-- an ikey that is not there goes in at its place
pub fresh-good : (x : Internode) (ikey child : ℕ) → Whole x → good x ≡ true → x.n < 15
    → ((k : ℕ) → k < length (keys_of x) → get_or (keys_of x) k 0 ≡ ikey → ⊥)
    → good (inserted x (insert_position x ikey) ikey child) ≡ true
fresh-good x ikey child w g h fresh =
    inserted-good x w (insert_position x ikey) ikey child (position-most x ikey) h (fresh-rises ikey (keys_of x) (good-rising x g) fresh)
