-- An internode with one more ikey and child.
use Rattle.std.specs.Prelude.{ℕ, ◌+◌, List, ◌++◌, take, drop}
use Rattle.internode_places.specs.declared.Internode.{Internode}
use Rattle.internode_places.specs.Lists.{inserted_at}

-- v goes to place p among the first n, which move up over what stood at n; every later place stays
unfoldable pub inserted_among : ℕ → ℕ → ℕ → List ℕ → List ℕ
inserted_among p n v xs = inserted_at p v (take n xs) ++ drop (n + 1) xs

-- key p and child p+1 are written, the later ones in use move up one place, one more ikey is in use; nothing else changes
abbrev pub inserted : Internode → ℕ → ℕ → ℕ → Internode
inserted x p ikey child =
    record {
      n = x.n + 1;
      ikeys = inserted_among p x.n ikey x.ikeys;
      children = inserted_among (p + 1) (x.n + 1) child x.children;
    }
