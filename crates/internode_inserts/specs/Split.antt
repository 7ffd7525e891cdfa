-- A full internode with one key more: 8 keys left, the ninth goes up, 7 right; 9 children left, 8 right.
use Rattle.std.specs.Prelude.{ℕ, suc, ◌+◌, ◌-◌, List, ◌++◌, length, take, drop, get_or, replicate}
use Rattle.std.proofs.Math.Seq.{paste}
use Rattle.internode_places.specs.declared.Internode.{Internode}
use Rattle.internode_inserts.specs.declared.Split.{Split}
use Rattle.internode_places.specs.Lists.{inserted_at}

-- so many ikeys of a node from a place on, and the children right of them, go to a place of another; the rest of it stays
abbrev pub shifted : Internode → ℕ → Internode → ℕ → ℕ → Internode
shifted x p src at count =
    record {
      n = x.n;
      ikeys = paste x.ikeys p (drop at src.ikeys) count;
      children = paste x.children (p + 1) (drop (at + 1) src.children) count;
    }

-- the internode with these ikeys and children; places not in use are zero
abbrev pub node_of : List ℕ → List ℕ → Internode
node_of keys children =
    record {
      n = length keys;
      ikeys = keys ++ replicate (15 - length keys) 0;
      children = children ++ replicate (16 - length children) 0;
    }

-- so many keys left, the next goes up, the others right; the children between them stay beside their keys
abbrev pub cut_at : ℕ → List ℕ → List ℕ → Split
cut_at m keys children =
    record {
      left = node_of (take m keys) (take (suc m) children);
      up = get_or keys m 0;
      right = node_of (drop (suc m) keys) (drop (suc m) children);
    }

-- the sixteen ikeys of a full internode and one more, which goes to place p
abbrev pub keys_with : Internode → ℕ → ℕ → List ℕ
keys_with x p ikey = inserted_at p ikey x.ikeys

-- its seventeen children, the new one right of the new ikey
abbrev pub children_with : Internode → ℕ → ℕ → List ℕ
children_with x p child = inserted_at (p + 1) child x.children

-- what the split hands out
unfoldable pub split_of : Internode → ℕ → ℕ → ℕ → Split
split_of x p ikey child = cut_at 8 (keys_with x p ikey) (children_with x p child)
