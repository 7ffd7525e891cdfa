-- How a full node is split: document 01's two sentences, of the definitions by which a put writes the halves (crates/model/specs).
use Rattle.std.specs.Prelude.{ℕ, ◌≡◌, true, List, length, get_or, take, drop}
use Rattle.std.proofs.Math.Path.{refl}
use Rattle.internode.specs.Split.{node_of, keys_with, children_with, split_of}
use Rattle.leaf_entries.specs.declared.Entry.{Entry}
use Rattle.leaf.specs.Leaf.{rising}
use Rattle.leaf.specs.Cut.{IsCut, ikey_of, cut_of}
use Rattle.leaf.proofs.Cuts.{cut-is}
use Rattle.arena.specs.Layout.{put_leaf}
use Rattle.model.specs.declared.Grown.TheVariants.{Two}
use Rattle.model.specs.Leaves.{fresh_node, leaf_with, leaf_split}
use Rattle.model.specs.Internodes.{internode_in, internode_put, internode_split}

module _ (nodes : List ℕ) (count k : ℕ) where
  -- the lowest free node
  abbrev fresh : ℕ
  fresh = fresh_node nodes count

  -- Sixteen entries in order are cut between two different ikeys, nearest to the middle, on a tie the lower (`IsCut`). The left half keeps
  -- the number of the leaf, the right half takes the lowest free one, and its first ikey goes up with that number.
  pub full-leaf-splits : (es : List Entry) → rising es ≡ true → length es ≡ 16
      → (c : ℕ) × IsCut es c
      × (leaf_split nodes count k es
      ≡ (put_leaf (put_leaf nodes k (leaf_with (take c es))) fresh (leaf_with (drop c es)), Two (ikey_of es c) fresh))
  unfolding leaf_split
  full-leaf-splits es r l = (cut_of es, cut-is es r l, refl)

  module _ (p ikey child : ℕ) where
    -- the sixteen ikeys of a full internode and the new one, in order
    abbrev keys : List ℕ
    keys = keys_with (internode_in nodes k) p ikey

    -- its seventeen children, the new one right of its ikey
    abbrev children : List ℕ
    children = children_with (internode_in nodes k) p child

    -- Of sixteen ikeys eight stay left with nine children, the ninth goes up, and seven with eight children go right. The left half keeps
    -- the number of the internode, and the right half takes the lowest free one.
    pub full-internode-splits : internode_split nodes count k p ikey child
        ≡ (
          internode_put (internode_put nodes k (node_of (take 8 keys) (take 9 children))) fresh (node_of (drop 9 keys) (drop 9 children)),
          Two (get_or keys 8 0) fresh,
        )
    unfolding internode_split split_of
    full-internode-splits = refl
