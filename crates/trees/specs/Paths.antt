-- Keys below links. A path is the list of the ikeys of the links above, from the top down, each one higher than its eight bytes;
-- a key K below a path has those ikeys, and the layer there sees what is left of it behind them.
use Rattle.std.specs.Prelude.{List, [], ◌∷◌, ◌++◌, ◌≡◌, ℕ, suc, ◌*◌, length, drop}
use Rattle.order.specs.Bytes.{Bytes}
use Rattle.order.specs.Layer.{big_endian, class_of, ikey_at, class_at}
use Rattle.trees.specs.Nodes.{IkeyClass}

-- the ikey of the first eight bytes, plus 1
unfoldable pub raised_ikey : List ℕ → ℕ
raised_ikey K = suc (big_endian 8 K)

-- what is left of a key behind the links of a path: eight bytes less for each
unfoldable pub rest_below : List ℕ → List ℕ → List ℕ
rest_below [] K = K
rest_below (k ∷ ks) K = rest_below ks (drop 8 K)

-- the key has the ikeys of the path, and is longer at each of them
unfoldable pub BelowLinks : List ℕ → List ℕ → Type 0
BelowLinks [] K = Bytes K
BelowLinks (k ∷ ks) K = Bytes K × (raised_ikey K ≡ k) × (class_of (length K) ≡ 9) × BelowLinks ks (drop 8 K)

-- the ikey and class of a key in the layer below a path
unfoldable pub layer_key : List ℕ → List ℕ → IkeyClass
layer_key ks K = (raised_ikey (rest_below ks K), class_of (length (rest_below ks K)))

-- the path one layer down, behind the ikey of K
abbrev pub path_down : List ℕ → List ℕ → List ℕ
path_down K ks = ks ++ (layer_key ks K).0 ∷ []

-- the same by the offset in the key: below so many links
abbrev pub key_below : List ℕ → ℕ → IkeyClass
key_below K links = (suc (ikey_at K (8 * links)), class_at K (8 * links))
