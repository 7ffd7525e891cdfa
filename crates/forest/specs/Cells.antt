-- Cells in lent memory: what stands in one, and when it belongs to an entry.
use Rattle.std.specs.Prelude.{ℕ, ◌+◌, ◌-◌, ◌*◌, Bool, true, ◌&&◌, List, [], ◌∷◌, leb, ltb, eqb, length}
use Rattle.order.specs.Layer.{ikey_at, class_at}
use Rattle.arena.specs.Parts.{part}
use Rattle.arena.specs.Layout.{key_start, cell_at, bytes_at, mark_at, key_at}
use Rattle.forest.specs.Nodes.{all_zero}

-- a cell in use: a key of up to 256 bytes, and zeros past its end
unfoldable pub cell_right : List ℕ → List ℕ → ℕ → Bool
cell_right cells bytes c =
    leb 1 (mark_at cells c)
    && (leb (mark_at cells c) 257
    && all_zero (part bytes (key_start c + (mark_at cells c - 1)) (257 - mark_at cells c)))

-- a key has these ikeys in turn from an offset on, and goes on behind each
unfoldable pub under : List ℕ → ℕ → List ℕ → Bool
under key offset [] = true
under key offset (k ∷ ks) =
    eqb (ikey_at key offset) k && (ltb (offset + 8) (length key) && under key (offset + 8) ks)

-- a key that lies below these links, and has this ikey and this class at its own layer
unfoldable pub keyed : List ℕ → List ℕ → ℕ → ℕ → Bool
keyed key above ikey class =
    under key 0 above
    && (eqb (ikey_at key (8 * length above)) ikey && eqb (class_at key (8 * length above)) class)

-- cell c belongs to an entry of this ikey and class, below these links
unfoldable pub filed : List ℕ → List ℕ → List ℕ → ℕ → ℕ → ℕ → Bool
filed cells bytes above ikey class c =
    cell_right cells bytes c && keyed (key_at cells bytes c) above ikey class

-- a free cell: two zero words and 256 zero bytes
unfoldable pub is_cell_free : List ℕ → List ℕ → ℕ → Bool
is_cell_free cells bytes c = all_zero (cell_at cells c) && all_zero (bytes_at bytes c)
