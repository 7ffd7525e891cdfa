-- Where the writer stands in the stream, and what it has still to write.
use Rattle.std.specs.Prelude.{ℕ, zero, suc, ◌+◌, ◌-◌, min, ◌≤◌, ◌<◌, cond, List, [], ◌∷◌, ◌++◌, eqb, ltb, leb, drop, get_or}
use Rattle.card_block.specs.Words.{low_first}
use Rattle.card_stream.specs.Stream.{entry_bytes}
use Rattle.card_writer.specs.Listing.{Lent, entry_at}
use Rattle.card_writer.specs.declared.Cursor.{Cursor}

-- the pieces of a stream of n entries: piece 0 is their number, piece k + 1 is entry k
unfoldable pub piece : Lent → ℕ → ℕ → List ℕ
piece m n zero = low_first 4 n
piece m n (suc k) = entry_bytes (entry_at m k)

-- the size of a piece, by the lengths of the keys
unfoldable pub size_of : List ℕ → ℕ → ℕ
size_of lens p = cond (eqb p 0) 4 (10 + min (get_or lens (p - 1) 0) 256)

-- so many pieces from one on
unfoldable pub pieces_from : Lent → ℕ → ℕ → ℕ → List ℕ
pieces_from m n k zero = []
pieces_from m n k (suc c) = piece m n k ++ pieces_from m n (k + 1) c

-- what is still to be written of the n + 1 pieces; behind them there are zeros
unfoldable pub rest_of : Lent → ℕ → Cursor → List ℕ
rest_of m n c = drop c.at (pieces_from m n c.piece (n + 1 - c.piece))

-- the next place: in the same piece, or at the start of the next one; behind the last piece there is nowhere to go
unfoldable pub next_of : List ℕ → ℕ → Cursor → Cursor
next_of lens n c =
    cond (leb c.piece n)
    (cond (ltb (c.at + 1) (size_of lens c.piece))
    (record { piece = c.piece; at = c.at + 1 })
    (record { piece = c.piece + 1; at = 0 }))
    c

-- so many places further
unfoldable pub further : List ℕ → ℕ → ℕ → Cursor → Cursor
further lens n zero c = c
further lens n (suc j) c = further lens n j (next_of lens n c)

-- a cursor stands within a piece, or behind the last
pub record Placed (lens : List ℕ) (n : ℕ) (c : Cursor) : Type 0 where
  pub within : c.piece ≤ n + 1
  pub in_piece : c.at < size_of lens c.piece
  pub small : c.at < 266

-- the first bytes of a list, and zeros behind its end
unfoldable pub front : ℕ → List ℕ → List ℕ
front zero bytes = []
front (suc n) bytes = get_or bytes 0 0 ∷ front n (drop 1 bytes)
