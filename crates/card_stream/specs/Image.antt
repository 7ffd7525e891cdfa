-- The image of a stream, and of entries: blocks one after the other.
use Rattle.std.specs.Prelude.{ℕ, zero, suc, ◌+◌, ◌*◌, ◌/◌, List, [], ◌++◌, length}
use Rattle.order.specs.Map.{Map}
use Rattle.lent_words.specs.Parts.{part}
use Rattle.card_block.specs.Check.{block_of}
use Rattle.card_stream.specs.Stream.{unfilled, stream_of}

-- the 504 bytes of a stream that block `number` holds
abbrev pub held_by : ℕ → List ℕ → List ℕ
held_by number stream = part stream (504 * number) 504

-- the first n blocks of a stream
unfoldable pub blocks_of : ℕ → List ℕ → List ℕ
blocks_of zero stream = []
blocks_of (suc n) stream = blocks_of n stream ++ block_of n (held_by n stream)

-- how many blocks hold the stream of these entries
unfoldable pub blocks_for : Map → ℕ
blocks_for entries = (length (unfilled entries) + 503) / 504

-- the image of entries: all blocks of their stream
unfoldable pub image_of : Map → List ℕ
image_of entries = blocks_of (blocks_for entries) (stream_of entries)
