-- The card (document 02, A3): what saving an index and reading an image mean.
--
-- `image_of es` is the image of entries in key order (crates/card_stream/specs: the stream of entries, its blocks, the image), `parse` the
-- reader of a stream, as a definition. `save_done m out` is what `save` leaves in the buffer and answers, `load_done m image` what `load`
-- answers and leaves in lent memory, by what their contracts promise (crates/card_said/specs). When each is refused stands in Demand1.antt,
-- and as what calls a load counts in Demand2.antt.
use Rattle.std.specs.Prelude.{ℕ, ◌*◌, ◌^◌, ◌<◌, min, ◌≡◌, refl, ◌≢◌, true, List, [], ◌∷◌, ◌++◌, length, get_or, take}
use Rattle.refusal.specs.Answer.{refused_telling}
use Rattle.order.specs.Bytes.{Bytes}
use Rattle.arena.specs.Parts.{part, zeros}
use Rattle.arena.specs.Memory.{Memory, right_lengths, did}
use Rattle.forest.specs.IsTree.{Layers, IsTree, listing}
use Rattle.card_block.specs.Words.{little_endian, low_first, words_of}
use Rattle.card_block.specs.Check.{through, check_of, block_of, good_block}
use Rattle.card_block.proofs.Written as block
use Rattle.card_stream.specs.Stream.{entry_bytes, unfilled, lacking, stream_of}
use Rattle.card_stream.specs.Image.{blocks_of, blocks_for, image_of}
use Rattle.card_stream.specs.Payload.{changed}
use Rattle.card_said.specs.Save.{entries_in, save_done}
use Rattle.card_said.specs.Load.{whole_blocks, blocks_in, bad_block, checks_good, load_done, WasWritten, ReachesEntries}
use Rattle.card_said.proofs.Written as card
use Rattle.card_said.proofs.Words as words

-- A block's check is good exactly where the block is as the writer makes it: 504 bytes, then a and b of them.
pub block-as-written : (number : ℕ) (held : List ℕ) → Bytes held → length held ≡ 512
    → (good_block number held ≡ true → held ≡ block_of number held) × (held ≡ block_of number held → good_block number held ≡ true)
block-as-written number held b l = (block.good-written number held b l, block.made-good number held l)

-- ---- reading what was written

module _ (m : Memory) (v : Layers) (t : IsTree m v) where
  -- What a tree saves are the entries of its listing, each once, in key order.
  pub saves-the-listing : entries_in m ≡ listing m v
  saves-the-listing = card.saved-listed m v t

  -- Any tree, saved into any buffer with room, and read into any lent memory of right lengths: nothing but room can be refused, and
  -- where the puts find room, the listing is the same, entry for entry. (What stands in lent words are numbers below 2^64.)
  pub saved-then-loaded : Bytes m.bytes → ((i : ℕ) → get_or m.cells i 0 < 2 ^ 64) → (out : List ℕ) → (save_done m out).1.number ≡ 0
      → (n : Memory) → right_lengths (length n.nodes) (length n.cells) (length n.bytes) ≡ true
      → (let image = take (512 * blocks_for (entries_in m)) (save_done m out).0 in
      ReachesEntries (load_done n image)
      × ((load_done n image).answer.number ≡ 0 → (w : Layers) → IsTree (load_done n image).after w
      → listing (load_done n image).after w ≡ listing m v))
  saved-then-loaded b low out z n f = card.saved-then-loaded m v t b low out z n f

-- ---- what is accepted is what a writer writes

module _ (m : Memory) (image : List ℕ) (b : Bytes image) where
  -- On lent memory of right lengths an image comes to its entries exactly where it is the image of entries that an index can hold: at
  -- most 255, keys of at most 256 bytes that rise, frame numbers below 2^64. Anything else is refused with 15, 16 or 17.
  pub read-exactly : right_lengths (length m.nodes) (length m.cells) (length m.bytes) ≡ true
      → (ReachesEntries (load_done m image) → WasWritten image) × (WasWritten image → ReachesEntries (load_done m image))
  read-exactly f = (card.reached-written m image b, card.written-reached m f image)

  -- Accepted, it is the image of the entries that it leaves.
  pub accepted-image : (load_done m image).answer.number ≡ 0 → (v : Layers) → IsTree (load_done m image).after v
      → image ≡ image_of (listing (load_done m image).after v)
  accepted-image z v t = card.accepted-image m image b z v t

-- ---- a change confined to one aligned word

-- Word k of block i, a and b of the block among its 128 words, was changed to four other bytes.
module _ (m : Memory) (f : right_lengths (length m.nodes) (length m.cells) (length m.bytes) ≡ true) (image : List ℕ) (i k : ℕ)
    (word : List ℕ) (bi : Bytes image) (bw : Bytes word) (w : whole_blocks (length image) ≡ true) (h : i < blocks_in image) (g : k < 128)
    (l : length word ≡ 4) (d : changed image i k word ≢ image) where
  -- Where the block was good before, the image is refused with 16, with that block, or with one before it that was bad already.
  pub word-changed : good_block i (part image (512 * i) 512) ≡ true
      → load_done m (changed image i k word) ≡ did (refused_telling 16 (min i (bad_block image) ∷ []) []) m
  word-changed good = words.word-found m f image i k word bi bw w h g l d good

  -- Where every block was good, as in each image that was written, with that block.
  pub word-changed-in-good : checks_good image ≡ true → load_done m (changed image i k word) ≡ did (refused_telling 16 (i ∷ []) []) m
  word-changed-in-good good = words.word-found-there m f image i k word bi bw w h g l d good

-- ---- two examples with bytes; many more are recorded in crates/replay_card

-- The stream of `61` with frame 7, before its fill: one entry, the length 1, the key, the frame.
pub one_entry : unfilled ((0x61 ∷ [], 7) ∷ []) ≡ 1 ∷ 0 ∷ 0 ∷ 0 ∷ 1 ∷ 0 ∷ 0x61 ∷ 7 ∷ 0 ∷ 0 ∷ 0 ∷ 0 ∷ 0 ∷ 0 ∷ 0 ∷ []
unfolding unfilled entry_bytes low_first
one_entry = refl

-- An empty index is one block: 504 zeros; a is 1 behind each of the 126 words, and so b is 126.
pub no-entry : image_of [] ≡ zeros 504 ++ (1 ∷ 0 ∷ 0 ∷ 0 ∷ 126 ∷ 0 ∷ 0 ∷ 0 ∷ [])
unfolding image_of blocks_for blocks_of stream_of unfilled lacking low_first block_of check_of through words_of little_endian part
no-entry = refl
