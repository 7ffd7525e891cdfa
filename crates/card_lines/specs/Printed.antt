-- What is printed of an image that is read, and of one that is saved.
use Rattle.std.specs.Prelude.{ℕ, ◌*◌, ◌≤◌, ◌≡◌, List, [], ◌∷◌, ◌++◌, length, take, get_or}
use Rattle.arena.specs.Memory.{Memory}
use Rattle.page.specs.Shown.{decimal}
use Rattle.page.specs.Page.{Typed}
use Rattle.lines_said.specs.Said.{unless_refused, listed}
use Rattle.card_said.specs.Load.{load_done}
use Rattle.card_said.specs.Save.{save_said, save_done}

-- what `list` prints of the index that an image leaves, or `refused N` with the number of the refusal
unfoldable pub image_listed : Memory → List ℕ → List ℕ
image_listed m image = unless_refused (load_done m image).answer (listed (load_done m image).after)

-- what stands behind the number of blocks
abbrev pub blocks_word : List ℕ
blocks_word = 32 ∷ 98 ∷ 108 ∷ 111 ∷ 99 ∷ 107 ∷ 115 ∷ 10 ∷ []

-- `N blocks`
unfoldable pub blocks_line : ℕ → List ℕ
blocks_line n = decimal n ++ blocks_word

-- Bytes at the front of lent ones: there are so many. The second part follows from the first; it is said so that a caller lends these
-- bytes alone without a proof.
pub record Front (n : ℕ) (lent : List ℕ) : Type 0 where
  pub within : n ≤ length lent
  pub counted : n ≡ length (take n lent)

-- a text stands at the front of lent bytes, up to `place`
pub record Shown (before : List ℕ) (text : List ℕ) (place : ℕ) (after : List ℕ) : Type 0 where
  pub typed : Typed before 0 text place after
  pub front : Front place after

-- what saving leaves in the lent bytes, and its number of blocks, at the front of them; refused, there is none
pub record Imaged (m : Memory) (before : List ℕ) (blocks : ℕ) (after : List ℕ) : Type 0 where
  pub bytes-are : after ≡ (save_done m before).0
  pub blocks-are : blocks ≡ get_or (save_said m before).values 0 0
  pub front : Front (512 * blocks) after
