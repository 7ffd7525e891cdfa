-- What saving an index answers, and leaves in the caller's buffer.
use Rattle.std.specs.Prelude.{ℕ, ◌*◌, cond, List, [], ◌∷◌, ◌++◌, map, leb, eqb, length, drop}
use Rattle.refusal.specs.Answer.{Answer, Rule, ◌unless◌, answered}
use Rattle.order.specs.Map.{Map}
use Rattle.arena.specs.Layout.{key_at, frame_at}
use Rattle.arena.specs.Memory.{Memory}
use Rattle.forest.specs.Walk.{is_tree}
use Rattle.model.specs.Calls.{in_key_order}
use Rattle.card_stream.specs.Image.{blocks_for, image_of}

-- the keys and frame numbers of an index, in key order
abbrev pub entries_in : Memory → Map
entries_in m = map (λ c. (key_at m.cells m.bytes c, frame_at m.cells c)) (in_key_order m)

-- 10 unless memory is a tree, 18 unless the buffer has room for all blocks
abbrev pub save_rules : Memory → List ℕ → List Rule
save_rules m out = (10 unless is_tree m) ∷ (18 unless leb (512 * blocks_for (entries_in m)) (length out)) ∷ []

-- the number of blocks, unless saving is refused
abbrev pub save_said : Memory → List ℕ → Answer
save_said m out = answered (save_rules m out) (blocks_for (entries_in m) ∷ []) []

-- the image of entries in a buffer, and behind it the bytes that were there
abbrev pub with_image : Map → List ℕ → List ℕ
with_image entries out = image_of entries ++ drop (512 * blocks_for entries) out

-- what saving leaves in the buffer, and answers; refused, all of the buffer stays
unfoldable pub save_done : Memory → List ℕ → List ℕ × Answer
save_done m out = (cond (eqb (save_said m out).number 0) (with_image (entries_in m) out) out, save_said m out)
