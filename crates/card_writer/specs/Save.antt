-- What the writer leaves in the caller's buffer, and answers.
use Rattle.std.specs.Prelude.{ℕ, ◌*◌, cond, List, ◌++◌, leb, length, drop}
use Rattle.order.specs.Map.{Map}
use Rattle.card_stream.specs.Image.{blocks_for, image_of}
use Rattle.card_writer.specs.declared.Written.{Written}
use Rattle.card_writer.specs.declared.Written.TheVariants.{Blocks, Short}

-- the image, and behind it the bytes that were there; or the buffer as it was, where it is shorter than the image
unfoldable pub written : Map → List ℕ → List ℕ × Written
written entries out =
    cond (leb (512 * blocks_for entries) (length out))
    (image_of entries ++ drop (512 * blocks_for entries) out, Blocks (blocks_for entries))
    (out, Short)
