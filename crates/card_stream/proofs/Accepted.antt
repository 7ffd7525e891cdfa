-- An image that is accepted is the image of its entries, and the image of entries is accepted. Assumes nothing.
use Prim.Native.Nat.{ℕ, zero, suc, ◌+◌, ◌*◌, ◌<◌, ◌≤◌}
use mathlib.Core.Path.{◌≡◌, refl, sym, ap, ap₂, ◌∙◌}
use mathlib.Core.Bool.{true}
use mathlib.Core.List.{List, [], ◌++◌, append_assoc, append-nil}
use mathlib.Core.Logic.{⊎_elim}
use native.Mathlib.Omega.{arith}
use lib.ListN.{length, take, drop, length-append, length-replicate}
use lib.Seq.{take-add, take_all, take-take}
use Rattle.order.specs.Bytes.{Bytes, none}
use Rattle.order.proofs.Bytes.{bytes-append}
use Rattle.order.specs.Map.{Map}
use Rattle.lent_words.specs.Parts.{part}
use Rattle.lent_words.proofs.Words.{lt-or-ge, part_length, middle}
use Rattle.card_block.specs.Check.{block_of, good_block}
use Rattle.card_block.proofs.Words.{low-length}
use Rattle.card_block.proofs.Written.{block-front, good-written}
use Rattle.card_stream.specs.Stream.{unfilled, lacking, stream_of, Writable}
use Rattle.card_stream.specs.Image.{held_by, blocks_of, blocks_for, image_of}
use Rattle.card_stream.specs.Payload.{payload, first_bad}
use Rattle.card_stream.specs.Parse.{right, parse}
use Rattle.card_stream.proofs.OnlyWritten.{only-written}
use Rattle.card_stream.proofs.Images.{image-length}
use Rattle.card_stream.proofs.ReadImage.{part-is, checks-good, same_entries}
use Rattle.card_stream.proofs.Changed.{bytes-part, first-bad-good}

-- the stream of entries fills their blocks
pub stream-length : (es : Map) → length (stream_of es) ≡ 504 * blocks_for es
unfolding stream_of lacking blocks_for
stream-length es = simp (length-append, length-replicate) (omega arith)

-- even no entry takes a block: the number of entries stands in it
pub one-block-at-least : (es : Map) → 1 ≤ blocks_for es
unfolding blocks_for unfilled
one-block-at-least es =
    let e : 4 ≤ length (unfilled es) = simp (length-append, low-length) (omega arith) in omega arith

-- the image of entries that can be written is accepted, and gives these entries
pub image-is-accepted : (es : Map) → Writable es
    → (length (image_of es) ≡ 512 * blocks_for es)
    × (first_bad 0 (blocks_for es) (image_of es) ≡ blocks_for es)
    × (parse (payload (blocks_for es) (image_of es)) ≡ right es)
unfolding image_of
image-is-accepted es w =
    let n : ℕ = blocks_for es in
    let e : length (stream_of es) ≡ 504 * n = stream-length es in
    let b : List ℕ = blocks_of n (stream_of es) in (
      image-length n (stream_of es) (omega arith),
      ap (first_bad 0 n) (sym (append-nil b)) ∙ checks-good es w n e [],
      ap (λ (l : List ℕ). parse (payload n l)) (sym (append-nil b)) ∙ same_entries es w n e [],
    )

-- what the blocks of an image hold are bytes, 504 to a block
pub payload-bytes : (n : ℕ) {image : List ℕ} → Bytes image → Bytes (payload n image)
unfolding payload
payload-bytes zero b = none
payload-bytes (suc n) b = bytes-append (payload-bytes n b) (bytes-part (512 * n) 504 b)

pub payload-length : (n : ℕ) (image : List ℕ) → 512 * n ≤ length image → length (payload n image) ≡ 504 * n
unfolding payload
payload-length zero image h = refl
payload-length (suc n) image h =
    simp length-append (omega (arith, payload-length n image (omega arith), part_length image (512 * n) 504 (omega arith)))

-- and block j's bytes stand where a stream has them
held_at : (n : ℕ) (image rest : List ℕ) (j : ℕ) → 512 * n ≤ length image → j < n
    → held_by j (payload n image ++ rest) ≡ part image (512 * j) 504
unfolding payload
held_at zero image rest j h l = absurd (omega arith)
held_at (suc n) image rest j h l =
    let p : List ℕ = part image (512 * n) 504 in
    ⊎_elim
    (λ (k : j < n). rw (append_assoc (payload n image) p rest) (held_at n image (p ++ rest) j (omega arith) k))
    (λ (k : n ≤ j).
    let e : j ≡ n = omega arith in
    rw e
    (middle (payload n image) p rest (504 * n) 504 (payload-length n image (omega arith)) (part_length image (512 * n) 504 (omega arith))))
    (lt-or-ge j n)

-- a good block of an image is the one that the writer makes of its bytes of the stream
good-made : (image : List ℕ) (j : ℕ) → Bytes image → 512 * j + 512 ≤ length image → good_block j (part image (512 * j) 512) ≡ true
    → part image (512 * j) 512 ≡ block_of j (part image (512 * j) 504)
good-made image j b h g =
    let block : List ℕ = part image (512 * j) 512 in
    let l : length block ≡ 512 = part_length image (512 * j) 512 h in
    good-written j block (bytes-part (512 * j) 512 b) l g ∙ block-front j block (omega arith)
    ∙ ap (block_of j)
    (ap (take 504) (part-is image (512 * j) 512) ∙ take-take 504 512 (drop (512 * j) image) (omega arith)
    ∙ sym (part-is image (512 * j) 504))

-- so good blocks are the blocks of what they hold
made_again : (n : ℕ) (image : List ℕ) → Bytes image → 512 * n ≤ length image
    → ((j : ℕ) → j < n → good_block j (part image (512 * j) 512) ≡ true)
    → (c : ℕ) → c ≤ n → take (512 * c) image ≡ blocks_of c (payload n image)
unfolding blocks_of
made_again n image b h good zero l = refl
made_again n image b h good (suc c) l =
    let e : 512 * suc c ≡ 512 * c + 512 = omega arith in
    let s : held_by c (payload n image) ≡ part image (512 * c) 504 =
    ap (held_by c) (sym (append-nil (payload n image))) ∙ held_at n image [] c h (omega arith) in
    ap (λ (m : ℕ). take m image) e ∙ take-add (512 * c) 512 image
    ∙ ap₂ ◌++◌ (made_again n image b h good c (omega arith))
    (sym (part-is image (512 * c) 512) ∙ good-made image c b (omega arith) (good c (omega arith)) ∙ ap (block_of c) (sym s))

-- an image whose checks are good and whose stream is right is the image of the entries that it gives, in as many blocks
pub accepted-is-image : (n : ℕ) {image : List ℕ} {es : Map}
    → Bytes image → length image ≡ 512 * n → first_bad 0 n image ≡ n → parse (payload n image) ≡ right es
    → Writable es × (n ≡ blocks_for es) × (image ≡ image_of es)
unfolding image_of
accepted-is-image n {image} {es} b l f p =
    let (w, s) = only-written (payload-bytes n b) p in
    let e : n ≡ blocks_for es = omega (arith, payload-length n image (omega arith), ap length s, stream-length es) in
    let m : image ≡ blocks_of n (payload n image) =
    sym (take_all (512 * n) image (omega arith))
    ∙ made_again n image b (omega arith) (first-bad-good n image f) n (omega arith) in
    (w, e, m ∙ ap₂ blocks_of e s)
