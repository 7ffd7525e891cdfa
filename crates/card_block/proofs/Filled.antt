-- Laws on a block being filled: its words put one by one, and its check behind its bytes. Assumes nothing.
use Rattle.std.proofs.Common.{◌≡◌, ℕ, ◌+◌, ◌/◌, ◌%◌, ◌-◌, ◌≤◌, List, ◌++◌, length, take, drop, sym, ap, ap₂, ◌∙◌, append-nil, append_assoc, arith, length-append, drop_of_length-le, length-take}
use borrow.Rule.Slice.PartMut.{put_mid, Post-is}
use Rattle.std.specs.Int.{w32, to_le_bytes}
use Rattle.lent_words.specs.Parts.{put_part}
use Rattle.lent_words.proofs.Words.{put-put}
use Rattle.card_block.specs.declared.Sums.{Sums}
use Rattle.card_block.specs.Words.{low_first}
use Rattle.card_block.specs.Check.{check_of, block_of}
use Rattle.card_block.proofs.Words.{low-length}

-- the bytes of a word
word-bytes : (w : ℕ) → to_le_bytes w32 w ≡ low_first 4 w
unfolding low_first
word-bytes w =
    let c : w / 65536 % 256 ≡ w / 256 / 256 % 256 = omega arith in
    let d : w / 16777216 % 256 ≡ w / 256 / 256 / 256 % 256 = omega arith in
    rw (c, d)

-- written in the place of four, they are the word
pub word-put : (l : List ℕ) (at w : ℕ) {ys zs : List ℕ} → ys ≡ to_le_bytes w32 w → zs ≡ ys
    → put_mid at (at + 4 - at) l zs ≡ put_part l at (low_first 4 w)
unfolding put_part
word-put l at w {zs = zs} p q =
    let e : zs ≡ low_first 4 w = q ∙ p ∙ word-bytes w in
    ap₂ (λ (ys r : List ℕ). take at l ++ (ys ++ r)) e (Post-is at (at + 4) l (omega arith))
    ∙ sym (append_assoc (take at l) (low_first 4 w) (drop (at + 4) l))
    ∙ rw (low-length 4 w)

-- a block has 512 bytes
pub block-length : (number : ℕ) (held : List ℕ) → 504 ≤ length held → length (block_of number held) ≡ 512
unfolding block_of
block-length number held h = simp (length-append, length-take, low-length) (omega arith)

-- a part written behind the first k of a list, up to its end
put-behind : (xs : List ℕ) (k : ℕ) (zs : List ℕ) → k + length zs ≡ length xs → put_part xs k zs ≡ take k xs ++ zs
unfolding put_part
put-behind xs k zs e =
    let h : length xs ≤ k + length zs = omega arith in
    ap (λ (l : List ℕ). take k xs ++ zs ++ l) (drop_of_length-le xs h) ∙ append-nil (take k xs ++ zs)

-- a and then b behind the bytes of the stream
pub sealed : (block : List ℕ) (number : ℕ) {s : Sums} {b1 b2 : List ℕ} → length block ≡ 512
    → s ≡ check_of number block → b1 ≡ put_part block 504 (low_first 4 s.a) → b2 ≡ put_part b1 508 (low_first 4 s.b)
    → b2 ≡ block_of number block
unfolding block_of
sealed block number l e p q =
    let a : List ℕ = low_first 4 (check_of number block).a in
    let b : List ℕ = low_first 4 (check_of number block).b in
    let x : length a ≡ 4 = low-length 4 _ in
    let y : length b ≡ 4 = low-length 4 _ in
    let z : 508 ≡ 504 + length a = omega arith in
    let lz : 504 + length (a ++ b) ≡ length block = simp length-append (omega arith) in
    rw (q, p, e, z) (put-put block 504 a b (omega arith) ∙ put-behind block 504 (a ++ b) lz)
