-- A block is good exactly where it is as the writer leaves it. Assumes nothing.
use Rattle.std.proofs.Common.{◌≡◌, ℕ, ◌^◌, ◌<◌, ◌≤◌, true, List, [], ◌∷◌, ◌++◌, length, take, drop, sym, refl, ap, ◌∙◌, append_assoc, append-nil, arith, length-append, length-drop, take-append-drop, length-take-le, take_all, drop-drop, drop_at, eq-eqb}
use Rattle.order.specs.Bytes.{Bytes}
use Rattle.order.proofs.Bytes.{bytes_drop}
use Rattle.card_block.specs.declared.Sums.{Sums}
use Rattle.card_block.specs.Words.{little_endian, low_first, words_of}
use Rattle.card_block.specs.Check.{first, onward, through, check_of, block_of, good_block}
use Rattle.card_block.proofs.Words.{low-length, little-low, low-take, words-before}
use Rattle.card_block.proofs.OneWord.{good-both}

-- both sums stay below 2^32
abbrev Small : Sums → Type 0
Small s = (s.a < 2 ^ 32) × (s.b < 2 ^ 32)

small-through : (ws : List ℕ) (s : Sums) → Small s → Small (through s ws)
unfolding through
small-through [] s h = h
small-through (w ∷ ws) s h = small-through ws (onward s w) (omega arith, omega arith)

pub check-small : (number : ℕ) (bytes : List ℕ) → Small (check_of number bytes)
unfolding check_of
check-small number bytes = small-through (words_of 126 bytes) (first number) (omega arith, omega arith)

-- the check of a list is that of its first 504 bytes
pub check-front : (number : ℕ) (held more : List ℕ) → length held ≡ 504 → check_of number (held ++ more) ≡ check_of number held
unfolding check_of
check-front number held more h =
    ap (through (first number)) (words-before 126 held more [] (omega arith) ∙ ap (words_of 126) (append-nil held))

-- what the writer leaves is good
pub written-good : (number : ℕ) (held : List ℕ) → length held ≡ 504 → good_block number (block_of number held) ≡ true
unfolding block_of good_block
written-good number held h =
    let s : Sums = check_of number held in
    let (ha, hb) = check-small number held in
    let a : List ℕ = low_first 4 s.a in
    let b : List ℕ = low_first 4 s.b in
    let la : length a ≡ 4 = low-length 4 s.a in
    let l : length (held ++ a) ≡ 508 = simp length-append (omega arith) in
    let ea : little_endian 4 (drop 504 (held ++ (a ++ b))) ≡ s.a = ap (little_endian 4) (drop_at held (a ++ b) 504 h)
    ∙ little-low 4 s.a b ha in
    let eb : little_endian 4 (drop 508 (held ++ (a ++ b))) ≡ s.b
    = ap (λ (k : List ℕ). little_endian 4 (drop 508 k)) (sym (append_assoc held a b)) ∙ ap (little_endian 4) (drop_at (held ++ a) b 508 l)
    ∙ ap (little_endian 4) (sym (append-nil b)) ∙ little-low 4 s.b [] hb in
    rw (take_all 504 held (omega arith), check-front number held (a ++ b) h, ea, eb, eq-eqb s.a s.a refl, eq-eqb s.b s.b refl)

-- and nothing else is
pub good-written : (number : ℕ) (block : List ℕ) → Bytes block → length block ≡ 512 → good_block number block ≡ true
    → block ≡ block_of number block
unfolding block_of
good-written number block bs h e =
    let (p, q) = good-both number block e in
    let x : length (drop 504 block) ≡ 8 = simp length-drop (omega arith) in
    let y : length (drop 508 block) ≡ 4 = simp length-drop (omega arith) in
    let a : low_first 4 (check_of number block).a ≡ take 4 (drop 504 block) = ap (low_first 4) (sym p)
    ∙ low-take 4 (bytes_drop 504 bs) (omega arith) in
    let b : low_first 4 (check_of number block).b ≡ drop 4 (drop 504 block)
    = ap (low_first 4) (sym q) ∙ low-take 4 (bytes_drop 508 bs) (omega arith) ∙ take_all 4 (drop 508 block) (omega arith)
    ∙ sym (drop-drop 4 504 block) in
    rw (a, b, take-append-drop 4 (drop 504 block)) (sym (take-append-drop 504 block))

-- a block goes by its first 504 bytes
pub block-front : (number : ℕ) (block : List ℕ) → 504 ≤ length block → block_of number block ≡ block_of number (take 504 block)
unfolding block_of
block-front number block h =
    let l : length (take 504 block) ≡ 504 = length-take-le 504 block h in
    let c : check_of number block ≡ check_of number (take 504 block) =
    ap (check_of number) (sym (take-append-drop 504 block)) ∙ check-front number (take 504 block) (drop 504 block) l in
    rw (c, take_all 504 (take 504 block) (omega arith))

-- so a block that is as the writer makes it is good
pub made-good : (number : ℕ) (block : List ℕ) → length block ≡ 512 → block ≡ block_of number block → good_block number block ≡ true
made-good number block h e =
    let l : length (take 504 block) ≡ 504 = length-take-le 504 block (omega arith) in
    ap (good_block number) (e ∙ block-front number block (omega arith)) ∙ written-good number (take 504 block) l
