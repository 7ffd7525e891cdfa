-- A change confined to one aligned word of a block is always found. Assumes nothing.
use Rattle.std.proofs.Common.{◌≡◌, ℕ, ◌+◌, ◌-◌, ◌*◌, ◌^◌, ◌<◌, ◌≤◌, Bool, true, false, ◌&&◌, List, [], ◌∷◌, ◌++◌, length, drop, sym, refl, ap, ◌∙◌, ⊎_elim, append_assoc, arith, length-append, drop_at, eqb-true}
use lib.Seq.{drop-append-add}
use Rattle.order.specs.Bytes.{Bytes}
use Rattle.lent_words.proofs.Words.{lt-or-ge}
use Rattle.card_block.specs.declared.Sums.{Sums}
use Rattle.card_block.specs.Words.{little_endian, words_of}
use Rattle.card_block.specs.Check.{plus, first, onward, through, check_of, good_block}
use Rattle.card_block.proofs.Words.{little-below, little-same, little-front, words_append, words-before}

-- sums that run round at 2^32 can be undone
plus-same : (x y w : ℕ) → x < 2 ^ 32 → y < 2 ^ 32 → plus x w ≡ plus y w → x ≡ y
plus-same x y w h k e = omega arith

plus-same-left : (w x y : ℕ) → x < 2 ^ 32 → y < 2 ^ 32 → plus w x ≡ plus w y → x ≡ y
plus-same-left w x y h k e = omega arith

through-append : (s : Sums) (p q : List ℕ) → through s (p ++ q) ≡ through (through s p) q
unfolding through
through-append s [] q = refl
through-append s (w ∷ p) q = through-append (onward s w) p q

-- over the same words, the same sum behind them was the same before them
back : (ws : List ℕ) (s t : Sums) → s.a < 2 ^ 32 → t.a < 2 ^ 32 → (through s ws).a ≡ (through t ws).a → s.a ≡ t.a
unfolding through
back [] s t h k e = e
back (w ∷ ws) s t h k e = plus-same s.a t.a w h k (back ws (onward s w) (onward t w) (omega arith) (omega arith) e)

-- two lists of words that differ in one word at most, with the same sum, do not differ
same_word : (s : Sums) (p q : List ℕ) (v w : ℕ) → v < 2 ^ 32 → w < 2 ^ 32 → (through s (p ++ v ∷ q)).a ≡ (through s (p ++ w ∷ q)).a → v ≡ w
unfolding through
same_word s p q v w h k e =
    let t : Sums = through s p in
    plus-same-left t.a v w h k
    (back q (onward t v) (onward t w) (omega arith) (omega arith)
    (ap (λ (r : Sums). r.a) (sym (through-append s p (v ∷ q))) ∙ e ∙ ap (λ (r : Sums). r.a) (through-append s p (w ∷ q))))

-- behind two parts of equal length, the same stands at the same place
behind : (n : ℕ) (u v q : List ℕ) → length u ≡ length v → length u ≤ n → drop n (u ++ q) ≡ drop n (v ++ q)
behind n u v q e h =
    let i : n ≡ length u + (n - length u) = omega arith in
    let j : n ≡ length v + (n - length u) = omega arith in
    ap (λ (m : ℕ). drop m (u ++ q)) i ∙ drop-append-add u q (n - length u)
    ∙ sym (ap (λ (m : ℕ). drop m (v ++ q)) j ∙ drop-append-add v q (n - length u))

and-true : (x y : Bool) → x && y ≡ true → (x ≡ true) × (y ≡ true)
and-true true y e = (refl, e)
and-true false y e = let z : ◌≡◌ {A = ℕ} 0 1 = cc in absurd (omega arith)

-- both tests of a good block
pub good-both : (number : ℕ) (block : List ℕ) → good_block number block ≡ true
    → (little_endian 4 (drop 504 block) ≡ (check_of number block).a) × (little_endian 4 (drop 508 block) ≡ (check_of number block).b)
unfolding good_block
good-both number block e = let (h, k) = and-true _ _ e in (eqb-true _ _ h, eqb-true _ _ k)

-- the words of a list with the word f behind k words
words-around : (n k m : ℕ) (p f q : List ℕ) → n ≡ k + (1 + m) → length p ≡ 4 * k → length f ≡ 4
    → words_of n (p ++ (f ++ q)) ≡ words_of k p ++ (little_endian 4 f ∷ words_of m q)
unfolding words_of
words-around n k m p f q e lp lf =
    rw e (words_append k (1 + m) p (f ++ q) lp ∙ ap (λ (l : List ℕ). words_of k p ++ l) (words_append 1 m f q lf))

-- two good blocks of one number, equal but for the word behind k words, are equal there too
module _ (number k : ℕ) (p f g q : List ℕ) (bf : Bytes f) (bg : Bytes g) (lp : length p ≡ 4 * k) (lf : length f ≡ 4) (lg : length g ≡ 4)
    (hf : good_block number (p ++ (f ++ q)) ≡ true) (hg : good_block number (p ++ (g ++ q)) ≡ true) where
  from-number : little_endian 4 f ≡ little_endian 4 g → f ≡ g
  from-number = little-same 4 bf bg lf lg

  both-f : (little_endian 4 (drop 504 (p ++ (f ++ q))) ≡ (check_of number (p ++ (f ++ q))).a)
      × (little_endian 4 (drop 508 (p ++ (f ++ q))) ≡ (check_of number (p ++ (f ++ q))).b)
  both-f = good-both number (p ++ (f ++ q)) hf

  both-g : (little_endian 4 (drop 504 (p ++ (g ++ q))) ≡ (check_of number (p ++ (g ++ q))).a)
      × (little_endian 4 (drop 508 (p ++ (g ++ q))) ≡ (check_of number (p ++ (g ++ q))).b)
  both-g = good-both number (p ++ (g ++ q)) hg

  -- one of the 126 words: the sum tells
  in_words : k < 126 → f ≡ g
  unfolding check_of
  in_words h =
      let m : ℕ = 125 - k in
      let e : 126 ≡ k + (1 + m) = omega arith in
      let d : drop 504 (p ++ (f ++ q)) ≡ drop 504 (p ++ (g ++ q))
      = rw (← append_assoc p f q, ← append_assoc p g q)
      (behind 504 (p ++ f) (p ++ g) q (simp length-append (omega arith)) (simp length-append (omega arith))) in
      let t : (check_of number (p ++ (f ++ q))).a ≡ (check_of number (p ++ (g ++ q))).a = sym both-f.0 ∙ ap (little_endian 4) d ∙ both-g.0 in
      from-number
      (same_word (first number) (words_of k p) (words_of m q) _ _ (little-below 4 bf) (little-below 4 bg)
      (ap (λ (ws : List ℕ). (through (first number) ws).a) (sym (words-around 126 k m p f q e lp lf)) ∙ t
      ∙ ap (λ (ws : List ℕ). (through (first number) ws).a) (words-around 126 k m p g q e lp lg)))

  same_check : 126 ≤ k → check_of number (p ++ (f ++ q)) ≡ check_of number (p ++ (g ++ q))
  unfolding check_of
  same_check h = ap (through (first number)) (words-before 126 p (f ++ q) (g ++ q) (omega arith))

  at-end : (n : ℕ) → 4 * k ≡ n → little_endian 4 (drop n (p ++ (f ++ q))) ≡ little_endian 4 (drop n (p ++ (g ++ q))) → f ≡ g
  at-end n e h =
      from-number
      (sym (little-front 4 f q lf) ∙ ap (little_endian 4) (sym (drop_at p (f ++ q) n (lp ∙ e))) ∙ h
      ∙ ap (little_endian 4) (drop_at p (g ++ q) n (lp ∙ e)) ∙ little-front 4 g q lg)

  -- the sum itself, or the sum of sums
  in-sums : 126 ≤ k → k < 128 → f ≡ g
  in-sums h l =
      ⊎_elim
      (λ i. at-end 504 (omega arith) (both-f.0 ∙ ap (λ (s : Sums). s.a) (same_check h) ∙ sym both-g.0))
      (λ i. at-end 508 (omega arith) (both-f.1 ∙ ap (λ (s : Sums). s.b) (same_check h) ∙ sym both-g.1))
      (lt-or-ge k 127)

  pub one-word-tells : k < 128 → f ≡ g
  one-word-tells h = ⊎_elim in_words (λ l. in-sums l h) (lt-or-ge k 126)
