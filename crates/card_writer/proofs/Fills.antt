-- The loop that fills a block from a cursor on. Assumes nothing.
use Prim.Native.Nat.{ℕ, zero, suc, ◌+◌, ◌-◌, ◌<◌, ◌≤◌}
use mathlib.Core.Path.{◌≡◌, refl, sym, ap, subst, ◌∙◌}
use mathlib.Core.List.{List, [], ◌∷◌, ◌++◌}
use native.Mathlib.Omega.{arith}
use native.Mathlib.Numerals.{add-one}
use lib.ListN.{length, get_or, drop, set}
use lib.Seq.{drop-drop}
use Rattle.lent_words.specs.Parts.{put_part}
use Rattle.lent_words.proofs.Words.{put-length, set-put, put-put, zero-none}
use Rattle.card_writer.specs.declared.Cursor.{Cursor}
use Rattle.card_writer.specs.Listing.{Lent, lens_of, frames_of, lent, Whole}
use Rattle.card_writer.specs.Cursor.{rest_of, next_of, further, Placed, front}
use Rattle.card_writer.proofs.Cursors.{next-rest, next-placed}

pub front_length : (j : ℕ) (r : List ℕ) → length (front j r) ≡ j
unfolding front
front_length zero r = refl
front_length (suc j) r = ap suc (front_length j (drop 1 r))

-- one byte more
front-more : (j : ℕ) (r : List ℕ) → front (suc j) r ≡ front j r ++ get_or (drop j r) 0 0 ∷ []
unfolding front
front-more zero r = refl
front-more (suc j) r =
    let i : 1 + j ≡ suc j = omega arith in
    ap (λ (l : List ℕ). get_or r 0 0 ∷ l) (front-more j (drop 1 r)
    ∙ ap (λ (l : List ℕ). front j (drop 1 r) ++ get_or l 0 0 ∷ []) (drop-drop j 1 r ∙ ap (λ (k : ℕ). drop k r) i))

-- a byte stored behind what is filled
put-more : (d ys : List ℕ) (j y : ℕ) → length ys ≡ j → j < length d → set (put_part d 0 ys) j y ≡ put_part d 0 (ys ++ y ∷ [])
put-more d ys j y e h =
    let i : 0 + length ys ≡ j = omega arith in
    let l : length (put_part d 0 ys) ≡ length d = put-length d 0 ys (omega arith) in
    set-put (put_part d 0 ys) j y (omega arith) ∙ ap (λ (k : ℕ). put_part (put_part d 0 ys) k (y ∷ [])) (sym i)
    ∙ put-put d 0 ys (y ∷ []) (omega arith)

-- nothing filled yet, and one byte more
pub fill_none : (block r : List ℕ) → block ≡ put_part block 0 (front 0 r)
unfolding front
fill_none block r = zero-none block 0

module _ (order cells bytes : List ℕ) (n : ℕ) (block₀ : List ℕ) (c s : Cursor) (j : ℕ) where
  pub fill_more : {block block' : List ℕ} {byte : ℕ} → j < 504 → length block₀ ≡ 512
      → rest_of (lent order cells bytes) n s ≡ drop j (rest_of (lent order cells bytes) n c)
      → block ≡ put_part block₀ 0 (front j (rest_of (lent order cells bytes) n c))
      → byte ≡ get_or (rest_of (lent order cells bytes) n s) 0 0 → block' ≡ set block j byte
      → block' ≡ put_part block₀ 0 (front (j + 1) (rest_of (lent order cells bytes) n c))
  fill_more h l e f g k =
      let r : List ℕ = rest_of (lent order cells bytes) n c in
      rw (k, f, g, e, add-one j, front-more j r) (put-more block₀ (front j r) j (get_or (drop j r) 0 0) (front_length j r) (omega arith))

  pub rest_more : {s' : Cursor} → Whole (lent order cells bytes) n → Placed (lens_of order cells) n s
      → rest_of (lent order cells bytes) n s ≡ drop j (rest_of (lent order cells bytes) n c)
      → s' ≡ next_of (lens_of order cells) n s → rest_of (lent order cells bytes) n s' ≡ drop (j + 1) (rest_of (lent order cells bytes) n c)
  rest_more w q e f = rw (f, next-rest (lent order cells bytes) n w s q, e) (drop-drop 1 j (rest_of (lent order cells bytes) n c))

module _ (lens : List ℕ) (n : ℕ) (s : Cursor) {s' : Cursor} (f : s' ≡ next_of lens n s) where
  pub placed-more : Placed lens n s → Placed lens n s'
  placed-more q = subst (λ (t : Cursor). Placed lens n t) (sym f) (next-placed lens n s q)

  pub further-more : (j : ℕ) {u : Cursor} → j < 504 → further lens n (504 - j) s ≡ u → further lens n (504 - (j + 1)) s' ≡ u
  unfolding further
  further-more j h e = let i : 504 - j ≡ suc (504 - (j + 1)) = omega arith in rw f (rw i at e)

pub further-last : (lens : List ℕ) (n : ℕ) (s : Cursor) (j : ℕ) {u : Cursor} → 504 ≤ j → further lens n (504 - j) s ≡ u → s ≡ u
unfolding further
further-last lens n s j h e = let i : 504 - j ≡ 0 = omega arith in rw i at e

pub fill-last : (block₀ r : List ℕ) (j : ℕ) {block : List ℕ} → j ≤ 504 → 504 ≤ j → block ≡ put_part block₀ 0 (front j r)
    → block ≡ put_part block₀ 0 (front 504 r)
fill-last block₀ r j h k e = let i : j ≡ 504 = omega arith in rw i at e

-- so many places further, so many bytes less
module _ (m : Lent) (n : ℕ) (w : Whole m n) where
  pub further-placed : (j : ℕ) (c : Cursor) → Placed m.lens n c → Placed m.lens n (further m.lens n j c)
  unfolding further
  further-placed zero c q = q
  further-placed (suc j) c q = further-placed j (next_of m.lens n c) (next-placed m.lens n c q)

  pub further-rest : (j : ℕ) (c : Cursor) → Placed m.lens n c → rest_of m n (further m.lens n j c) ≡ drop j (rest_of m n c)
  unfolding further
  further-rest zero c q = refl
  further-rest (suc j) c q =
      let i : 1 + j ≡ suc j = omega arith in
      further-rest j (next_of m.lens n c) (next-placed m.lens n c q) ∙ ap (drop j) (next-rest m n w c q) ∙ drop-drop j 1 (rest_of m n c)
      ∙ ap (λ (k : ℕ). drop k (rest_of m n c)) i
