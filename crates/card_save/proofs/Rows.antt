-- A row with room for all numbers holds them, and zeros behind them. Assumes nothing.
use Prim.Native.Nat.{ℕ, zero, suc, ◌+◌, ◌*◌, ◌-◌, ◌≤◌, ◌<◌, min}
use mathlib.Core.Path.{◌≡◌, refl, sym, ap, ap₂, ◌∙◌}
use mathlib.Core.List.{List, [], ◌∷◌, ◌++◌, map, append_assoc, append-nil}
use native.Mathlib.Omega.{arith}
use native.Mathlib.Numerals.{add-one}
use lib.ListN.{length, get_or, set, length-append, length-replicate, get_or-append}
use lib.Seq.{get_or-append-add}
use borrow.Author.Tests.{lt-ltb}
use Rattle.lent_words.specs.Parts.{zeros}
use Rattle.order.specs.Map.{All, a[], ◌a∷◌}
use Rattle.index_listed.specs.Noted.{noted, noted_all}

set-behind : (pre rest : List ℕ) (x y : ℕ) → set (pre ++ x ∷ rest) (length pre) y ≡ pre ++ y ∷ rest
set-behind [] rest x y = refl
set-behind (z ∷ pre) rest x y = ap (λ (l : List ℕ). z ∷ l) (set-behind pre rest x y)

note-next : (pre : List ℕ) (j c : ℕ) → noted (pre ++ zeros (suc j), length pre) c ≡ (pre ++ c ∷ zeros j, length pre + 1)
unfolding noted
note-next pre j c =
    let l : length pre < length (pre ++ zeros (suc j)) = simp (length-append, length-replicate) (omega arith) in
    rw (lt-ltb (length pre) (length (pre ++ zeros (suc j))) l, set-behind pre (zeros j) 0 c)

pub notes-fit : (pre cs : List ℕ) (k : ℕ)
    → noted_all (pre ++ zeros (length cs + k), length pre) cs ≡ (pre ++ (cs ++ zeros k), length pre + length cs)
notes-fit pre [] k = let e : 0 + k ≡ k = omega arith in let f : length pre + 0 ≡ length pre = omega arith in rw (e, f)
notes-fit pre (c ∷ cs) k =
    let e : suc (length cs) + k ≡ suc (length cs + k) = omega arith in
    let g : length (pre ++ c ∷ []) ≡ length pre + 1 = simp length-append in
    let f : length (pre ++ c ∷ []) + length cs ≡ length pre + suc (length cs) = omega arith in
    let s : pre ++ c ∷ zeros (length cs + k) ≡ (pre ++ c ∷ []) ++ zeros (length cs + k) =
    sym (append_assoc pre (c ∷ []) (zeros (length cs + k))) in
    ap (λ (n : ℕ). noted_all (pre ++ zeros n, length pre) (c ∷ cs)) e
    ∙ ap (λ (p : List ℕ × ℕ). noted_all p cs) (note-next pre (length cs + k) c ∙ ap₂ (λ (l : List ℕ) (n : ℕ). (l, n)) s (sym g))
    ∙ notes-fit (pre ++ c ∷ []) cs k
    ∙ ap₂ (λ (l : List ℕ) (n : ℕ). (l, n)) (append_assoc pre (c ∷ []) (cs ++ zeros k)) f

-- what holds of all holds of each
pub all-at : {P : ℕ → Type 0} (cs rest : List ℕ) → All P cs → (k : ℕ) → k < length cs → P (get_or (cs ++ rest) k 0)
all-at [] rest a[] k h = absurd (omega arith)
all-at (c ∷ cs) rest (p a∷ ps) zero h = p
all-at (c ∷ cs) rest (p a∷ ps) (suc k) h = all-at cs rest ps k (omega arith)
