-- Values that move up one place in an array. Assumes nothing.
use mathlib.Core.Path.{◌≡◌, sym, ◌∙◌, ap}
use mathlib.Core.List.{List, [], ◌∷◌, ◌++◌, append_assoc}
use Prim.Native.Nat.{ℕ, suc, ◌+◌, ◌-◌, ◌≤◌, ◌<◌}
use native.Mathlib.Omega.{arith}
use native.Mathlib.Numerals.{add-one}
use lib.ListN.{length, get_or, set, take, drop}
use lib.Seq.{slice, take-suc, set_at, length-take-le, paste, take-take}
use Rattle.std.proofs.lemmas.List.{drop-take}
use Rattle.internode_places.specs.Lists.{inserted_at}
use Rattle.internode_inserts.specs.Insert.{inserted_among}

-- place j of what is still below
set_there : (j v : ℕ) (xs ys : List ℕ) → j < length xs → set (take (suc j) xs ++ ys) j v ≡ take j xs ++ v ∷ ys
set_there j v xs ys h =
    ap (λ (l : List ℕ). set (l ++ ys) j v) (take-suc xs j 0 h)
    ∙ ap (λ (l : List ℕ). set l j v) (append_assoc (take j xs) (get_or xs j 0 ∷ []) ys)
    ∙ set_at (take j xs) (get_or xs j 0) ys v j (length-take-le j xs (omega arith))

module _ (n : ℕ) (xs : List ℕ) (h : n < length xs) where
  -- those from p on move up one place, over what stood at n, and v goes to p
  pub moved-put : (p v q : ℕ) → p ≤ n → q ≡ p + 1 → set (paste xs q (drop p xs) (n - p)) p v ≡ inserted_among p n v xs
  unfolding inserted_among inserted_at
  moved-put p v q l d =
      let e : q + (n - p) ≡ n + 1 = omega arith in
      let m : p + (n - p) ≡ n = omega arith in
      let a = append_assoc (take (suc p) xs) (slice p n xs) (drop (n + 1) xs) in
      rw (e, d, add-one p, ← drop-take p (n - p) xs, m, a)
      (set_there p v xs (slice p n xs ++ drop (n + 1) xs) (omega arith)
      ∙ ap (λ (y : List ℕ). y ++ v ∷ (slice p n xs ++ drop (n + 1) xs)) (sym (take-take p n xs l))
      ∙ sym (append_assoc (take p (take n xs)) (v ∷ slice p n xs) (drop (n + 1) xs)))
