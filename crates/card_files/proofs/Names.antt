-- The name of a new file, and counts of bytes within lent ones. Assumes nothing.
use Rattle.std.proofs.Common.{◌≡◌, ℕ, zero, suc, ◌+◌, ◌-◌, ◌/◌, ◌%◌, ◌≤◌, ◌<◌, List, [], ◌∷◌, ◌++◌, length, take, drop, refl, sym, ap}
use Rattle.std.proofs.Common.{◌∙◌, subst, arith, append_assoc, length-append}
use lib.Seq.{length-take-le}
use Rattle.arena.proofs.Words.{put-length}
use Rattle.page.specs.Page.{Typed}
use Rattle.page.proofs.Pages.{typed-none, typed_then}
use Rattle.card_files.specs.Counts.{IsPrefixLen}
use Rattle.card_files.specs.Names.{to_be_filled, low_digits}

pub prefix_len_of_le : (n : ℕ) (xs : List ℕ) → n ≤ length xs → IsPrefixLen n xs
prefix_len_of_le n xs h = (h, sym (length-take-le n xs h))

module _ (path : List ℕ) {name name1 name2 : List ℕ} {r r1 : ℕ} (short : length path ≤ 4088) (t : Typed name 0 path r name1)
    (u : Typed name1 r to_be_filled r1 name2) where
  room : length name ≡ 4096 → 0 + length (path ++ to_be_filled) ≤ length name
  room l = omega (arith, length-append path to_be_filled)

  pub name_typed : length name ≡ 4096 → Typed name 0 (path ++ to_be_filled) r1 name2
  name_typed l = typed_then path to_be_filled (room l) t u

  pub name-counts : length name ≡ 4096 → IsPrefixLen r1 name2
  name-counts l =
      let e = name_typed l in
      let k = ap length e.bytes-are ∙ put-length name 0 (path ++ to_be_filled) (room l) in
      prefix_len_of_le r1 name2 (omega (arith, room l, e.place_is))

-- ---- digits

pub length-low : (count n : ℕ) → length (low_digits count n) ≡ count
unfolding low_digits
length-low zero n = refl
length-low (suc count) n = length-append (low_digits count (n / 10)) ((48 + n % 10) ∷ []) ∙ omega (arith, length-low count (n / 10))

low_more : (count n : ℕ) → 0 < count → low_digits count n ≡ low_digits (count - 1) (n / 10) ++ (48 + n % 10) ∷ []
unfolding low_digits
low_more zero n h = absurd (omega arith)
low_more (suc count) n h = let e : suc count - 1 ≡ count = omega arith in rw e refl

-- no digit
pub digits_none : (o : List ℕ) (at count n : ℕ) → count ≡ 0 → Typed o at (low_digits count n) at o
unfolding low_digits
digits_none o at count n e = subst (λ k. Typed o at (low_digits k n) at o) (sym e) typed-none

-- one digit more
pub digits_more : (o o' o'' : List ℕ) (at count n r r' : ℕ) → 0 < count → at + count ≤ length o
    → Typed o at (low_digits (count - 1) (n / 10)) r o' → Typed o' r ((48 + n % 10) ∷ []) r' o'' → Typed o at (low_digits count n) r' o''
digits_more o o' o'' at count n r r' h fits t u =
    let e = low_more count n h in
    let l : at + length (low_digits (count - 1) (n / 10) ++ (48 + n % 10) ∷ []) ≤ length o =
    subst (λ ds. at + length ds ≤ length o) e (omega (arith, length-low count n)) in
    subst (λ ds. Typed o at ds r' o'') (sym e) (typed_then (low_digits (count - 1) (n / 10)) ((48 + n % 10) ∷ []) l t u)

-- digits have room
pub digits_room : (o o' : List ℕ) (at count n r : ℕ) → 0 < count → at + count ≤ length o
    → Typed o at (low_digits (count - 1) (n / 10)) r o' → r + 1 ≤ length o'
digits_room o o' at count n r h fits t =
    let l = length-low (count - 1) (n / 10) in
    let k : length o' ≡ length o = ap length t.bytes-are ∙ put-length o at (low_digits (count - 1) (n / 10)) (omega arith) in
    omega (arith, t.place_is)
