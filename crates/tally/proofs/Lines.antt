-- What was read up to a place, and what is told of an input that ends within a line. Assumes nothing.
use Rattle.std.proofs.Common.{◌≡◌, ◌≢◌, ℕ, zero, suc, ◌+◌, ◌-◌, ◌<◌, ◌≤◌, List, [], ◌∷◌, ◌++◌, IfSome, length, take, slice_range}
use Rattle.std.proofs.Common.{arith, sym, ap, ◌∙◌, subst, refl, length-take-le, drop_at}
use Rattle.std.proofs.lemmas.Slice.{take-put_mid_below}
use Rattle.std.proofs.KnownBytes.{Consumes-trans, Consumes-whole, Appends-nil}
use Rattle.std.specs.Io.KnownBytes.{Appends, Consumes, IsAtEnd}
use Rattle.std.specs.Prelude.{Option}
use Rattle.tally.specs.Printed.{cut_short, ending}
use borrow.Rule.Slice.PartMut.{put_mid, post_of}
use lib.Seq.{take-add, take-append-le}

-- what was read first, and what the next read gave
take_split : (a b : ℕ) (old new : List ℕ) → a ≤ b → take a new ≡ take a old → take a old ++ slice_range new a b ≡ take b new
take_split a b old new h front =
    let same : a + (b - a) ≡ b = omega arith in
    ap (λ l. l ++ slice_range new a b) (sym front) ∙ sym (take-add a (b - a) new) ∙ ap (λ n. take n new) same

slice_range-put_mid : (a k n : ℕ) (xs ys : List ℕ) → a ≤ length xs → n ≤ length ys → slice_range (put_mid a k xs ys) a (a + n) ≡ take n ys
slice_range-put_mid a k n xs ys within fits =
    let same : (a + n) - a ≡ n = omega arith in
    let after = post_of a k xs in
    ap (take ((a + n) - a)) (drop_at (take a xs) (ys ++ after) a (length-take-le a xs within))
    ∙ ap (λ m. take m (ys ++ after)) same ∙ take-append-le n ys after fits

-- a read of n bytes behind the first `done`
pub read_more : (a b c : Option (List ℕ)) (done k n : ℕ) (text got : List ℕ) → done ≤ length text → n ≤ length got
    → Consumes a b (take done text) → Consumes b c (take n got) → Consumes a c (take (done + n) (put_mid done k text got))
read_more a b c done k n text got within fits first next =
    let part = slice_range-put_mid done k n text got within fits in
    let front = take-put_mid_below done k text got done (omega arith) within in
    let joined = take_split done (done + n) text (put_mid done k text got) (omega arith) front in
    subst (Consumes a c) (ap (λ l. take done text ++ l) (sym part) ∙ joined) (Consumes-trans a b c _ _ first next)

-- an input that gave all that it had, and not a whole line
pub shorter : (a b : Option (List ℕ)) (n : ℕ) (text : List ℕ) → n < length text → Consumes a b (take n text) → IsAtEnd b
    → IfSome a (λ left. length left < length text)
shorter a b n text h p q =
    let l = length-take-le n text (omega arith) in
    Consumes-whole a b (take n text) (λ left. length left < length text) p q (omega (arith, l))

-- nothing was left, and nothing is told
pub none_left : (a b x : Option (List ℕ)) (n : ℕ) (text : List ℕ) → n ≡ 0 → Consumes a b (take n text) → IsAtEnd b
    → IfSome a (λ left. Appends x x (ending left))
none_left a b x n text h p q =
    Consumes-whole a b (take n text) (λ left. Appends x x (ending left)) p q
    (subst (λ m. Appends x x (ending (take m text))) (sym h) (Appends-nil x))

-- a part of a line was left, and it is told
some_told : (n : ℕ) (text : List ℕ) → n < length text → n ≢ 0 → ending (take n text) ≡ cut_short
some_told zero text h k = absurd (k refl)
some_told (suc n) [] h k = absurd (omega arith)
some_told (suc n) (x ∷ text) h k = refl

pub part_left : (a b x y : Option (List ℕ)) (n : ℕ) (text : List ℕ) → n < length text → n ≢ 0 → Consumes a b (take n text) → IsAtEnd b
    → Appends x y cut_short → IfSome a (λ left. Appends x y (ending left))
part_left a b x y n text h k p q told =
    Consumes-whole a b (take n text) (λ left. Appends x y (ending left)) p q
    (subst (λ bs. Appends x y bs) (sym (some_told n text h k)) told)
