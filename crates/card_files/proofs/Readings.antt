-- What was read up to a place of lent bytes. Assumes nothing.
use Rattle.std.proofs.Common.{◌≡◌, ℕ, ◌+◌, ◌-◌, ◌<◌, ◌≤◌, List, [], ◌++◌, length, take, slice_range, arith, sym, ap, ◌∙◌, subst}
use Rattle.std.proofs.Common.{length-take-le, drop_at, append-nil}
use Rattle.std.proofs.lemmas.Slice.{take-put_mid_below}
use Rattle.std.proofs.KnownBytes.{Consumes-trans}
use Rattle.std.specs.Prelude.{Option}
use Rattle.std.specs.Io.KnownBytes.{Consumes}
use borrow.Rule.Slice.PartMut.{put_mid, post_of}
use lib.Seq.{take-add, take-append-le}

-- what was read first, and what the next read gave
take_split : (a b : ℕ) (old new : List ℕ) → a ≤ b → take a new ≡ take a old → take a old ++ slice_range new a b ≡ take b new
take_split a b old new h front =
    let same : a + (b - a) ≡ b = omega arith in
    ap (λ l. l ++ slice_range new a b) (sym front) ∙ sym (take-add a (b - a) new) ∙ ap (λ n. take n new) same

slice_range-put_mid : (a k n : ℕ) (xs ys : List ℕ) → a ≤ length xs → n ≤ length ys → slice_range (put_mid a k xs ys) a (a + n) ≡ take n ys
slice_range-put_mid a k n xs ys within fits =
    let same : (a + n) - a ≡ n = omega arith in
    let after = post_of a k xs in
    ap (take ((a + n) - a)) (drop_at (take a xs) (ys ++ after) a (length-take-le a xs within))
    ∙ ap (λ m. take m (ys ++ after)) same ∙ take-append-le n ys after fits

-- a read of n bytes behind the first `done`
pub read_more : (a b c : Option (List ℕ)) (done k n : ℕ) (text got : List ℕ) → done ≤ length text → n ≤ length got
    → Consumes a b (take done text) → Consumes b c (take n got) → Consumes a c (take (done + n) (put_mid done k text got))
read_more a b c done k n text got within fits first next =
    let part = slice_range-put_mid done k n text got within fits in
    let front = take-put_mid_below done k text got done (omega arith) within in
    let joined = take_split done (done + n) text (put_mid done k text got) (omega arith) front in
    subst (Consumes a c) (ap (λ l. take done text ++ l) (sym part) ∙ joined) (Consumes-trans a b c _ _ first next)

-- a last read that gave nothing
pub read_none : (a b c : Option (List ℕ)) (bytes : List ℕ) → Consumes a b bytes → Consumes b c [] → Consumes a c bytes
read_none a b c bytes p q = subst (Consumes a c) (append-nil bytes) (Consumes-trans a b c bytes [] p q)
