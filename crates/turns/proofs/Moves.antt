-- Moves of nibbles: what joins of masked and shifted parts do to the list. Assumes nothing.
use mathlib.Core.Path.{◌≡◌, ap, ◌∙◌, subst}
use mathlib.Core.List.{List, ◌++◌}
use Prim.Native.Nat.{ℕ, zero, suc, ◌+◌, ◌-◌, ◌*◌, ◌/◌, ◌%◌, ◌^◌, ◌≤◌, ◌<◌}
use native.Mathlib.Nat.{mod-eq_of_lt, zero-add, zero-mul, div-eq_of_lt}
use native.Mathlib.Omega.{arith}
use native.Mathlib.Numerals.{add-one}
use lib.ListN.{length, get_or, take, set, length-set}
use lib.Seq.{set_split, get_or-set_same, get_or-set_other}
use lib.Pow.{shr_lt}
use native.Mathlib.Decide.{dec_lt, ℕ_discrete}
use Rattle.bank.specs.Lists.{turned, part, count}
use Rattle.bank.proofs.Counts.{count_none, count-other, count_at}
use Rattle.bank.proofs.Moves.{length-turned, count-turned}
use Rattle.nibbles.specs.Nibbles.{pack, nibbles}
use Rattle.nibbles.proofs.Nibbles.{length-nibbles, take-nibbles, drop-nibbles, pack-append, pack-nibbles, Small, small-nibbles, pack-lt}

-- ---- parts of a run, packed again

pub part-nibbles : (a b m v : ℕ) → a ≤ b → b ≤ m → part a b (nibbles m v) ≡ nibbles (b - a) (v / 2 ^ (4 * a))
part-nibbles a b m v h k =
    ap (take (b - a)) (drop-nibbles a m v (omega arith))
    ∙ take-nibbles (b - a) (m - a) (v / 2 ^ (4 * a)) (omega arith)

-- two runs, one above the other
pub pack-join : (k v : ℕ) (ys : List ℕ) → pack (nibbles k v ++ ys) ≡ pack ys * 2 ^ (4 * k) + v % 2 ^ (4 * k)
pack-join k v ys = rw (pack-append, length-nibbles, pack-nibbles)

-- the nibbles from c on of a number of m nibbles
pub top_lt : (c m v : ℕ) → c ≤ m → v < 2 ^ (4 * m) → v / 2 ^ (4 * c) < 2 ^ (4 * (m - c))
top_lt c m v h l =
    shr_lt (4 * (m - c)) (4 * c)
    (subst (λ (x : ℕ). v < 2 ^ x) (let e : 4 * m ≡ 4 * (m - c) + 4 * c = omega arith in e) l)

pub pack-top : (c m v : ℕ) → c ≤ m → v < 2 ^ (4 * m) → pack (nibbles (m - c) (v / 2 ^ (4 * c))) ≡ v / 2 ^ (4 * c)
pack-top c m v h l = pack-nibbles (m - c) (v / 2 ^ (4 * c)) ∙ mod-eq_of_lt (top_lt c m v h l)

-- no number from 16 on stands among nibbles, nor among nibbles that changed places
none-nibbles : (s k v : ℕ) → 16 ≤ s → count s (nibbles k v) ≡ 0
unfolding nibbles
none-nibbles s zero v h = count_none s
none-nibbles s (suc k) v h = count-other (v % 16) s (nibbles k (v / 16)) (λ e. omega arith) ∙ none-nibbles s k (v / 16) h

small-if-none : (ds : List ℕ) → ((s : ℕ) → 16 ≤ s → count s ds ≡ 0) → Small ds
small-if-none ds h i l =
    elim (dec_lt (get_or ds i 0) 16) [
      | yes m ↦ m
      | no m ↦ absurd (omega (arith, count_at ds i l, h (get_or ds i 0) (omega arith)))
    ]

-- ---- moves, as the code makes them

pub pack-turned : (m v a b c : ℕ) → a ≤ b → b ≤ c → c ≤ m → v < 2 ^ (4 * m)
    → pack (turned a b c (nibbles m v))
    ≡ ((v / 2 ^ (4 * c) * 2 ^ (4 * (b - a)) + v / 2 ^ (4 * a) % 2 ^ (4 * (b - a))) * 2 ^ (4 * (c - b))
    + v / 2 ^ (4 * b) % 2 ^ (4 * (c - b))) * 2 ^ (4 * a) + v % 2 ^ (4 * a)
unfolding turned
pack-turned m v a b c h k l f =
    rw (
      take-nibbles a m v (omega arith),
      part-nibbles b c m v k l,
      part-nibbles a b m v h (omega arith),
      drop-nibbles c m v l,
      pack-join a,
      pack-join (c - b),
      pack-join (b - a),
      pack-top c m v l f,
    )

pub turned_lt : {r : ℕ} (m v a b c : ℕ) → a ≤ b → b ≤ c → r ≡ pack (turned a b c (nibbles m v)) → r < 2 ^ (4 * m)
turned_lt m v a b c h k e =
    rw e
    (subst (λ (n : ℕ). pack (turned a b c (nibbles m v)) < 2 ^ (4 * n)) (length-turned a b c (nibbles m v) h k ∙ length-nibbles m v)
    (pack-lt (turned a b c (nibbles m v))
    (small-if-none (turned a b c (nibbles m v)) (λ s l. count-turned s a b c (nibbles m v) h k ∙ none-nibbles s m v l))))

-- an insertion: what stood from i to m-2 moves up, and the top nibble goes below it
pub pack-inserted : (m v i : ℕ) → i < m → v < 2 ^ (4 * m)
    → pack (turned i (m - 1) m (nibbles m v))
    ≡ (v / 2 ^ (4 * i) % 2 ^ (4 * (m - 1 - i)) * 16 + v / 2 ^ (4 * (m - 1))) * 2 ^ (4 * i) + v % 2 ^ (4 * i)
pack-inserted m v i h f =
    pack-turned m v i (m - 1) m (omega arith) (omega arith) (omega arith) f
    ∙ rw (div-eq_of_lt f, let e : m - (m - 1) ≡ 1 = omega arith in e, mod-eq_of_lt top, zero-mul, zero-add)
  where
    top : v / 2 ^ (4 * (m - 1)) < 16
    top = shr_lt 4 (4 * (m - 1)) (subst (λ (n : ℕ). v < 2 ^ n) (let e : 4 * m ≡ 4 + 4 * (m - 1) = omega arith in e) f)

pub pack-set : (m v k x : ℕ) → k < m → v < 2 ^ (4 * m)
    → pack (set (nibbles m v) k x) ≡ (v / 2 ^ (4 * (k + 1)) * 16 + x) * 2 ^ (4 * k) + v % 2 ^ (4 * k)
unfolding pack
pack-set m v k x h f =
    rw (
      set_split (nibbles m v) k x (let l : k < length (nibbles m v) = rw length-nibbles h in l),
      take-nibbles k m v (omega arith),
      drop-nibbles (suc k) m v h,
      pack-join k,
      ← add-one k,
    )
    (ap (λ (y : ℕ). (y * 16 + x) * 2 ^ (4 * k) + v % 2 ^ (4 * k)) (pack-top (k + 1) m v (omega arith) f))

pub small-set : (m v k x : ℕ) → k < m → x < 16 → Small (set (nibbles m v) k x)
small-set m v k x h l i n =
    elim (ℕ_discrete i k) [
      | yes e ↦ rw (e, get_or-set_same (nibbles m v) k x 0 (rw length-nibbles h)) l
      | no e ↦ rw (get_or-set_other (nibbles m v) k i x 0 e) (small-nibbles m v i (rw length-set at n))
    ]

pub length-put : (m v k x : ℕ) → length (set (nibbles m v) k x) ≡ m
length-put m v k x = length-set (nibbles m v) k x ∙ length-nibbles m v

pub put-lt : {r : ℕ} (m v k x : ℕ) → k < m → x < 16 → r ≡ pack (set (nibbles m v) k x) → r < 2 ^ (4 * m)
put-lt m v k x h l e =
    rw e
    (subst (λ (n : ℕ). pack (set (nibbles m v) k x) < 2 ^ (4 * n)) (length-put m v k x)
    (pack-lt (set (nibbles m v) k x) (small-set m v k x h l)))
