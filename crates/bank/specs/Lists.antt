-- Lists of positions: the two ways in which document 01 moves slots, and what it asks of the slots that they hold.
use Rattle.std.specs.Prelude.{ℕ, zero, suc, ◌-◌, Bool, true, false, ◌&&◌, List, [], ◌∷◌, ◌++◌, length, get_or, take, drop, set, eqb}
pub use Rattle.order.specs.Lists.{here_or_later}

-- positions a to b-1
abbrev pub part : ℕ → ℕ → List ℕ → List ℕ
part a b ps = take (b - a) (drop a ps)

-- positions a to c-1 become old b to c-1, then old a to b-1; the others stay
unfoldable pub turned : ℕ → ℕ → ℕ → List ℕ → List ℕ
turned a b c ps = take a ps ++ (part b c ps ++ (part a b ps ++ drop c ps))

-- positions i and j change places
unfoldable pub swapped : ℕ → ℕ → List ℕ → List ℕ
swapped i j ps = set (set ps i (get_or ps j 0)) j (get_or ps i 0)

-- one more where the test holds
abbrev pub one_more_if : Bool → ℕ → ℕ
one_more_if true n = suc n
one_more_if false n = n

-- how often s stands in the list
unfoldable pub count : ℕ → List ℕ → ℕ
count s [] = zero
count s (p ∷ ps) = one_more_if (eqb p s) (count s ps)

-- the test passes at each number below n
abbrev pub all_below : ℕ → (ℕ → Bool) → Bool
all_below zero test = true
all_below (suc n) test = test n && all_below n test

-- the W positions hold 0 to W-1 once each
unfoldable pub each_once : List ℕ → Bool
each_once ps = all_below (length ps) (λ s. eqb (count s ps) 1)

-- the first position that holds s, or the length where none does
unfoldable pub place_of : ℕ → List ℕ → ℕ
place_of s [] = zero
place_of s (p ∷ ps) = here_or_later (eqb p s) (place_of s ps)

-- s, s+1, .., k numbers
unfoldable pub up : ℕ → ℕ → List ℕ
up s zero = []
up s (suc k) = s ∷ up (suc s) k

-- f at s, s+1, .., k values
unfoldable pub listed : (ℕ → ℕ) → ℕ → ℕ → List ℕ
listed f s zero = []
listed f s (suc k) = f s ∷ listed f (suc s) k
