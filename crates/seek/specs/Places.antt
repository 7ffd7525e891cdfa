-- Places among the ikeys of an internode.
use Rattle.std.specs.Prelude.{ℕ, List, leb}
use Rattle.internode.specs.Lists.{after_last}

-- after the last that is not above this one
unfoldable pub place_among : ℕ → List ℕ → ℕ
place_among ikey ks = after_last (λ k. leb k ikey) ks
