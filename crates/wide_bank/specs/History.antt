-- The history of a wide bank, by what its calls answer.
use Rattle.std.specs.Prelude.{ℕ, List}
use Rattle.bank.specs.Calls.{Change}
use Rattle.bank.specs.History.{Done}
use Rattle.bank.specs.Holder.{held_does}
use Rattle.wide_bytes.specs.Wide.{wides}

-- one call on a wide bank of width w
abbrev pub wide_does : ℕ → Change → List ℕ → Done (List ℕ)
wide_does w c bytes = held_does (wides w) c bytes
