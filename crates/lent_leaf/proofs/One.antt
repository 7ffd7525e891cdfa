-- An answer is known by what it says: the contract leaves one outcome. Assumes nothing.
use Prim.Native.Nat.{ℕ}
use mathlib.Core.Path.{◌≡◌, sym, ◌∙◌}
use mathlib.Core.List.{List}
use Rattle.leaf_entries.specs.declared.Entry.{Entry}
use Rattle.std.specs.Prelude.{Result}
use Rattle.leaf.specs.declared.Outcome.{Outcome}
use Rattle.leaf.specs.declared.Refused.{Refused}
use Rattle.leaf.specs.Search.{said_searched}
use Rattle.leaf.proofs.One.{searched-one}
use Rattle.lent_leaf.specs.Search.{lent_search_said}

-- Two answers that the contract of `search` admits are equal.
pub lent-search-one : (word : ℕ) (entries : List Entry) (cells bytes key : List ℕ) (ikey shifts start : ℕ) (x y : Result Outcome Refused)
    → said_searched x ≡ lent_search_said word entries cells bytes key ikey shifts start
    → said_searched y ≡ lent_search_said word entries cells bytes key ikey shifts start → x ≡ y
lent-search-one word entries cells bytes key ikey shifts start x y p q = searched-one x y (p ∙ sym q)
