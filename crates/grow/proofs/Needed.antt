-- What an entry more needs, and what a conflict makes: a law for each way in which a count returns. Assumes nothing.
use Prim.Native.Nat.{ℕ, suc, ◌+◌, ◌*◌, ◌-◌, ◌%◌, ◌≤◌, ◌<◌}
use mathlib.Core.Path.{◌≡◌, sym, ap, ◌∙◌}
use mathlib.Core.Bool.{Bool, true, false}
use mathlib.Core.List.{List}
use native.Mathlib.Numerals.{add-one}
use native.Mathlib.Decide.{dec_lt}
use native.Mathlib.Omega.{arith}
use lib.Dec.{eqb}
use lib.ListN.{length}
use borrow.Author.Rules.{rules}
use borrow.Author.Tests.{lt-ltb, le-ltb, not-true, not-false}
use Rattle.order.specs.Layer.{ikey_at}
use Rattle.arena.specs.Layout.{word_at}
use Rattle.model.specs.Down.{child_for}
use Rattle.model.specs.Needed.{split_too, need_in, both_go_on, layers_of}

-- ---- nodes

module _ (size taken : ℕ) where
  pub split-none : size < 15 → 0 ≡ split_too size taken
  split-none l = rw (lt-ltb size 15 l)

  pub split_one : 15 ≤ size → taken + 1 ≡ split_too size taken
  split_one l = rw (le-ltb size 15 l, add-one taken)

  pub split-few : (h : ℕ) {r : ℕ} → taken + h ≤ 256 → 0 < h → r ≡ split_too size taken → r + (h - 1) ≤ 256
  split-few h {r} f l e =
      elim (dec_lt size 15) [
        | yes d ↦ omega (arith, e ∙ sym (split-none d))
        | no d ↦ omega (arith, e ∙ sym (split_one (omega arith)))
      ]

module _ (nodes : List ℕ) (ikey h n taken : ℕ) {all : ℕ} (e : all ≡ need_in nodes h n ikey taken) where
  pub need-next : 0 < h → {word more child : ℕ} → word ≡ word_at nodes n 1 → more ≡ split_too word taken → child ≡ child_for nodes n ikey
      → all ≡ need_in nodes (h - 1) child ikey more
  unfolding need_in
  need-next l w m d = rw (d, m, w) (e ∙ ap (λ (i : ℕ). need_in nodes i n ikey taken) (let z : h ≡ suc (h - 1) = omega arith in z))

  pub need-end : h ≤ 0 → {word size more : ℕ} → word ≡ word_at nodes n 1 → size ≡ word % 16 → more ≡ split_too size taken → more ≡ all
  unfolding need_in
  need-end l w z m = rw (m, z, w) (sym (e ∙ ap (λ (i : ℕ). need_in nodes i n ikey taken) (let z : h ≡ 0 = omega arith in z)))

-- ---- layers

module _ (key other : List ℕ) (links : ℕ) where
  pub go-short : length key ≤ 8 * links + 8 → false ≡ both_go_on key other links
  unfolding both_go_on
  go-short l = rw (le-ltb (8 * links + 8) (length key) l)

  module _ (h : 8 * links + 8 < length key) where
    pub go-shorter : length other ≤ 8 * links + 8 → false ≡ both_go_on key other links
    unfolding both_go_on
    go-shorter l = rw (lt-ltb (8 * links + 8) (length key) h, le-ltb (8 * links + 8) (length other) l)

    pub go_same : 8 * links + 8 < length other → {a b : ℕ} → a ≡ ikey_at key (8 * links) → b ≡ ikey_at other (8 * links)
        → eqb a b ≡ both_go_on key other links
    unfolding both_go_on
    go_same l ea eb = rw (lt-ltb (8 * links + 8) (length key) h, lt-ltb (8 * links + 8) (length other) l, ea, eb)

module _ (key other : List ℕ) (made at all : ℕ) (e : all + 1 ≡ made + layers_of (31 - at) key other at) where
  pub layers-last : 31 ≤ at → made ≡ all
  unfolding layers_of
  layers-last l =
      let z : 31 - at ≡ 0 = omega arith in
      let y : all + 1 ≡ made + 1 = rw z at e in
      omega arith

  module _ {go : Bool} (l : at < 31) (g : go ≡ both_go_on key other at) where
    opened : 31 - at ≡ suc (31 - (at + 1))
    opened = omega arith

    pub layers-end : go ≡ false → made ≡ all
    unfolding layers_of
    layers-end n =
        let z : both_go_on key other at ≡ false = sym g ∙ n in
        let y : all + 1 ≡ made + 1 = rw (opened, z) at e in
        omega arith

    pub layers-next : go ≡ true → all + 1 ≡ made + 1 + layers_of (31 - (at + 1)) key other (at + 1)
    unfolding layers_of
    layers-next n =
        let z : both_go_on key other at ≡ true = sym g ∙ n in
        let y : all + 1 ≡ made + suc (layers_of (31 - (at + 1)) key other (at + 1)) = rw (opened, z, ← add-one at) at e in
        omega arith

pub ruleset counts = (
  rules,
  not-true,
  not-false,
  split-none,
  split_one,
  split-few,
  need-next,
  need-end,
  go-short,
  go-shorter,
  go_same,
  layers-last,
  layers-end,
  layers-next,
)
