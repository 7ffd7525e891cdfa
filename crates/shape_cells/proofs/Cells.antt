-- A law for each way in which a judgement of a cell, and of the key in it, returns. Assumes nothing.
use Prim.Native.Nat.{ℕ, suc, ◌+◌, ◌*◌, ◌-◌, ◌≤◌, ◌<◌}
use mathlib.Core.Path.{◌≡◌, refl, sym, ap, ap₂, ◌∙◌}
use mathlib.Core.Bool.{Bool, true, false, not, ◌&&◌}
use mathlib.Core.List.{List, [], ◌∷◌}
use native.Mathlib.Omega.{arith}
use lib.Dec.{eqb, leb, ltb}
use lib.ListN.{length, get_or, take, drop}
use lib.Seq.{length-take-le, get_or-take, drop-cons, drop-length}
use borrow.Author.Rules.{rules}
use borrow.Author.Tests.{le-leb, lt-leb, le-ltb, lt-ltb, eq-eqb, ne_eqb, not-true, not-false, leb-true, ltb-true}
use Rattle.order.specs.Layer.{big_endian, ikey_at, class_of}
use Rattle.keys_read.proofs.Ikeys.{read-part}
use Rattle.leaf.proofs.Lists.{both}
use Rattle.arena.specs.Parts.{part}
use Rattle.arena.specs.Layout.{mark_at, key_start}
use Rattle.forest.specs.Nodes.{all_zero}
use Rattle.forest.specs.Cells.{cell_right, under, keyed, filed, is_cell_free}

-- ---- the cell

module _ (cells bytes : List ℕ) (c : ℕ) where
  pub cell_unmarked : get_or cells (c * 2) 0 < 1 → false ≡ cell_right cells bytes c
  unfolding cell_right
  cell_unmarked h = rw (lt-leb 1 (get_or cells (c * 2) 0) h)

  module _ (some : 1 ≤ get_or cells (c * 2) 0) where
    pub cell-long : 257 < get_or cells (c * 2) 0 → false ≡ cell_right cells bytes c
    unfolding cell_right
    cell-long h = rw (le-leb 1 (get_or cells (c * 2) 0) some, lt-leb (get_or cells (c * 2) 0) 257 h)

    pub cell-tail : get_or cells (c * 2) 0 ≤ 257 → {r : Bool}
        → r ≡ all_zero (part bytes (c * 256 + (get_or cells (c * 2) 0 - 1)) (256 - (get_or cells (c * 2) 0 - 1)))
        → r ≡ cell_right cells bytes c
    unfolding cell_right
    cell-tail h e =
        rw (le-leb 1 (get_or cells (c * 2) 0) some, le-leb (get_or cells (c * 2) 0) 257 h)
        (e ∙ ap (λ (n : ℕ). all_zero (part bytes (c * 256 + (get_or cells (c * 2) 0 - 1)) n))
        (let z : 256 - (get_or cells (c * 2) 0 - 1) ≡ 257 - get_or cells (c * 2) 0 = omega arith in z))

  -- what is known of the mark of a right cell
  module _ (e : cell_right cells bytes c ≡ true) where
    right-some : 1 ≤ mark_at cells c
    unfolding cell_right
    right-some = leb-true 1 (mark_at cells c) (both {a = leb 1 (mark_at cells c)} e).0

    right-short : mark_at cells c ≤ 257
    unfolding cell_right
    right-short =
        leb-true (mark_at cells c) 257 (both {a = leb (mark_at cells c) 257} (both {a = leb 1 (mark_at cells c)} e).1).0

  module _ {r : Bool} (e : r ≡ cell_right cells bytes c) where
    pub filed-not : (above : List ℕ) (ikey class : ℕ) → not r ≡ true → false ≡ filed cells bytes above ikey class c
    unfolding filed
    filed-not above ikey class h = rw (← e, not-true r h)

    module _ (h : not r ≡ false) {mark : ℕ} (em : mark ≡ mark_at cells c) where
      pub mark-some : 1 ≤ mark
      mark-some = omega (arith, right-some (sym e ∙ not-false r h))

      pub mark-short : mark - 1 ≤ 256
      mark-short = omega (arith, right-short (sym e ∙ not-false r h))

      pub filed-keyed : (above : List ℕ) (ikey class : ℕ) {key : List ℕ} {s : Bool} → key ≡ part bytes (key_start c) (mark - 1)
          → s ≡ keyed key above ikey class → s ≡ filed cells bytes above ikey class c
      unfolding filed
      filed-keyed above ikey class ek es =
          rw (← e, not-false r h)
          (es ∙ ap (λ (x : List ℕ). keyed x above ikey class) (ek ∙ ap (λ (n : ℕ). part bytes (key_start c) (n - 1)) em))

-- ---- a free cell

module _ (cells bytes : List ℕ) (c : ℕ) {r : Bool} (e : r ≡ all_zero (part cells (c * 2) 2)) where
  pub cell-held : not r ≡ true → false ≡ is_cell_free cells bytes c
  unfolding is_cell_free
  cell-held h = rw (← e, not-true r h)

  pub cell-bytes : not r ≡ false → {s : Bool} → s ≡ all_zero (part bytes (c * 256) 256) → s ≡ is_cell_free cells bytes c
  unfolding is_cell_free
  cell-bytes h d = rw (← e, not-false r h) d

-- ---- the ikeys of the links above a key

-- a key that goes on behind the last of its ikeys is longer than all of them
under-long : (key : List ℕ) (offset : ℕ) (ks : List ℕ) → under key offset ks ≡ true → 0 < length ks → offset + 8 * length ks < length key
unfolding under
under-long key offset [] e l = absurd (omega arith)
under-long key offset (k ∷ []) e l =
    let z : offset + 8 < length key
    = ltb-true (offset + 8) (length key) (both {a = ltb (offset + 8) (length key)} (both {a = eqb (ikey_at key offset) k} e).1).0 in
    omega arith
under-long key offset (k ∷ (n ∷ ks)) e l =
    let z : offset + 8 + 8 * length (n ∷ ks) < length key
    = under-long key (offset + 8) (n ∷ ks) (both {a = ltb (offset + 8) (length key)} (both {a = eqb (ikey_at key offset) k} e).1).1
    (omega arith) in
    omega arith

unless-true : (b : Bool) → (b ≡ true → ⊥) → false ≡ b
unless-true true f = absurd (f refl)
unless-true false f = refl

module _ (key above : List ℕ) (links : ℕ) (fits : links ≤ length above) where
  abbrev ks : List ℕ
  ks = take links above

  long : length ks ≡ links
  long = length-take-le links above fits

  pub under_none : links ≡ 0 → true ≡ under key 0 (take links above)
  unfolding under
  under_none z = rw z

  pub under-short : (links ≡ 0 → ⊥) → length key ≤ 8 * links → false ≡ under key 0 (take links above)
  under-short some h =
      unless-true (under key 0 ks) (λ e. omega (arith, long, under-long key 0 ks e (omega (arith, long, some))))

  module _ {i : ℕ} (e : under key 0 (take links above) ≡ under key (8 * i) (drop i (take links above))) where
    step : i < links → under key 0 (take links above)
        ≡ (eqb (ikey_at key (8 * i)) (get_or above i 0)
        && (ltb (8 * i + 8) (length key) && under key (8 * i + 8) (drop (suc i) (take links above))))
    unfolding under
    step l =
        e
        ∙ ap (under key (8 * i))
        (drop-cons ks i 0 (omega (arith, long)) ∙ ap (λ (x : ℕ). x ∷ drop (suc i) ks) (get_or-take links above i 0 l))

    module _ (l : i < links) {read : ℕ} (er : read ≡ big_endian 8 (take (length key - 8 * i) (drop (8 * i) key))) where
      here : read ≡ ikey_at key (8 * i)
      here = read-part key (8 * i) er

      pub under-other : (read ≡ get_or above i 0 → ⊥) → false ≡ under key 0 (take links above)
      under-other h =
          sym (step l ∙ ap (λ (b : Bool). b && (ltb (8 * i + 8) (length key) && under key (8 * i + 8) (drop (suc i) (take links above))))
          (ne_eqb (ikey_at key (8 * i)) (get_or above i 0) (λ q. h (here ∙ q))))

      module _ (same : read ≡ get_or above i 0) where
        stepped : under key 0 (take links above) ≡ (ltb (8 * i + 8) (length key) && under key (8 * i + 8) (drop (suc i) (take links above)))
        stepped =
            step l ∙ ap (λ (b : Bool). b && (ltb (8 * i + 8) (length key) && under key (8 * i + 8) (drop (suc i) (take links above))))
            (eq-eqb (ikey_at key (8 * i)) (get_or above i 0) (sym here ∙ same))

        pub under_next : 8 * links < length key → under key 0 (take links above) ≡ under key (8 * (i + 1)) (drop (i + 1) (take links above))
        under_next h =
            stepped ∙ ap (λ (b : Bool). b && under key (8 * i + 8) (drop (suc i) (take links above)))
            (lt-ltb (8 * i + 8) (length key) (omega arith))
            ∙ ap₂ (λ (o n : ℕ). under key o (drop n (take links above)))
            (let z : 8 * i + 8 ≡ 8 * (i + 1) = omega arith in z) (let z : suc i ≡ i + 1 = omega arith in z)

    pub under_all : i ≤ links → links ≤ i → true ≡ under key 0 (take links above)
    unfolding under
    under_all h l =
        sym (e ∙ ap (under key (8 * i))
        (ap (λ (n : ℕ). drop n ks) (let z : i ≡ length ks = omega (arith, long) in z) ∙ drop-length ks))

  -- ---- and the ikey and class below them

  module _ (ikey class : ℕ) {r : Bool} (e : r ≡ under key 0 (take links above)) where
    pub keyed-not : not r ≡ true → false ≡ keyed key (take links above) ikey class
    unfolding keyed
    keyed-not h = rw (← e, not-true r h)

    module _ (h : not r ≡ false) {read : ℕ} (er : read ≡ ikey_at key (8 * links)) where
      pub keyed-other : (read ≡ ikey → ⊥) → false ≡ keyed key (take links above) ikey class
      unfolding keyed
      keyed-other q = rw (← e, not-false r h, long, ← er, ne_eqb read ikey q)

      pub keyed-class : read ≡ ikey → {left told : ℕ} → left ≡ length key - 8 * links → told ≡ class_of left
          → eqb told class ≡ keyed key (take links above) ikey class
      unfolding keyed
      keyed-class q el et =
          rw (← e, not-false r h, long, ← er, eq-eqb read ikey q) (ap (λ (n : ℕ). eqb n class) (et ∙ ap class_of el))

pub ruleset cells = (cell_unmarked, cell-long, cell-tail)

pub ruleset frees = (cell-held, cell-bytes)

pub ruleset filing = (rules, mark-some, mark-short, filed-not, filed-keyed)

pub ruleset unders = (under_none, under-short, under-other, under_all)

pub ruleset keys = (keyed-not, keyed-other, keyed-class)
