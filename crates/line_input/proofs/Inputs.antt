-- Lines taken one after another, from whatever parts the input comes in, are the lines of the input, as much of each as is kept. Assumes
-- nothing.
use Prim.Native.Nat.{ℕ, zero, suc, ◌+◌, ◌-◌, ◌<◌}
use mathlib.Core.Path.{◌≡◌, refl, ap, sym, ◌∙◌}
use mathlib.Core.Logic.{⊎_elim}
use mathlib.Core.Bool.{Bool, true, false, cond}
use mathlib.Core.List.{List, [], ◌∷◌, ◌++◌, map, append_assoc, append-nil}
use native.Mathlib.Numerals.{add-one}
use native.Mathlib.Omega.{arith}
use lib.Dec.{eqb, ltb}
use lib.ListN.{length, take, drop, length-drop}
use lib.Seq.{take_all, take-nil, take-append-le, take-append-add, length-take-le}
use borrow.Author.Tests.{ltb-true, ltb-false, eqb-true}
use Rattle.arena.proofs.Words.{lt-or-ge}
use Rattle.text.specs.Split.{up_to, behind, split}
use Rattle.text.proofs.Splits.{take-up}
use Rattle.text.proofs.Keys.{decide}
use Rattle.line_input.specs.Input.{
  unless_empty,
  but_empty_last,
  lines_of,
  kept,
  taken_over,
  lines_in,
  held_after,
  lines_through,
  in_one,
}

-- ---- bytes without a line feed

abbrev pub Clean : List ℕ → Type 0
Clean s = up_to 10 s ≡ s

clean_step : (t : Bool) (b : ℕ) (us bs : List ℕ) → cond t [] (b ∷ us) ≡ b ∷ bs → (t ≡ false) × (us ≡ bs)
clean_step true b us bs e = let z = ap length e in absurd (omega arith)
clean_step false b us bs e = (refl, ap (drop 1) e)

up-append : (w s : List ℕ) → Clean w → up_to 10 (w ++ s) ≡ w ++ up_to 10 s
unfolding up_to
up-append [] s e = refl
up-append (b ∷ bs) s e =
    let f = clean_step (eqb b 10) b (up_to 10 bs) bs e in
    rw f.0 (ap (λ (l : List ℕ). b ∷ l) (up-append bs s f.1))

behind-append : (w s : List ℕ) → Clean w → behind 10 (w ++ s) ≡ behind 10 s
unfolding up_to behind
behind-append [] s e = refl
behind-append (b ∷ bs) s e =
    let f = clean_step (eqb b 10) b (up_to 10 bs) bs e in
    rw f.0 (behind-append bs s f.1)

up_step : (t : Bool) (b : ℕ) (us : List ℕ) → t ≡ eqb b 10 → up_to 10 us ≡ us → up_to 10 (cond t [] (b ∷ us)) ≡ cond t [] (b ∷ us)
unfolding up_to
up_step true b us e h = refl
up_step false b us e h = rw (← e) (ap (λ (l : List ℕ). b ∷ l) h)

clean-up : (s : List ℕ) → Clean (up_to 10 s)
unfolding up_to
clean-up [] = refl
clean-up (b ∷ bs) = up_step (eqb b 10) b (up_to 10 bs) refl (clean-up bs)

-- ---- bytes with one, cut there

cut_step : (t : Bool) (b : ℕ) (us bs : List ℕ) → (t ≡ true → b ≡ 10) → (length us < length bs → bs ≡ us ++ (10 ∷ drop (suc (length us)) bs))
    → length (cond t [] (b ∷ us)) < suc (length bs)
    → b ∷ bs ≡ cond t [] (b ∷ us) ++ (10 ∷ drop (suc (length (cond t [] (b ∷ us)))) (b ∷ bs))
cut_step true b us bs f g h = ap (λ (x : ℕ). x ∷ bs) (f refl)
cut_step false b us bs f g h = ap (λ (l : List ℕ). b ∷ l) (g (omega arith))

cut : (s : List ℕ) → length (up_to 10 s) < length s → s ≡ up_to 10 s ++ (10 ∷ drop (suc (length (up_to 10 s))) s)
unfolding up_to
cut [] h = absurd (omega arith)
cut (b ∷ bs) h = cut_step (eqb b 10) b (up_to 10 bs) bs (eqb-true b 10) (cut bs) h

-- ---- the first line, and the last

line_first : (w s : List ℕ) → Clean w → lines_of (w ++ (10 ∷ s)) ≡ w ∷ lines_of s
unfolding lines_of but_empty_last up_to behind
line_first w s e =
    let u : up_to 10 (w ++ (10 ∷ s)) ≡ w = up-append w (10 ∷ s) e ∙ append-nil w in
    let v : behind 10 (w ++ (10 ∷ s)) ≡ split 10 s = behind-append w (10 ∷ s) e in
    rw (u, v) refl

pub line-last : (w : List ℕ) → Clean w → lines_of w ≡ unless_empty w
unfolding lines_of but_empty_last behind
line-last w e =
    let v : behind 10 w ≡ [] = ap (behind 10) (sym (append-nil w)) ∙ behind-append w [] e in
    rw (e, v) refl

pub empty-kept : (n : ℕ) (w : List ℕ) → unless_empty (take (suc n) w) ≡ map (take (suc n)) (unless_empty w)
unfolding unless_empty
empty-kept n [] = refl
empty-kept n (b ∷ bs) = refl

-- as much as is kept of a line that goes on
take-over : (n : ℕ) (w us : List ℕ) → take n w ++ take (n - length (take n w)) us ≡ take n (w ++ us)
take-over n w us =
    ⊎_elim
    (λ h.
    let z : n - length (take n w) ≡ 0 = omega (arith, length-take-le n w (omega arith)) in
    rw z (append-nil (take n w) ∙ sym (take-append-le n w us (omega arith))))
    (λ h.
    let k : length w + (n - length w) ≡ n = omega arith in
    let t : take n (w ++ us) ≡ w ++ take (n - length w) us = ap (λ (j : ℕ). take j (w ++ us)) (sym k)
    ∙ take-append-add w us (n - length w) in
    rw (take_all n w h) (sym t))
    (lt-or-ge n (length w))

-- ---- a part gone through: `raw` is all of a line so far, `held` as much of it as is kept

pub record Gone (turns : ℕ) (held raw p after : List ℕ) : Type 0 where
  pub clean : Clean after
  pub keeps : held_after turns held p ≡ kept after
  pub says : (rest : List ℕ) → map kept (lines_of (raw ++ (p ++ rest))) ≡ lines_in turns held p ++ map kept (lines_of (after ++ rest))

module _ (n : ℕ) (held raw p : List ℕ) (e : held ≡ kept raw) (c : Clean raw) where
  held_on : held ++ taken_over (length held) p ≡ kept (raw ++ up_to 10 p)
  held_on = rw e (take-over 1201 raw (up_to 10 p))

  module _ (t : ltb (length (up_to 10 p)) (length p) ≡ true) where
    lines-ended : lines_in (suc n) held p ≡ kept (raw ++ up_to 10 p) ∷ lines_in n [] (drop (suc (length (up_to 10 p))) p)
    unfolding lines_in
    lines-ended =
        rw (t, add-one (length (up_to 10 p)))
        (ap (λ (l : List ℕ). l ∷ lines_in n [] (drop (suc (length (up_to 10 p))) p)) held_on)

    held-ended : held_after (suc n) held p ≡ held_after n [] (drop (suc (length (up_to 10 p))) p)
    unfolding held_after
    held-ended = rw (t, add-one (length (up_to 10 p))) refl

    first_ended : (rest : List ℕ) → lines_of (raw ++ (p ++ rest)) ≡ (raw ++ up_to 10 p) ∷ lines_of (drop (suc (length (up_to 10 p))) p ++ rest)
    first_ended rest =
        let u = up_to 10 p in
        let q = drop (suc (length (up_to 10 p))) p in
        ap (λ (l : List ℕ). lines_of (raw ++ (l ++ rest))) (cut p (ltb-true _ _ t))
        ∙ ap (λ (l : List ℕ). lines_of (raw ++ l)) (append_assoc u (10 ∷ q) rest)
        ∙ ap lines_of (sym (append_assoc raw u (10 ∷ (q ++ rest))))
        ∙ line_first (raw ++ u) (q ++ rest) (up-append raw u c ∙ ap (λ (l : List ℕ). raw ++ l) (clean-up p))

    gone-ended : (after : List ℕ) → Gone n [] [] (drop (suc (length (up_to 10 p))) p) after → Gone (suc n) held raw p after
    gone-ended after g =
        record {
          clean = g.clean;
          keeps = held-ended ∙ g.keeps;
          says =
              λ rest.
              ap (map kept) (first_ended rest)
              ∙ ap (λ (l : List (List ℕ)). kept (raw ++ up_to 10 p) ∷ l) (g.says rest)
              ∙ sym (ap (λ (l : List (List ℕ)). l ++ map kept (lines_of (after ++ rest))) lines-ended);
        }

  gone-on : ltb (length (up_to 10 p)) (length p) ≡ false → Gone (suc n) held raw p (raw ++ p)
  unfolding lines_in held_after
  gone-on t =
      let u : up_to 10 p ≡ p = sym (take-up 10 p) ∙ take_all (length (up_to 10 p)) p (ltb-false _ _ t) in
      record {
        clean = up-append raw p c ∙ ap (λ (l : List ℕ). raw ++ l) u;
        keeps = rw t (held_on ∙ ap (λ (l : List ℕ). kept (raw ++ l)) u);
        says = λ rest. rw t (ap (λ (l : List ℕ). map kept (lines_of l)) (sym (append_assoc raw p rest)));
      }

pub gone-through : (n : ℕ) (held raw p : List ℕ) → held ≡ kept raw → Clean raw → length p < n → (after : List ℕ) × Gone n held raw p after
unfolding up_to
gone-through zero held raw p e c h = absurd (omega arith)
gone-through (suc n) held raw p e c h =
    decide (ltb (length (up_to 10 p)) (length p))
    (λ t.
    let q = drop (suc (length (up_to 10 p))) p in
    let l : length (up_to 10 p) < length p = ltb-true _ _ t in
    let (after, g) = gone-through n [] [] q (sym (take-nil 1201)) refl (omega (arith, length-drop (suc (length (up_to 10 p))) p)) in
    (after, gone-ended n held raw p e c t after g))
    (λ t. (raw ++ p, gone-on n held raw p e c t))

all-through : (ps : List (List ℕ)) (held raw : List ℕ) → held ≡ kept raw → Clean raw
    → lines_through held ps ≡ map kept (lines_of (raw ++ in_one ps))
unfolding lines_through in_one
all-through [] held raw e c =
    ap unless_empty e
    ∙ empty-kept 1200 raw
    ∙ ap (map kept) (sym (line-last raw c) ∙ ap lines_of (sym (append-nil raw)))
all-through (p ∷ ps) held raw e c =
    let (after, g) = gone-through (suc (length p)) held raw p e c (omega arith) in
    ap (λ (l : List (List ℕ)). lines_in (suc (length p)) held p ++ l)
    (all-through ps (held_after (suc (length p)) held p) after g.keeps g.clean)
    ∙ sym (g.says (in_one ps))

-- in whatever parts an input comes, its lines are what is taken
pub lines-taken : (parts : List (List ℕ)) → lines_through [] parts ≡ map kept (lines_of (in_one parts))
unfolding up_to
lines-taken parts = all-through parts [] [] (sym (take-nil 1201)) refl
