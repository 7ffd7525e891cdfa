-- A part of the input gone through turn by turn: a line ends and is answered, or the part does. Assumes nothing.
use Prim.Native.Nat.{ℕ, zero, suc, ◌+◌, ◌-◌, ◌≤◌, ◌<◌}
use mathlib.Core.Path.{◌≡◌, refl, ap, ap₂, sym, ◌∙◌}
use Rattle.std.proofs.Common.{subst}
use Rattle.std.proofs.KnownBytes.{Appends-trans}
use Rattle.std.specs.Prelude.{Option}
use Rattle.std.specs.Io.KnownBytes.{Appends}
use mathlib.Core.Bool.{Bool, true, false, cond}
use mathlib.Core.List.{List, [], ◌∷◌, ◌++◌, append-nil}
use native.Mathlib.Omega.{arith}
use lib.Dec.{ltb}
use lib.ListN.{length, take, drop, length-append, length-take, length-drop, drop_of_length-le, take-append-drop}
use lib.Seq.{take_all, take-nil, length-take-le, take-append_seam, take-append-add, drop-drop}
use borrow.Author.Tests.{ltb-false}
use Rattle.arena.specs.Parts.{put_part}
use Rattle.arena.proofs.Words.{put-length}
use Rattle.arena.specs.Memory.{Memory}
use Rattle.text.specs.Split.{up_to}
use Rattle.text.specs.Command.{read}
use Rattle.line_input.specs.declared.inside.Taken.{Taken}
use Rattle.line_input.specs.Input.{taken_from, taken_over, lines_in, held_after, unless_empty}
use Rattle.lines.specs.Answered.{left, printed}
use Rattle.lines_parts.proofs.Inputs.{left-append}
use Rattle.each_line.specs.Parts.{left_by, lines_here, held_here, PartDone}
use Rattle.each_line.specs.Written.{printed_by}
use Rattle.each_line.proofs.Written.{printed-more}

-- ---- lines carried out

-- one line more
left-more : (m : Memory) (ls : List (List ℕ)) (k : ℕ) (l : List ℕ) (rest : List (List ℕ)) → drop k ls ≡ l ∷ rest
    → (left_by m (take (k + 1) ls) ≡ left (left_by m (take k ls)) (read l)) × (drop (k + 1) ls ≡ rest) × (k < length ls)
unfolding left_by
left-more m ls k l rest e =
    let n : k < length ls = omega (arith, ap length e, length-drop k ls) in
    let s : ls ≡ take k ls ++ (l ∷ rest) = sym (take-append-drop k ls) ∙ ap (λ (x : List (List ℕ)). take k ls ++ x) e in
    let t : take (k + 1) ls ≡ take k ls ++ (l ∷ []) =
    ap (take (k + 1)) s
    ∙ ap (λ (j : ℕ). take (j + 1) (take k ls ++ (l ∷ rest))) (sym (length-take-le k ls (omega arith)))
    ∙ take-append-add (take k ls) (l ∷ rest) 1
    ∙ ap (λ (x : List (List ℕ)). take k ls ++ x) (one l rest) in
    (ap (left_by m) t ∙ left-append m (take k ls) (l ∷ []), sym (drop-drop 1 k ls) ∙ ap (drop 1) e, n)
  where
    one : (l : List ℕ) (rest : List (List ℕ)) → take 1 (l ∷ rest) ≡ l ∷ []
    one l rest = refl

-- ---- one turn: `h` bytes of a line are kept, and `p` is what is left of the part

module _ (line : List ℕ) (h : ℕ) (p : List ℕ) (fits : h ≤ length line) {t : Taken} (e : t ≡ taken_from h p) {line1 : List ℕ}
    (f : line1 ≡ put_part line h (taken_over h p)) where
  kept-now : take t.kept line1 ≡ take h line ++ taken_over h p
  unfolding put_part
  kept-now =
      let l = length-append (take h line) (taken_over h p) in
      let k : t.kept ≡ length (take h line ++ taken_over h p) =
      ap (λ (x : Taken). x.kept) e ∙ omega (arith, l, length-take-le h line fits) in
      ap₂ (λ (j : ℕ) (s : List ℕ). take j s) k f
      ∙ take-append_seam (take h line ++ taken_over h p) (drop (h + length (taken_over h p)) line)

  ended_is : {b : Bool} → t.ended ≡ b → ltb (length (up_to 10 p)) (length p) ≡ b
  ended_is d = sym (ap (λ (x : Taken). x.ended) e) ∙ d

  used-is : t.used ≡ length (up_to 10 p) + cond (ltb (length (up_to 10 p)) (length p)) 1 0
  used-is = ap (λ (x : Taken). x.used) e

  module _ (n : ℕ) where
    lines-on : t.ended ≡ true → lines_in (suc n) (take h line) p ≡ take t.kept line1 ∷ lines_in n [] (drop t.used p)
    unfolding lines_in
    lines-on d = rw (kept-now, used-is, length-take-le h line fits, ended_is d) refl

    held_on : t.ended ≡ true → held_after (suc n) (take h line) p ≡ held_after n [] (drop t.used p)
    unfolding held_after
    held_on d = rw (used-is, ended_is d) refl

    lines-open : t.ended ≡ false → lines_in (suc n) (take h line) p ≡ []
    unfolding lines_in
    lines-open d = rw (ended_is d) refl

    held-open : t.ended ≡ false → held_after (suc n) (take h line) p ≡ take t.kept line1
    unfolding held_after
    held-open d = rw (kept-now, length-take-le h line fits, ended_is d) refl

-- nothing left of the part
lines_none : (n : ℕ) (held : List ℕ) → lines_in n held [] ≡ []
unfolding lines_in up_to
lines_none zero held = refl
lines_none (suc n) held = refl

held_none : (n : ℕ) (held : List ℕ) → held_after n held [] ≡ held
unfolding held_after up_to
held_none zero held = refl
held_none (suc n) held = rw take-nil (append-nil held)

-- ---- a part gone through so far

-- `from` bytes are used up, `answered` lines are carried out, and h bytes of the next are kept
pub record Going (m : Memory) (held part : List ℕ) (from answered : ℕ) (after : Memory) (line : List ℕ) (h : ℕ) : Type 0 where
  pub short : h ≤ 1201
  pub long : 1201 ≤ length line
  pub few : answered ≤ from
  pub leaves : after ≡ left_by m (take answered (lines_here held part))
  pub lines : drop answered (lines_here held part) ≡ lines_in (suc (length part) - answered) (take h line) (drop from part)
  pub holds : held_here held part ≡ held_after (suc (length part) - answered) (take h line) (drop from part)
  pub counted : answered ≤ length (lines_here held part)

module _ (m : Memory) (part line : List ℕ) (h : ℕ) where
  pub going-none : h ≤ 1201 → 1201 ≤ length line → Going m (take h line) part 0 0 m line h
  unfolding left_by
  going-none a b =
      let k : suc (length part) - 0 ≡ suc (length part) = omega arith in
      record { short = a; long = b; few = omega arith; leaves = refl; lines = rw k; holds = rw k; counted = omega arith }

module _ {m : Memory} {held : List ℕ} (part : List ℕ) (from answered : ℕ) {now : Memory} (line : List ℕ) (h : ℕ)
    (g : Going m held part from answered now line h) where
  -- at the end of the part all its lines are carried out
  pub part-whole : length part ≤ from → PartDone m held part answered false now (take h line)
  part-whole i =
      let d : drop from part ≡ [] = drop_of_length-le part {i = from} i in
      let n = suc (length part) - answered in
      let l : drop answered (lines_here held part) ≡ [] = g.lines ∙ ap (lines_in n (take h line)) d ∙ lines_none n (take h line) in
      let k : held_here held part ≡ take h line = g.holds ∙ ap (held_after n (take h line)) d ∙ held_none n (take h line) in
      record {
        leaves = g.leaves;
        written = λ z. (omega (arith, g.counted, ap length l, length-drop answered (lines_here held part)), sym k);
        stopped = λ z. let y : ◌≡◌ {A = ℕ} 0 1 = cc in absurd (omega arith);
      }

  -- one turn more
  module _ (i : from < length part) {t : Taken} (e : t ≡ taken_from h (take (length part - from) (drop from part))) {line1 : List ℕ}
      (f : line1 ≡ put_part line h (taken_over h (take (length part - from) (drop from part)))) where
    rest : take (length part - from) (drop from part) ≡ drop from part
    rest = take_all (length part - from) (drop from part) (omega (arith, length-drop from part))

    e' : t ≡ taken_from h (drop from part)
    e' = e ∙ ap (taken_from h) rest

    f' : line1 ≡ put_part line h (taken_over h (drop from part))
    f' = f ∙ ap (λ (s : List ℕ). put_part line h (taken_over h s)) rest

    fits : h ≤ length line
    fits = omega (arith, g.short, g.long)

    kept-short : t.kept ≤ 1201
    kept-short = omega (arith, ap (λ (x : Taken). x.kept) e', g.short, length-take (1201 - h) (up_to 10 (drop from part)))

    line-long : 1201 ≤ length line1
    line-long =
        let k = length-take (1201 - h) (up_to 10 (drop from part)) in
        rw f' (omega (arith, put-length line h (taken_over h (drop from part)) (omega (arith, g.short, g.long)), g.long))

    turns : suc (length part) - answered ≡ suc (length part - answered)
    turns = omega (arith, g.few)

    module _ (d : t.ended ≡ true) {after : Memory} (a : after ≡ left now (read (take t.kept line1))) where
      this : drop answered (lines_here held part)
          ≡ take t.kept line1 ∷ lines_in (length part - answered) [] (drop t.used (drop from part))
      this = g.lines ∙ rw turns (lines-on line h (drop from part) fits e' f' (length part - answered) d)

      pub going-ended : Going m held part (from + t.used) (answered + 1) after line1 0
      going-ended =
          let l = left-more m (lines_here held part) answered _ _ this in
          let k : suc (length part) - (answered + 1) ≡ length part - answered = omega arith in
          let u = drop-drop t.used from part in
          let w : t.used ≡ length (up_to 10 (drop from part)) + 1 =
          used-is line h (drop from part) fits e' f' ∙ rw (ended_is line h (drop from part) fits e' f' d) refl in
          record {
            short = omega arith;
            long = line-long;
            few = omega (arith, g.few);
            leaves = a ∙ ap (λ (x : Memory). left x (read (take t.kept line1))) g.leaves ∙ sym l.0;
            lines = rw (k, ← u) l.1;
            holds = g.holds ∙ rw (k, ← u, turns) (held_on line h (drop from part) fits e' f' (length part - answered) d);
            counted = omega (arith, l.2);
          }

      -- and what it prints is written behind what the lines before it printed
      pub printed-ended : (x y z : Option (List ℕ)) → Appends x y (printed_by m (take answered (lines_here held part)))
          → Appends y z (printed now (read (take t.kept line1))) → Appends x z (printed_by m (take (answered + 1) (lines_here held part)))
      printed-ended x y z p q =
          let e = printed-more m (lines_here held part) answered _ _ this in
          let f =
          ap (λ (w : Memory). printed_by m (take answered (lines_here held part)) ++ printed w (read (take t.kept line1))) g.leaves in
          subst (Appends x z) (f ∙ sym e) (Appends-trans x y z _ _ p q)

      pub part-stopped : PartDone m held part (answered + 1) true after (take 0 line1)
      part-stopped =
          record {
            leaves = going-ended.leaves;
            written = λ z. let y : ◌≡◌ {A = ℕ} 0 1 = cc in absurd (omega arith);
            stopped = λ z. (omega arith, going-ended.counted);
          }

    pub going-open : t.ended ≡ false → Going m held part (from + t.used) answered now line1 t.kept
    going-open d =
        let b = ended_is line h (drop from part) fits e' f' d in
        let w : t.used ≡ length (up_to 10 (drop from part)) + 0 = used-is line h (drop from part) fits e' f' ∙ rw b refl in
        let none : drop (from + t.used) part ≡ [] =
        drop_of_length-le part {i = from + t.used}
        (omega (arith, ltb-false (length (up_to 10 (drop from part))) (length (drop from part)) b, length-drop from part)) in
        record {
          short = kept-short;
          long = line-long;
          few = omega (arith, g.few);
          leaves = g.leaves;
          lines =
              g.lines ∙ rw (none, turns) (lines-open line h (drop from part) fits e' f' (length part - answered) d ∙ sym (lines_none _ _));
          holds =
              g.holds ∙ rw (none, turns) (held-open line h (drop from part) fits e' f' (length part - answered) d ∙ sym (held_none _ _));
          counted = g.counted;
        }

-- ---- what is kept when the input has ended

some-kept : (m : Memory) (l : List ℕ) → 0 < length l → left_by m (unless_empty l) ≡ left m (read l)
unfolding left_by unless_empty
some-kept m [] h = absurd (omega arith)
some-kept m (b ∷ bs) h = refl

module _ (m : Memory) (line : List ℕ) (k : ℕ) where
  pub last_none : k ≤ 0 → m ≡ left_by m (unless_empty (take k line))
  unfolding left_by unless_empty
  last_none z = let e : k ≡ 0 = omega arith in rw e refl

  pub last_one : {after : Memory} → 0 < k → k ≤ length line → after ≡ left m (read (take k line))
      → after ≡ left_by m (unless_empty (take k line))
  last_one z i a = a ∙ sym (some-kept m (take k line) (omega (arith, length-take-le k line i)))
