-- In whatever parts an input comes, its lines are carried out, each once and in order; where a write failed, those up to that one.
-- Assumes nothing.
use Prim.Native.Nat.{ℕ, zero, suc, ◌+◌, ◌≤◌}
use mathlib.Core.Path.{◌≡◌, refl, ap, sym, ◌∙◌}
use mathlib.Core.Logic.{⊎_elim}
use mathlib.Core.Bool.{true, false}
use mathlib.Core.List.{List, [], ◌∷◌, ◌++◌, map, append_assoc, append-nil}
use native.Mathlib.Omega.{arith}
use lib.Dec.{leb}
use lib.ListN.{length, take, length-append, length-map}
use lib.Seq.{take_all, take-nil, length-take-le, take-append-le, take-append-add}
use borrow.Author.Tests.{lt-leb}
use Rattle.arena.specs.Memory.{Memory}
use Rattle.arena.proofs.Words.{lt-or-ge}
use Rattle.text.specs.Split.{up_to}
use Rattle.text.specs.Command.{Command, read}
use Rattle.line_input.specs.Input.{kept, lines_of, in_one, unless_empty}
use Rattle.line_input.proofs.Inputs.{Clean, gone-through, line-last, empty-kept}
use Rattle.lines_said.specs.Said.{left}
use Rattle.lines_parts.specs.Parts.{left_by, lines_here, PartDone, PartsDone, no_part, one_more}

-- ---- lines carried out

pub left-append : (m : Memory) (ls ks : List (List ℕ)) → left_by m (ls ++ ks) ≡ left_by (left_by m ls) ks
unfolding left_by
left-append m [] ks = refl
left-append m (l ∷ ls) ks = left-append (left m (read l)) ls ks

-- ---- as much of a line as is kept says what the line says

read_kept : (l : List ℕ) → read (kept l) ≡ read l
unfolding read
read_kept l =
    ⊎_elim
    (λ h.
    let a : leb (length l) 1200 ≡ false = lt-leb (length l) 1200 (omega arith) in
    let b : leb (length (kept l)) 1200 ≡ false = rw (length-take-le 1201 l (omega arith)) refl in
    rw (a, b) refl)
    (λ h. rw (take_all 1201 l h) refl)
    (lt-or-ge 1201 (length l))

left-kept : (m : Memory) (ls : List (List ℕ)) → left_by m (map kept ls) ≡ left_by m ls
unfolding left_by
left-kept m [] = refl
left-kept m (l ∷ ls) =
    ap (λ (w : Command). left_by (left m w) (map kept ls)) (read_kept l) ∙ left-kept (left m (read l)) ls

take-map : {A B : Type 0} (f : A → B) (j : ℕ) (xs : List A) → take j (map f xs) ≡ map f (take j xs)
take-map f zero xs = refl
take-map f (suc j) [] = refl
take-map f (suc j) (x ∷ xs) = ap (λ (l : List _). f x ∷ l) (take-map f j xs)

-- ---- parts gone through: `raw` is all of a line so far, and `done` are the lines carried out

record Through (m : Memory) (raw : List ℕ) (parts : List (List ℕ)) (n : ℕ) (after : Memory) (held raw' : List ℕ)
    (done : List (List ℕ)) : Type 0 where
  clean : Clean raw'
  keeps : held ≡ kept raw'
  count : length done ≡ n
  leaves : after ≡ left_by m done
  says : (rest : List ℕ) → map kept (lines_of (raw ++ (in_one parts ++ rest))) ≡ done ++ map kept (lines_of (raw' ++ rest))

through : {m after : Memory} {held last : List ℕ} {parts : List (List ℕ)} {n : ℕ} → PartsDone m held parts n after last
    → (raw : List ℕ) → held ≡ kept raw → Clean raw → (raw' : List ℕ) × (done : List (List ℕ)) × Through m raw parts n after last raw' done
unfolding left_by in_one
through no_part raw e c = (raw, [], record { clean = c; keeps = e; count = refl; leaves = refl; says = λ rest. refl })
through (one_more {m = m} {held = held} {part = p} {parts = ps} {here = k} d ds) raw e c =
    let (mid, g) = gone-through (suc (length p)) held raw p e c (omega arith) in
    let w = d.written refl in
    let (raw', done, t) = through ds mid (w.1 ∙ g.keeps) g.clean in
    let here = lines_here held p in (
      raw',
      here ++ done,
      record {
        clean = t.clean;
        keeps = t.keeps;
        count = omega (arith, length-append here done, t.count, w.0);
        leaves =
            t.leaves
            ∙ ap (λ (x : Memory). left_by x done) (d.leaves ∙ ap (left_by m) (take_all k here (omega (arith, w.0))))
            ∙ sym (left-append m here done);
        says =
            λ rest.
            ap (λ (l : List ℕ). map kept (lines_of (raw ++ l))) (append_assoc p (in_one ps) rest)
            ∙ g.says (in_one ps ++ rest)
            ∙ ap (λ (l : List (List ℕ)). here ++ l) (t.says rest)
            ∙ sym (append_assoc here done (map kept (lines_of (raw' ++ rest))));
      },
    )

module _ {m after : Memory} {held : List ℕ} {parts : List (List ℕ)} {n : ℕ} (d : PartsDone m [] parts n after held) where
  -- all parts gone through, and what is kept at the end answered too
  pub all_lines : {last : Memory} → last ≡ left_by after (unless_empty held) → last ≡ left_by m (lines_of (in_one parts))
  unfolding up_to
  all_lines e =
      let (raw, done, t) = through d [] (sym (take-nil 1201)) refl in
      let l : map kept (lines_of (in_one parts)) ≡ done ++ unless_empty held =
      ap (λ (s : List ℕ). map kept (lines_of s)) (sym (append-nil (in_one parts)))
      ∙ t.says []
      ∙ ap (λ (s : List ℕ). done ++ map kept (lines_of s)) (append-nil raw)
      ∙ ap (λ (ls : List (List ℕ)). done ++ ls)
      (ap (map kept) (line-last raw t.clean) ∙ sym (empty-kept 1200 raw) ∙ ap unless_empty (sym t.keeps)) in
      e
      ∙ ap (λ (x : Memory). left_by x (unless_empty held)) t.leaves
      ∙ sym (left-append m done (unless_empty held))
      ∙ ap (left_by m) (sym l)
      ∙ left-kept m (lines_of (in_one parts))

  -- a write failed in the next part: the lines up to that one, whatever else the input has
  module _ (part : List ℕ) (k : ℕ) {last : Memory} {rest-of-line : List ℕ} (f : PartDone after held part k true last rest-of-line)
      (more : List ℕ) where
    abbrev input : List ℕ
    input = in_one parts ++ (part ++ more)

    pub first-lines : (last ≡ left_by m (take (n + k) (lines_of input))) × (n + k ≤ length (lines_of input))
    unfolding up_to
    first-lines =
        let (raw, done, t) = through d [] (sym (take-nil 1201)) refl in
        let (mid, g) = gone-through (suc (length part)) held raw part t.keeps t.clean (omega arith) in
        let here = lines_here held part in
        let far = map kept (lines_of (mid ++ more)) in
        let l : map kept (lines_of input) ≡ done ++ (here ++ far) =
        t.says (part ++ more) ∙ ap (λ (ls : List (List ℕ)). done ++ ls) (g.says more) in
        let s : take (n + k) (done ++ (here ++ far)) ≡ done ++ take k here =
        ap (λ (j : ℕ). take (j + k) (done ++ (here ++ far))) (sym t.count)
        ∙ take-append-add done (here ++ far) k
        ∙ ap (λ (ls : List (List ℕ)). done ++ ls) (take-append-le k here far (f.stopped refl).1) in (
          f.leaves
              ∙ ap (λ (x : Memory). left_by x (take k here)) t.leaves
              ∙ sym (left-append m done (take k here))
              ∙ ap (left_by m) (sym s ∙ ap (take (n + k)) (sym l) ∙ take-map kept (n + k) (lines_of input))
              ∙ left-kept m (take (n + k) (lines_of input)),
          omega (
            arith,
            ap length l,
            length-map (lines_of input) kept,
            length-append done (here ++ far),
            length-append here far,
            t.count,
            (f.stopped refl).1,
          ),
        )
