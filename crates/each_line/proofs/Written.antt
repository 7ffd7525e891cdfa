-- What lines print is written, one line behind the other. Assumes nothing.
use Rattle.std.proofs.Common.{◌≡◌, ℕ, zero, suc, ◌+◌, ◌-◌, ◌<◌, ◌≤◌, Bool, true, false, List, [], ◌∷◌, ◌++◌, Ok, Err, length, take}
use Rattle.std.proofs.Common.{drop, refl, sym, ap, ◌∙◌, subst, arith, append_assoc, append-nil, take-append-drop, length-append}
use Rattle.std.proofs.Common.{length-drop}
use Rattle.std.proofs.KnownBytes.{Appends-nil}
use Rattle.std.specs.Prelude.{Option, Result, OnOk, is_ok}
use Rattle.std.specs.Io.KnownBytes.{Appends}
use lib.Seq.{length-take-le, take-append_seam, take-append-add}
use Rattle.arena.specs.Parts.{put_part}
use Rattle.arena.specs.Memory.{Memory}
use Rattle.text.specs.Command.{Command, read}
use Rattle.line_input.specs.Input.{unless_empty}
use Rattle.lines.specs.Answered.{left, printed, Answered}
use Rattle.each_line.specs.Parts.{left_by}
use Rattle.each_line.specs.Written.{printed_by}

-- the answer stands at the front of the lent bytes
pub front-printed : {m after : Memory} {w : Command} {out written : List ℕ} {r : ℕ} → Answered m w out r after written
    → take r written ≡ printed m w
unfolding put_part
front-printed {m} {after} {w} {out} {written} {r} a =
    let t = printed m w in
    let e : r ≡ length t = a.prints.place_is ∙ omega arith in
    ap (λ k. take k written) e ∙ ap (take (length t)) a.prints.bytes-are ∙ take-append_seam t (drop (0 + length t) out)

-- a write that did not fail
pub ok_written : {T E : Type 0} (r : Result T E) (x y : Option (List ℕ)) (bs text : List ℕ) (b : Bool) → b ≡ is_ok r
    → OnOk r (Appends x y bs) → bs ≡ text → b ≡ true → Appends x y text
ok_written (Ok v) x y bs text b e h f t = subst (Appends x y) f h
ok_written (Err v) x y bs text b e h f t = absurd (let z : ◌≡◌ {A = ℕ} 0 1 = cc in omega arith)

-- lines and more lines
printed-append : (m : Memory) (ls ks : List (List ℕ)) → printed_by m (ls ++ ks) ≡ printed_by m ls ++ printed_by (left_by m ls) ks
unfolding printed_by left_by
printed-append m [] ks = refl
printed-append m (l ∷ ls) ks =
    ap (λ (p : List ℕ). printed m (read l) ++ p) (printed-append (left m (read l)) ls ks)
    ∙ sym (append_assoc (printed m (read l)) (printed_by (left m (read l)) ls) (printed_by (left_by (left m (read l)) ls) ks))

one_printed : (m : Memory) (l : List ℕ) → printed_by m (l ∷ []) ≡ printed m (read l)
unfolding printed_by
one_printed m l = append-nil (printed m (read l))

-- one line more
pub printed-more : (m : Memory) (ls : List (List ℕ)) (k : ℕ) (l : List ℕ) (rest : List (List ℕ)) → drop k ls ≡ l ∷ rest
    → printed_by m (take (k + 1) ls) ≡ printed_by m (take k ls) ++ printed (left_by m (take k ls)) (read l)
printed-more m ls k l rest e =
    let n : k < length ls = omega (arith, ap length e, length-drop k ls) in
    let s : ls ≡ take k ls ++ (l ∷ rest) = sym (take-append-drop k ls) ∙ ap (λ (x : List (List ℕ)). take k ls ++ x) e in
    let t : take (k + 1) ls ≡ take k ls ++ (l ∷ []) =
    ap (take (k + 1)) s
    ∙ ap (λ (j : ℕ). take (j + 1) (take k ls ++ (l ∷ rest))) (sym (length-take-le k ls (omega arith)))
    ∙ take-append-add (take k ls) (l ∷ rest) 1
    ∙ ap (λ (x : List (List ℕ)). take k ls ++ x) (one l rest) in
    ap (printed_by m) t
    ∙ printed-append m (take k ls) (l ∷ [])
    ∙ ap (λ (p : List ℕ). printed_by m (take k ls) ++ p) (one_printed (left_by m (take k ls)) l)
  where
    one : (l : List ℕ) (rest : List (List ℕ)) → take 1 (l ∷ rest) ≡ l ∷ []
    one l rest = refl

-- no line yet
pub none_printed : (m : Memory) (ls : List (List ℕ)) (x : Option (List ℕ)) → Appends x x (printed_by m (take 0 ls))
unfolding printed_by
none_printed m ls x = Appends-nil x

-- what is kept when the input has ended
pub last_empty : (m : Memory) (line : List ℕ) (k : ℕ) (x : Option (List ℕ)) → k ≤ 0
    → Appends x x (printed_by m (unless_empty (take k line)))
unfolding printed_by unless_empty
last_empty m line k x z =
    let e : k ≡ 0 = omega arith in
    subst (λ (j : ℕ). Appends x x (printed_by m (unless_empty (take j line)))) (sym e) (Appends-nil x)

some_kept : (m : Memory) (l : List ℕ) → 0 < length l → printed_by m (unless_empty l) ≡ printed m (read l)
unfolding printed_by unless_empty
some_kept m [] h = absurd (omega arith)
some_kept m (b ∷ bs) h = append-nil (printed m (read (b ∷ bs)))

pub last_written : (m : Memory) (line : List ℕ) (k : ℕ) (x y : Option (List ℕ)) → 0 < k → k ≤ length line
    → Appends x y (printed m (read (take k line))) → Appends x y (printed_by m (unless_empty (take k line)))
last_written m line k x y z i a =
    subst (Appends x y) (sym (some_kept m (take k line) (omega (arith, length-take-le k line i)))) a
