-- What put, del and find print, by what the index says. Assumes nothing.
use Prim.Native.Nat.{ℕ}
use mathlib.Core.Path.{◌≡◌, refl, ap, sym, ◌∙◌}
use mathlib.Core.Bool.{Bool, true, false, cond}
use mathlib.Core.List.{List, [], ◌∷◌}
use native.Mathlib.Omega.{arith}
use lib.Dec.{eqb}
use lib.ListN.{length, get_or}
use borrow.Author.Tests.{ne_eqb}
use Rattle.std.specs.Prelude.{Result, Ok, Err}
use Rattle.refusal.specs.declared.Refusal.{Refusal}
use Rattle.refusal.specs.Refusals.{number_of}
use Rattle.refusal.specs.Answer.{Answer}
use Rattle.refusal.proofs.Laws.{number-pos}
use Rattle.arena.specs.Memory.{Memory, Did, did}
use Rattle.model.specs.Calls.{put_done, find_said, removed}
use Rattle.index_put.specs.declared.PutRefused.{PutRefused}
use Rattle.index_put.specs.declared.PutRefused.TheVariants as put_no
use Rattle.index.specs.Answers.{said_added, said_removed, said_found}
use Rattle.page.specs.Shown.{ok_line, refused_line, number_line}
use Rattle.text.specs.Command.{put, find, del}
use Rattle.page.specs.Page.{Typed}
use Rattle.lines.specs.Answered.{Answered, printed, left, unless_refused}

-- a refusal's number is none of an accepted call
not-zero : (why : Refusal) → eqb (number_of why) 0 ≡ false
not-zero why = ne_eqb (number_of why) 0 (λ e. omega (arith, number-pos why))

-- ---- answers

put-said : (m after : Memory) (key : List ℕ) (frame : ℕ) (x : Result ℕ PutRefused) → did (said_added x) after ≡ put_done m key frame
    → unless_refused (said_added x) ok_line ≡ printed m (put key frame)
unfolding printed
put-said m after key frame x e = ap (λ (d : Did). unless_refused d.answer ok_line) e

del-said : (m after : Memory) (key : List ℕ) (x : Result (Unit {0}) Refusal) → did (said_removed x) after ≡ removed m key
    → unless_refused (said_removed x) ok_line ≡ printed m (del key)
unfolding printed
del-said m after key x e = ap (λ (d : Did). unless_refused d.answer ok_line) e

find-said : (m : Memory) (key : List ℕ) (x : Result ℕ Refusal) → said_found x ≡ find_said m key
    → unless_refused (said_found x) (number_line (get_or (said_found x).values 0 0)) ≡ printed m (find key)
unfolding printed
find-said m key x e = ap (λ (a : Answer). unless_refused a (number_line (get_or a.values 0 0))) e

module _ {m after : Memory} {out written : List ℕ} {r : ℕ} where
  module _ (key : List ℕ) (frame : ℕ) {x : Result ℕ PutRefused} (e : did (said_added x) after ≡ put_done m key frame) where
    pub put-ok : {n : ℕ} → x ≡ Ok n → Typed out 0 ok_line r written → Answered m (put key frame) out r after written
    unfolding left unless_refused
    put-ok d t = record { leaves = ap (λ (d : Did). d.after) e; prints = rw (← put-said m after key frame x e, d) t }

    pub put-few-nodes : {no : PutRefused} {n : ℕ} → x ≡ Err no → no ≡ put_no.TooFewNodes n → Typed out 0 (refused_line 14) r written
        → Answered m (put key frame) out r after written
    unfolding left unless_refused
    put-few-nodes d f t = record { leaves = ap (λ (d : Did). d.after) e; prints = rw (← put-said m after key frame x e, d, f) t }

    pub put_refused : {no : PutRefused} {why : Refusal} → x ≡ Err no → no ≡ put_no.Refused why → Typed out 0 (refused_line (number_of why)) r written
        → Answered m (put key frame) out r after written
    unfolding left unless_refused
    put_refused {why = why} d f t =
        record { leaves = ap (λ (d : Did). d.after) e; prints = rw (← put-said m after key frame x e, d, f, not-zero why) t }

  module _ (key : List ℕ) {x : Result (Unit {0}) Refusal} (e : did (said_removed x) after ≡ removed m key) where
    pub del_ok : {u : Unit {0}} → x ≡ Ok u → Typed out 0 ok_line r written → Answered m (del key) out r after written
    unfolding left unless_refused
    del_ok d t = record { leaves = ap (λ (d : Did). d.after) e; prints = rw (← del-said m after key x e, d) t }

    pub del-refused : {why : Refusal} → x ≡ Err why → Typed out 0 (refused_line (number_of why)) r written
        → Answered m (del key) out r after written
    unfolding left unless_refused
    del-refused {why} d t =
        record { leaves = ap (λ (d : Did). d.after) e; prints = rw (← del-said m after key x e, d, not-zero why) t }

module _ (m : Memory) {out written : List ℕ} {r : ℕ} (key : List ℕ) {x : Result ℕ Refusal} (e : said_found x ≡ find_said m key) where
  pub find-frame : {frame : ℕ} → x ≡ Ok frame → Typed out 0 (number_line frame) r written
      → Typed out 0 (printed m (find key)) r written
  unfolding unless_refused
  find-frame d t = rw (← find-said m key x e, d) t

  pub find-refused : {why : Refusal} → x ≡ Err why → Typed out 0 (refused_line (number_of why)) r written
      → Typed out 0 (printed m (find key)) r written
  unfolding unless_refused
  find-refused {why} d t = rw (← find-said m key x e, d, not-zero why) t
