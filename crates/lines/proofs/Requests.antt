-- The command of a line by what the code has of it. Assumes nothing.
use Prim.Native.Nat.{ℕ, ◌+◌, ◌≤◌}
use mathlib.Core.Path.{◌≡◌, refl, ap, sym, ◌∙◌}
use mathlib.Core.List.{List, [], ◌∷◌, ◌++◌}
use native.Mathlib.Nat.{zero-add}
use native.Mathlib.Omega.{arith}
use lib.ListN.{length, take, drop, length-append}
use lib.Seq.{take-append_seam, length-take-le}
use Rattle.arena.specs.Parts.{put_part}
use Rattle.arena.specs.Memory.{Memory, memory}
use Rattle.text.specs.declared.inside.Line.{Line}
use Rattle.text.specs.declared.inside.Line.TheVariants as line-is
use Rattle.text.specs.Command.{Command, put, find, del, list, bad, heard, Heard, taken, key_of, line_of}
use Rattle.page.specs.Shown.{bad_line}
use Rattle.page.specs.Page.{Typed}
use Rattle.lines_said.specs.Said.{listed}
use Rattle.lines.specs.Answered.{Answered, printed, left}

front : (b key : List ℕ) → take (length key) (put_part b 0 key) ≡ key
unfolding put_part
front b key = take-append_seam key _

front_fits : (b key : List ℕ) → length key ≤ length (put_part b 0 key)
unfolding put_part
front_fits b key = omega (arith, length-append key (drop (0 + length key) b))

module _ {x : Line} {b' : List ℕ} (b : List ℕ) where
  line-of : (w : Command) → heard x b' ≡ taken w b → x ≡ line_of w
  line-of w e = ap (λ (h : Heard). h.line) e

  key-of : (w : Command) → heard x b' ≡ taken w b → b' ≡ put_part b 0 (key_of w)
  key-of w e = ap (λ (h : Heard). h.buffer) e

  key_back : (w : Command) {n : ℕ} → heard x b' ≡ taken w b → n ≡ length (key_of w) → (take n b' ≡ key_of w) × (n ≤ length b')
  key_back w e l =
      rw (l, key-of w e) (front b (key_of w), front_fits b (key_of w))

  is-put : (w : Command) {n f : ℕ} → heard x b' ≡ taken w b → x ≡ line-is.Put n f → (w ≡ put (take n b') f) × (n ≤ length b')
  is-put (put key frame) {n} {f} e d =
      let l : line-is.Put n f ≡ line-is.Put (length key) frame = sym d ∙ line-of (put key frame) e in
      let k = key_back (put key frame) {n = n} e (cc) in
      (cc k.0, k.1)
  is-put (find key) {n} {f} e d = let l = sym d ∙ line-of (find key) e in let z : ◌≡◌ {A = ℕ} 0 1 = cc in absurd (omega arith)
  is-put (del key) {n} {f} e d = let l = sym d ∙ line-of (del key) e in let z : ◌≡◌ {A = ℕ} 0 1 = cc in absurd (omega arith)
  is-put list {n} {f} e d = let l = sym d ∙ line-of list e in let z : ◌≡◌ {A = ℕ} 0 1 = cc in absurd (omega arith)
  is-put bad {n} {f} e d = let l = sym d ∙ line-of bad e in let z : ◌≡◌ {A = ℕ} 0 1 = cc in absurd (omega arith)

  is-find : (w : Command) {n : ℕ} → heard x b' ≡ taken w b → x ≡ line-is.Find n → (w ≡ find (take n b')) × (n ≤ length b')
  is-find (find key) {n} e d =
      let l : line-is.Find n ≡ line-is.Find (length key) = sym d ∙ line-of (find key) e in
      let k = key_back (find key) {n = n} e (cc) in
      (cc k.0, k.1)
  is-find (put key frame) {n} e d = let l = sym d ∙ line-of (put key frame) e in let z : ◌≡◌ {A = ℕ} 0 1 = cc in absurd (omega arith)
  is-find (del key) {n} e d = let l = sym d ∙ line-of (del key) e in let z : ◌≡◌ {A = ℕ} 0 1 = cc in absurd (omega arith)
  is-find list {n} e d = let l = sym d ∙ line-of list e in let z : ◌≡◌ {A = ℕ} 0 1 = cc in absurd (omega arith)
  is-find bad {n} e d = let l = sym d ∙ line-of bad e in let z : ◌≡◌ {A = ℕ} 0 1 = cc in absurd (omega arith)

  is-del : (w : Command) {n : ℕ} → heard x b' ≡ taken w b → x ≡ line-is.Del n → (w ≡ del (take n b')) × (n ≤ length b')
  is-del (del key) {n} e d =
      let l : line-is.Del n ≡ line-is.Del (length key) = sym d ∙ line-of (del key) e in
      let k = key_back (del key) {n = n} e (cc) in
      (cc k.0, k.1)
  is-del (put key frame) {n} e d = let l = sym d ∙ line-of (put key frame) e in let z : ◌≡◌ {A = ℕ} 0 1 = cc in absurd (omega arith)
  is-del (find key) {n} e d = let l = sym d ∙ line-of (find key) e in let z : ◌≡◌ {A = ℕ} 0 1 = cc in absurd (omega arith)
  is-del list {n} e d = let l = sym d ∙ line-of list e in let z : ◌≡◌ {A = ℕ} 0 1 = cc in absurd (omega arith)
  is-del bad {n} e d = let l = sym d ∙ line-of bad e in let z : ◌≡◌ {A = ℕ} 0 1 = cc in absurd (omega arith)

  is-list : (w : Command) → heard x b' ≡ taken w b → x ≡ line-is.List → w ≡ list
  is-list list e d = refl
  is-list (put key frame) e d = let l = sym d ∙ line-of (put key frame) e in let z : ◌≡◌ {A = ℕ} 0 1 = cc in absurd (omega arith)
  is-list (find key) e d = let l = sym d ∙ line-of (find key) e in let z : ◌≡◌ {A = ℕ} 0 1 = cc in absurd (omega arith)
  is-list (del key) e d = let l = sym d ∙ line-of (del key) e in let z : ◌≡◌ {A = ℕ} 0 1 = cc in absurd (omega arith)
  is-list bad e d = let l = sym d ∙ line-of bad e in let z : ◌≡◌ {A = ℕ} 0 1 = cc in absurd (omega arith)

  is-bad : (w : Command) → heard x b' ≡ taken w b → x ≡ line-is.Bad → w ≡ bad
  is-bad bad e d = refl
  is-bad (put key frame) e d = let l = sym d ∙ line-of (put key frame) e in let z : ◌≡◌ {A = ℕ} 0 1 = cc in absurd (omega arith)
  is-bad (find key) e d = let l = sym d ∙ line-of (find key) e in let z : ◌≡◌ {A = ℕ} 0 1 = cc in absurd (omega arith)
  is-bad (del key) e d = let l = sym d ∙ line-of (del key) e in let z : ◌≡◌ {A = ℕ} 0 1 = cc in absurd (omega arith)
  is-bad list e d = let l = sym d ∙ line-of list e in let z : ◌≡◌ {A = ℕ} 0 1 = cc in absurd (omega arith)

module _ {x : Line} {b' : List ℕ} (b : List ℕ) (w : Command) (e : heard x b' ≡ taken w b) where
  pub put-fits : {n f : ℕ} → x ≡ line-is.Put n f → n ≤ length b'
  put-fits d = (is-put b w e d).1

  pub find-fits : {n : ℕ} → x ≡ line-is.Find n → n ≤ length b'
  find-fits d = (is-find b w e d).1

  pub del-fits : {n : ℕ} → x ≡ line-is.Del n → n ≤ length b'
  del-fits d = (is-del b w e d).1

  pub put_count : {n f : ℕ} → x ≡ line-is.Put n f → n ≡ length (take n b')
  put_count {n} d = sym (length-take-le n b' (is-put b w e d).1)

  pub find-count : {n : ℕ} → x ≡ line-is.Find n → n ≡ length (take n b')
  find-count {n} d = sym (length-take-le n b' (is-find b w e d).1)

  pub del-count : {n : ℕ} → x ≡ line-is.Del n → n ≡ length (take n b')
  del-count {n} d = sym (length-take-le n b' (is-del b w e d).1)

  module _ {m after : Memory} {out written : List ℕ} {r : ℕ} where
    pub put-answered : {n f : ℕ} → x ≡ line-is.Put n f → Answered m (put (take n b') f) out r after written
        → Answered m w out r after written
    put-answered d a = rw (is-put b w e d).0 a

    pub del-answered : {n : ℕ} → x ≡ line-is.Del n → Answered m (del (take n b')) out r after written → Answered m w out r after written
    del-answered d a = rw (is-del b w e d).0 a

  module _ {m : Memory} {out written : List ℕ} {r : ℕ} where
    pub find-answered : {n : ℕ} → x ≡ line-is.Find n → Typed out 0 (printed m (find (take n b'))) r written → Answered m w out r m written
    unfolding left
    find-answered d t = rw (is-find b w e d).0 (record { leaves = refl; prints = t })

    pub list-answered : x ≡ line-is.List → Typed out 0 (listed m) r written → Answered m w out r m written
    unfolding left printed
    list-answered d t = rw (is-list b w e d) (record { leaves = refl; prints = t })

    pub bad-answered : x ≡ line-is.Bad → Typed out 0 bad_line r written → Answered m w out r m written
    unfolding left printed
    bad-answered d t = rw (is-bad b w e d) (record { leaves = refl; prints = t })
