-- Laws on printed text: one text behind another, numbers in decimal, keys in hex. Assumes nothing.
use Prim.Native.Nat.{ℕ, zero, suc, ◌+◌, ◌-◌, ◌*◌, ◌/◌, ◌%◌, ◌^◌, ◌≤◌, ◌<◌}
use mathlib.Core.Path.{◌≡◌, refl, ap, sym, ◌∙◌}
use mathlib.Core.Bool.{Bool, true, false, cond}
use mathlib.Core.List.{List, [], ◌∷◌, ◌++◌, append_assoc, append-nil}
use native.Mathlib.Numerals.{add-one}
use native.Mathlib.Omega.{arith}
use lib.Dec.{ltb}
use lib.ListN.{length, length-append, set, get_or, take, drop}
use lib.Seq.{take-suc, take_all, length-take-le}
use borrow.Author.Tests.{lt-ltb, le-ltb, ltb-true, ltb-false}
use native.Mathlib.Nat.{div-lt_self, pow-suc}
use Rattle.arena.specs.Parts.{part, put_part}
use Rattle.arena.proofs.Words.{put-put, set-put, part-all, copy-none}
use Rattle.text.proofs.Keys.{decide}
use Rattle.page.specs.Page.{Typed}
use Rattle.page.specs.Shown.{decimal, last_digits, hex_of, hex_digit, key_shown, refused_word, entries_word, refused_line, number_line}
use Rattle.page.specs.Shown.{header_line, entry_line}

module _ {o : List ℕ} {at : ℕ} where
  -- nothing, and one byte
  pub typed-none : Typed o at [] at o
  unfolding part
  typed-none = record { place_is = omega arith; bytes-are = copy-none o at [] 0 }

  pub typed_byte : {b r : ℕ} {o' : List ℕ} → at + 1 ≤ length o → r ≡ at + 1 → o' ≡ set o at b → Typed o at (b ∷ []) r o'
  typed_byte {b} h e f = record { place_is = e; bytes-are = f ∙ set-put o at b (omega arith) }

  -- one text behind another
  pub typed_then : (a b : List ℕ) {r r' : ℕ} {o' o'' : List ℕ} → at + length (a ++ b) ≤ length o
      → Typed o at a r o' → Typed o' r b r' o'' → Typed o at (a ++ b) r' o''
  typed_then a b {r} {r'} {o'} {o''} h t u =
      record {
        place_is = rw (length-append a b) (omega (arith, t.place_is, u.place_is));
        bytes-are =
            u.bytes-are
            ∙ rw (t.bytes-are, t.place_is) (put-put o at a b (omega (arith, length-append a b)));
      }

  -- all of a text that was copied
  pub typed-all : (a : List ℕ) {n r : ℕ} {o' : List ℕ} → n ≡ length a → r ≡ at + n → o' ≡ put_part o at (part a 0 n) → Typed o at a r o'
  typed-all a {n} e f g =
      record { place_is = omega arith; bytes-are = g ∙ ap (put_part o at) (part-all a n (sym e)) }

-- ---- numbers

last_step : (n : ℕ) (us vs : List ℕ) → (10 ≤ n → us ≡ vs) → cond (ltb n 10) ((48 + n) ∷ []) us ≡ cond (ltb n 10) ((48 + n) ∷ []) vs
last_step n us vs f =
    decide (ltb n 10) (λ e. rw e refl) (λ e. rw e (f (ltb-false n 10 e)))

-- the same digits, where there is room for all
last-same : (f g n : ℕ) → n < f → n < g → last_digits f n ≡ last_digits g n
unfolding last_digits
last-same zero g n h k = absurd (omega arith)
last-same (suc f) zero n h k = absurd (omega arith)
last-same (suc f) (suc g) n h k =
    last_step n _ _ (λ l.
    let d : n / 10 < n = div-lt_self (omega arith) (omega arith) in
    ap (λ (ds : List ℕ). ds ++ ((48 + n % 10) ∷ [])) (last-same f g (n / 10) (omega arith) (omega arith)))

pub decimal-small : {n : ℕ} → n < 10 → decimal n ≡ (48 + n) ∷ []
unfolding decimal last_digits
decimal-small {n} h = rw (lt-ltb n 10 h)

pub decimal-large : {n : ℕ} → 10 ≤ n → decimal n ≡ decimal (n / 10) ++ ((48 + n % 10) ∷ [])
unfolding decimal last_digits
decimal-large {n} h =
    let d : n / 10 < n = div-lt_self (omega arith) (omega arith) in
    rw (le-ltb n 10 h) (ap (λ (ds : List ℕ). ds ++ ((48 + n % 10) ∷ [])) (last-same n (suc (n / 10)) (n / 10) d (omega arith)))

module _ (n : ℕ) where
  pub small-room : (at : ℕ) {l : ℕ} → at + length (decimal n) ≤ l → n < 10 → at + 1 ≤ l
  small-room at h k = omega (arith, ap length (decimal-small k))

  large-length : 10 ≤ n → length (decimal n) ≡ length (decimal (n / 10)) + 1
  large-length k = ap length (decimal-large k) ∙ length-append (decimal (n / 10)) _

  pub front-room : (at : ℕ) {l : ℕ} → at + length (decimal n) ≤ l → 10 ≤ n → at + length (decimal (n / 10)) ≤ l
  front-room at h k = omega (arith, large-length k)

  pub last-room : (at r : ℕ) {l l' : ℕ} → at + length (decimal n) ≤ l → 10 ≤ n → r ≡ at + length (decimal (n / 10)) → l' ≡ l → r + 1 ≤ l'
  last-room at r h k e f = omega (arith, large-length k)

  module _ {o : List ℕ} {at r : ℕ} {o' : List ℕ} where
    pub typed-small : n < 10 → Typed o at ((48 + n) ∷ []) r o' → Typed o at (decimal n) r o'
    typed-small h t = rw (decimal-small h) t

    pub typed-large : {r' : ℕ} {o'' : List ℕ} → at + length (decimal n) ≤ length o → 10 ≤ n
        → Typed o at (decimal (n / 10)) r o' → Typed o' r ((48 + n % 10) ∷ []) r' o'' → Typed o at (decimal n) r' o''
    typed-large h k t u =
        let e = decimal-large k in
        rw e (typed_then (decimal (n / 10)) _ (rw e at h) t u)

-- a number below 10^k has k digits at most
pub decimal-short : (k n : ℕ) → n < 10 ^ suc k → length (decimal n) ≤ suc k
decimal-short zero n h = omega (arith, ap length (decimal-small h))
decimal-short (suc k) n h =
    let e : 10 ^ suc (suc k) ≡ 10 ^ suc k * 10 = pow-suc 10 (suc k) in
    decide (ltb n 10)
    (λ t. omega (arith, ap length (decimal-small (ltb-true n 10 t))))
    (λ t.
    let l : 10 ≤ n = ltb-false n 10 t in
    omega (arith, large-length n l, decimal-short k (n / 10) (omega arith)))

-- ---- keys

pub hex-length : (s : List ℕ) → length (hex_of s) ≡ 2 * length s
unfolding hex_of
hex-length [] = refl
hex-length (b ∷ bs) = let h = hex-length bs in omega arith

hex-append : (s t : List ℕ) → hex_of (s ++ t) ≡ hex_of s ++ hex_of t
unfolding hex_of
hex-append [] t = refl
hex-append (b ∷ bs) t = ap (λ (l : List ℕ). hex_digit (b / 16) ∷ hex_digit (b % 16) ∷ l) (hex-append bs t)

pub hex-more : (s : List ℕ) (i : ℕ) → i < length s
    → hex_of (take i s) ++ (hex_digit (get_or s i 0 / 16) ∷ []) ++ (hex_digit (get_or s i 0 % 16) ∷ []) ≡ hex_of (take (i + 1) s)
unfolding hex_of
hex-more s i h =
    rw (add-one i, take-suc s i 0 h, hex-append (take i s) (get_or s i 0 ∷ [])) (append_assoc (hex_of (take i s)) _ _)

pub digit-shown : {n : ℕ} → n < 10 → 48 + n ≡ hex_digit n
unfolding hex_digit
digit-shown {n} h = rw (lt-ltb n 10 h)

pub letter-shown : {n : ℕ} → 10 ≤ n → 97 - 10 + n ≡ hex_digit n
unfolding hex_digit
letter-shown {n} h = rw (le-ltb n 10 h)

pub key-empty : {o : List ℕ} {at : ℕ} (s : List ℕ) {r : ℕ} {o' : List ℕ} → length s ≡ 0 → Typed o at (45 ∷ []) r o'
    → Typed o at (key_shown s) r o'
unfolding key_shown
key-empty [] e t = t
key-empty (b ∷ bs) e t = absurd (omega arith)

pub key-hex : {o : List ℕ} {at : ℕ} (s : List ℕ) {r : ℕ} {o' : List ℕ} → (length s ≡ 0 → ⊥) → Typed o at (hex_of s) r o'
    → Typed o at (key_shown s) r o'
unfolding key_shown
key-hex [] e t = absurd (e refl)
key-hex (b ∷ bs) e t = t

pub hex-again : {o : List ℕ} {at : ℕ} (s : List ℕ) (i : ℕ) {r r1 r2 : ℕ} {o1 o2 o3 : List ℕ} {b c : ℕ} → at + 2 * length s ≤ length o
    → i < length s
    → b ≡ hex_digit (get_or s i 0 / 16) → c ≡ hex_digit (get_or s i 0 % 16)
    → Typed o at (hex_of (take i s)) r o1 → Typed o1 r (b ∷ []) r1 o2 → Typed o2 r1 (c ∷ []) r2 o3
    → Typed o at (hex_of (take (i + 1) s)) r2 o3
hex-again s i h k e f t u v =
    let l = hex-length (take i s) ∙ ap (λ (n : ℕ). 2 * n) (length-take-le i s (omega arith)) in
    let x = hex_digit (get_or s i 0 / 16) ∷ [] in
    let y = hex_digit (get_or s i 0 % 16) ∷ [] in
    rw (← hex-more s i k)
    (typed_then (hex_of (take i s) ++ x) y (simp length-append (omega arith))
    (typed_then (hex_of (take i s)) x (simp length-append (omega arith)) t (rw e at u))
    (rw f at v))

pub hex-done : {o : List ℕ} {at : ℕ} (s : List ℕ) {i r : ℕ} {o1 : List ℕ} → i ≤ length s → length s ≤ i
    → Typed o at (hex_of (take i s)) r o1 → Typed o at (hex_of s) r o1
hex-done s {i} h k t = rw (take_all i s k) at t

pub hex-start : {o : List ℕ} {at : ℕ} (s : List ℕ) → Typed o at (hex_of (take 0 s)) at o
unfolding hex_of
hex-start s = typed-none

pub hex-fits : (s : List ℕ) (at : ℕ) {l : ℕ} → at + length (hex_of s) ≤ l → at + 2 * length s ≤ l
hex-fits s at h = omega (arith, hex-length s)

-- ---- whole lines

module _ (n : ℕ) where
  pub refused-length : length (refused_line n) ≡ 8 + length (decimal n) + 1
  unfolding refused_line
  refused-length = simp length-append

  pub number-length : length (number_line n) ≡ length (decimal n) + 1
  unfolding number_line
  number-length = simp length-append

  pub header-length : length (header_line n) ≡ length (decimal n) + 9
  unfolding header_line
  header-length = simp length-append

pub entry_length : (key : List ℕ) (frame : ℕ) → length (entry_line key frame) ≡ length (key_shown key) + 1 + length (decimal frame) + 1
unfolding entry_line
entry_length key frame = simp length-append

module _ {o : List ℕ} {at r r1 : ℕ} {o1 o2 : List ℕ} where
  pub number-typed : (n : ℕ) → at + length (number_line n) ≤ length o → Typed o at (decimal n) r o1 → Typed o1 r (10 ∷ []) r1 o2
      → Typed o at (number_line n) r1 o2
  unfolding number_line
  number-typed n h t u = typed_then (decimal n) _ h t u

  pub header-typed : (n : ℕ) → at + length (header_line n) ≤ length o → Typed o at (decimal n) r o1 → Typed o1 r entries_word r1 o2
      → Typed o at (header_line n) r1 o2
  unfolding header_line
  header-typed n h t u = typed_then (decimal n) _ h t u

  pub refused-typed : (n : ℕ) {r2 : ℕ} {o3 : List ℕ} → at + length (refused_line n) ≤ length o
      → Typed o at refused_word r o1 → Typed o1 r (decimal n) r1 o2 → Typed o2 r1 (10 ∷ []) r2 o3 → Typed o at (refused_line n) r2 o3
  unfolding refused_line
  refused-typed n h t u v =
      typed_then (refused_word ++ decimal n) _ h
      (typed_then refused_word (decimal n) (simp length-append (omega (arith, simp length-append at h))) t u)
      v

  pub entry-typed : (key : List ℕ) (frame : ℕ) {r2 r3 : ℕ} {o3 o4 : List ℕ} → at + length (entry_line key frame) ≤ length o
      → Typed o at (key_shown key) r o1 → Typed o1 r (32 ∷ []) r1 o2 → Typed o2 r1 (decimal frame) r2 o3 → Typed o3 r2 (10 ∷ []) r3 o4
      → Typed o at (entry_line key frame) r3 o4
  unfolding entry_line
  entry-typed key frame h t u v w =
      let l = simp length-append at h in
      let k = key_shown key in
      typed_then (k ++ (32 ∷ []) ++ decimal frame) _ h
      (typed_then (k ++ (32 ∷ [])) (decimal frame) (simp length-append (omega arith))
      (typed_then k (32 ∷ []) (simp length-append (omega arith)) t u)
      v)
      w

pub dash-room : (s : List ℕ) (at : ℕ) {l : ℕ} → at + length (key_shown s) ≤ l → length s ≡ 0 → at + 1 ≤ l
unfolding key_shown
dash-room [] at h e = h
dash-room (b ∷ bs) at h e = absurd (omega arith)

pub shown-room : (s : List ℕ) (at : ℕ) {l : ℕ} → at + length (key_shown s) ≤ l → (length s ≡ 0 → ⊥) → at + length (hex_of s) ≤ l
unfolding key_shown
shown-room [] at h e = absurd (e refl)
shown-room (b ∷ bs) at h e = h
