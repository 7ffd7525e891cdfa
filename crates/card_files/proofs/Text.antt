-- The name of a new file as text: behind the path a dot and six bytes. Assumes nothing.
use Rattle.std.proofs.Common.{◌≡◌, ℕ, zero, suc, ◌+◌, ◌-◌, ◌/◌, ◌%◌, ◌^◌, ◌≤◌, ◌<◌, List, [], ◌∷◌, ◌++◌, Ok, Err, length, get_or}
use Rattle.std.proofs.Common.{take, drop, refl, sym, ap, ◌∙◌, subst, arith, append_assoc, append-nil, length-append}
use Rattle.std.proofs.Common.{drop_of_length-le}
use Rattle.std.proofs.lemmas.Str.{IsUtf8-append, IsUtf8-from_ascii, IsAscii-append, IsCharBoundary-after_ascii}
use Rattle.std.proofs.lemmas.Str.Ascii.{IsAscii-nil}
use Rattle.std.specs.Prelude.{Result, IsUtf8, IsAscii, IsOk, MatchResult, IsCharBoundary}
use lib.Seq.{take-append_seam, take-append-add}
use Rattle.arena.specs.Parts.{put_part}
use Rattle.page.specs.Page.{Typed}
use Rattle.card_files.specs.Names.{to_be_filled, low_digits, filled_in, IsNewName, IsFilledIn}
use Rattle.card_files.proofs.Names.{length-low}

-- six bytes behind the dot
pub new_name-of : (path bytes : List ℕ) → length bytes ≡ 6 → IsNewName path (path ++ 46 ∷ bytes)
new_name-of path bytes l =
    record {
      front = take-append-add path (46 ∷ bytes) 1 ∙ one bytes;
      room = omega (arith, length-append path (46 ∷ bytes));
    }
  where
    one : (bytes : List ℕ) → path ++ take 1 (46 ∷ bytes) ≡ path ++ 46 ∷ []
    one bytes = refl

-- the letters
pub new_name-typed : (path name name1 : List ℕ) (n : ℕ) → length name ≡ 4096 → length path ≤ 4088
    → Typed name 0 (path ++ to_be_filled) n name1 → IsNewName path (take n name1)
unfolding put_part
new_name-typed path name name1 n l short t =
    let e : take n name1 ≡ path ++ to_be_filled =
    ap (λ k. take k name1) (t.place_is ∙ omega arith)
    ∙ ap (take (length (path ++ to_be_filled))) t.bytes-are
    ∙ take-append_seam (path ++ to_be_filled) (drop (0 + length (path ++ to_be_filled)) name) in
    subst (IsNewName path) (sym e) (new_name-of path (88 ∷ 88 ∷ 88 ∷ 88 ∷ 88 ∷ 88 ∷ []) refl)

-- a number for the letters
module _ (path name name1 : List ℕ) (n r : ℕ) (h : IsNewName path name) (t : Typed name (length path + 1) (low_digits 6 n) r name1) where
  pub number_named : name1 ≡ path ++ filled_in n
  unfolding put_part
  number_named =
      let l = length-low 6 n in
      let none : drop (length path + 1 + length (low_digits 6 n)) name ≡ [] =
      drop_of_length-le name {i = length path + 1 + length (low_digits 6 n)} (omega (arith, h.room)) in
      t.bytes-are
      ∙ ap (λ xs. (take (length path + 1) name ++ low_digits 6 n) ++ xs) none
      ∙ append-nil (take (length path + 1) name ++ low_digits 6 n)
      ∙ ap (λ xs. xs ++ low_digits 6 n) h.front
      ∙ append_assoc path (46 ∷ []) (low_digits 6 n)

  pub number_again : IsNewName path name1
  number_again = subst (IsNewName path) (sym number_named) (new_name-of path (low_digits 6 n) (length-low 6 n))

-- ---- text

one_ascii : (b : ℕ) → b < 128 → IsAscii (b ∷ [])
one_ascii b h zero = h
one_ascii b h (suc i) = omega arith

digits_ascii : (count n : ℕ) → IsAscii (low_digits count n)
unfolding low_digits
digits_ascii zero n = IsAscii-nil
digits_ascii (suc count) n =
    IsAscii-append (low_digits count (n / 10)) ((48 + n % 10) ∷ []) (digits_ascii count (n / 10)) (one_ascii (48 + n % 10) (omega arith))

pub filled-utf8 : (path : List ℕ) (n : ℕ) → IsUtf8 path → IsUtf8 (path ++ filled_in n)
filled-utf8 path n u =
    IsUtf8-append path (filled_in n) u
    (IsUtf8-from_ascii (filled_in n) (IsAscii-append (46 ∷ []) (low_digits 6 n) (one_ascii 46 (omega arith)) (digits_ascii 6 n)))

-- text is read as text
pub read_as_text : {T E : Type 0} (P : T → Type 0) (Q : E → Type 0) (r : Result T E) (bytes : List ℕ)
    → MatchResult r P (λ e. (IsUtf8 bytes → ⊥) × Q e) → IsUtf8 bytes → IsOk r
read_as_text P Q (Ok x) bytes m u = refl
read_as_text P Q (Err e) bytes m u = absurd (m.0 u)

-- behind a slash a text may be cut
pub cut_behind : (path : List ℕ) (n : ℕ) → IsUtf8 path → 0 < n → n ≤ length path → get_or path (n - 1) 0 ≡ 47 → IsCharBoundary path n
cut_behind path n u h l slash =
    let e : n - 1 + 1 ≡ n = omega arith in
    subst (IsCharBoundary path) e (IsCharBoundary-after_ascii path (n - 1) u (omega arith) (omega arith))
