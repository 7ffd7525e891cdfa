-- The machine that takes one byte after the other comes to what the parser says of all of them. Assumes nothing.
use Prim.Native.Nat.{ℕ, zero, suc, ◌+◌, ◌*◌, ◌<◌, ◌≤◌}
use mathlib.Core.Path.{◌≡◌, refl, sym, ap, ◌∙◌}
use mathlib.Core.Bool.{Bool, true, false}
use mathlib.Core.List.{List, [], ◌∷◌, ◌++◌, append_assoc, append-nil, foldl, foldl-append}
use mathlib.Core.Logic.{⊎_elim, ◌⊎◌, inl, inr}
use mathlib.Core.Option.{Option, none, some}
use native.Mathlib.Omega.{arith}
use lib.Dec.{eqb, leb}
use lib.ListN.{length, take, drop, length-append, take-append-drop}
use lib.Seq.{drop-drop, length-take-le, append_snoc}
use borrow.Author.Tests.{le-leb, lt-leb, lt-ltb, le-ltb}
use Rattle.order.specs.Map.{Map}
use Rattle.lent_words.proofs.Words.{lt-or-ge}
use Rattle.card_block.specs.Words.{little_endian}
use Rattle.card_block.proofs.Words.{little-front}
use Rattle.card_stream.specs.Stream.{lacking}
use Rattle.card_stream.specs.Parse.{Parsed, wrong, right, asks, infront, above, fill_from, entries_from, parse}
use Rattle.card_stream.specs.Fields.{Field, counting, measuring, naming, framing, filling, Stand, stopped, reading, size, or_stop}
use Rattle.card_stream.specs.Fields.{to_come, named, measured, zeroed, whole, stepped, fed, start, ended}

le-or-gt : (a b : ℕ) → (a ≤ b) ⊎ (b < a)
le-or-gt a b = ⊎_elim (λ h. inr h) (λ h. inl h) (lt-or-ge b a)

-- two arrivals one after the other are one
pub fed-append : (s : Stand) (xs ys : List ℕ) → fed s (xs ++ ys) ≡ fed (fed s xs) ys
unfolding fed
fed-append s xs ys = foldl-append stepped s xs ys

-- nothing changes any more once the machine has stopped
stays : (place : ℕ) (bytes : List ℕ) → fed (stopped place) bytes ≡ stopped place
unfolding fed stepped
stays place [] = refl
stays place (x ∷ bytes) = stays place bytes

module _ (f : Field) (place : ℕ) (entries : Map) where
  -- the field goes on, and it is whole
  goes_on : (held : List ℕ) (byte : ℕ) → length held + 1 < size f
      → stepped (reading f place held entries) byte ≡ reading f place (held ++ byte ∷ []) entries
  unfolding stepped
  goes_on held byte h = rw (lt-ltb (length held + 1) (size f) h)

  is_whole : (held : List ℕ) (byte : ℕ) → size f ≤ length held + 1
      → stepped (reading f place held entries) byte ≡ whole f place (held ++ byte ∷ []) entries
  unfolding stepped
  is_whole held byte h = rw (le-ltb (length held + 1) (size f) h)

  -- the rest of a field, and what comes behind it
  gathered : (held bytes more : List ℕ) (byte : ℕ) → length held + suc (length bytes) ≡ size f
      → fed (reading f place held entries) ((byte ∷ bytes) ++ more) ≡ fed (whole f place (held ++ byte ∷ bytes) entries) more
  unfolding fed
  gathered held [] more byte h = ap (λ (s : Stand). foldl stepped s more) (is_whole held byte (omega arith))
  gathered held (x ∷ bytes) more byte h =
      ap (λ (s : Stand). foldl stepped s ((x ∷ bytes) ++ more)) (goes_on held byte (omega arith))
      ∙ gathered (held ++ byte ∷ []) bytes more x (simp length-append (omega arith))
      ∙ ap (λ (l : List ℕ). foldl stepped (whole f place l entries) more) (append_assoc held (byte ∷ []) (x ∷ bytes))

  -- fewer bytes than a field has
  too_few : (held bytes : List ℕ) → length held + length bytes < size f
      → fed (reading f place held entries) bytes ≡ reading f place (held ++ bytes) entries
  unfolding fed
  too_few held [] h = ap (λ (l : List ℕ). reading f place l entries) (sym (append-nil held))
  too_few held (x ∷ bytes) h =
      ap (λ (s : Stand). foldl stepped s bytes) (goes_on held x (omega arith))
      ∙ too_few (held ++ x ∷ []) bytes (simp length-append (omega arith))
      ∙ ap (λ (l : List ℕ). reading f place l entries) (append_assoc held (x ∷ []) bytes)

  -- a field from its first byte on
  field-front : (front more : List ℕ) → 0 < size f → length front ≡ size f
      → fed (reading f place [] entries) (front ++ more) ≡ fed (whole f place front entries) more
  field-front [] more h e = absurd (omega arith)
  field-front (x ∷ front) more h e = gathered [] front more x (omega arith)

  field-whole : (n : ℕ) (bytes : List ℕ) → size f ≡ n → 0 < n → n ≤ length bytes
      → fed (reading f place [] entries) bytes ≡ fed (whole f place (take n bytes) entries) (drop n bytes)
  field-whole n bytes e h k =
      ap (fed (reading f place [] entries)) (sym (take-append-drop n bytes))
      ∙ field-front (take n bytes) (drop n bytes) (omega arith) (length-take-le n bytes k ∙ sym e)

-- a number in the first bytes of a list
little-take : (n : ℕ) (bytes : List ℕ) → n ≤ length bytes → little_endian n (take n bytes) ≡ little_endian n bytes
little-take n bytes h =
    sym (little-front n (take n bytes) (drop n bytes) (length-take-le n bytes h)) ∙ ap (little_endian n) (take-append-drop n bytes)

-- the entries that were read before, in front of what the rest comes to
abbrev onto : Map → Parsed → Parsed
onto entries (wrong place) = wrong place
onto entries (right more) = right (entries ++ more)

onto-one : (entries : Map) (e : List ℕ × ℕ) (r : Parsed) → onto (entries ++ e ∷ []) r ≡ onto entries (infront e r)
onto-one entries e (wrong place) = refl
onto-one entries e (right more) = ap right (append_snoc entries e more)

onto-none : (r : Parsed) → onto [] r ≡ r
onto-none (wrong place) = refl
onto-none (right more) = refl

-- the fill
zero_or_not : (b : Bool) (n place x : ℕ) (bytes : List ℕ) (entries : Map)
    → ended (fed (reading (filling n) (place + 1) [] entries) bytes) ≡ onto entries (fill_from n (place + 1) bytes)
    → ended (fed (or_stop b place (zeroed (suc n) place entries)) bytes) ≡ onto entries (asks b place (fill_from n (place + 1) bytes))
unfolding ended
zero_or_not true n place x bytes entries k = k
zero_or_not false n place x bytes entries k = rw stays

left_over : (b : Bool) (place : ℕ) (bytes : List ℕ) (entries : Map)
    → ended (fed (or_stop b place (zeroed zero place entries)) bytes) ≡ wrong place
unfolding ended
left_over true place bytes entries = rw stays
left_over false place bytes entries = rw stays

fill-agrees : (n place : ℕ) (bytes : List ℕ) (entries : Map)
    → ended (fed (reading (filling n) place [] entries) bytes) ≡ onto entries (fill_from n place bytes)
unfolding ended fed fill_from whole little_endian
fill-agrees zero place [] entries = ap right (sym (append-nil entries))
fill-agrees (suc n) place [] entries = refl
fill-agrees zero place (x ∷ bytes) entries =
    rw (is_whole (filling zero) place entries [] x (omega arith)) (left_over (eqb (x + 256 * 0) 0) place bytes entries)
fill-agrees (suc n) place (x ∷ bytes) entries =
    let e : x + 256 * 0 ≡ x = omega arith in
    rw (is_whole (filling (suc n)) place entries [] x (omega arith), e)
    (zero_or_not (eqb x 0) n place x bytes entries (fill-agrees n (place + 1) bytes entries))

-- a key that is judged, and the frame behind it
module _ (n : ℕ) (last : Option (List ℕ)) (entries : Map)
    (again : (place : ℕ) (last : Option (List ℕ)) (bytes : List ℕ) (entries : Map)
    → ended (fed (to_come n place last entries) bytes) ≡ onto entries (entries_from n place last bytes)) where
  framed-agrees : (place : ℕ) (key bytes : List ℕ) → ended (fed (reading (framing n key) place [] entries) bytes)
      ≡ onto entries (asks (leb 8 (length bytes)) place
      (infront (key, little_endian 8 bytes) (entries_from n (place + 8) (some key) (drop 8 bytes))))
  unfolding ended whole
  framed-agrees place key bytes =
      ⊎_elim
      (λ h. rw (too_few (framing n key) place entries [] bytes (omega arith), lt-leb 8 (length bytes) h))
      (λ h.
      rw (field-whole (framing n key) place entries 8 bytes refl (omega arith) h, le-leb 8 (length bytes) h, little-take 8 bytes h)
      (again (place + 8) (some key) (drop 8 bytes) (entries ++ (key, little_endian 8 bytes) ∷ [])
      ∙ onto-one entries (key, little_endian 8 bytes) (entries_from n (place + 8) (some key) (drop 8 bytes))))
      (lt-or-ge (length bytes) 8)

  named-agrees : (b : Bool) (place : ℕ) (key bytes : List ℕ)
      → ended (fed (or_stop b place (reading (framing n key) (place + length key) [] entries)) bytes)
      ≡ onto entries (asks b place (asks (leb 8 (length bytes)) (place + length key)
      (infront (key, little_endian 8 bytes) (entries_from n (place + length key + 8) (some key) (drop 8 bytes)))))
  unfolding ended
  named-agrees true place key bytes = framed-agrees (place + length key) key bytes
  named-agrees false place key bytes = rw stays

  -- a key whose bytes have all come, and one whose bytes have not
  measured-whole : (place len : ℕ) (bytes : List ℕ) → len ≤ length bytes
      → fed (measured n last place len entries) bytes ≡ fed (named n last place (take len bytes) entries) (drop len bytes)
  unfolding whole
  measured-whole place zero bytes h = refl
  measured-whole place (suc len) bytes h = field-whole (naming n last (suc len)) place entries (suc len) bytes refl (omega arith) h

  measured-short : (place len : ℕ) (bytes : List ℕ) → length bytes < len
      → ended (fed (measured n last place len entries) bytes) ≡ wrong place
  unfolding ended
  measured-short place zero bytes h = absurd (omega arith)
  measured-short place (suc len) bytes h = rw (too_few (naming n last (suc len)) place entries [] bytes (omega arith))

  entry-agrees : (place : ℕ) (bytes : List ℕ)
      → ended (fed (reading (measuring n last) place [] entries) bytes) ≡ onto entries (entries_from (suc n) place last bytes)
  unfolding ended whole entries_from
  entry-agrees place bytes =
      ⊎_elim
      (λ h. rw (too_few (measuring n last) place entries [] bytes (omega arith), lt-leb 2 (length bytes) h))
      (λ h.
      let len : ℕ = little_endian 2 bytes in
      let d : List ℕ = drop 2 bytes in
      rw (field-whole (measuring n last) place entries 2 bytes refl (omega arith) h, le-leb 2 (length bytes) h, little-take 2 bytes h)
      (⊎_elim
      (λ k.
      rw (le-leb len 256 k)
      (⊎_elim
      (λ l. rw (lt-leb len (length d) l) (measured-short (place + 2) len d l))
      (λ l.
      let i : place + 2 + length (take len d) ≡ place + (2 + len) = omega (arith, length-take-le len d l) in
      let j : place + (2 + len) + 8 ≡ place + (10 + len) = omega arith in
      let m : 2 + len + 8 ≡ 10 + len = omega arith in
      rw (le-leb len (length d) l, measured-whole (place + 2) len d l, drop-drop len 2 bytes, i)
      (rw (i, j, drop-drop len 2 bytes, drop-drop 8 (2 + len) bytes, m) at
      (named-agrees (above last (take len d)) (place + 2) (take len d) (drop len d))))
      (lt-or-ge (length d) len)))
      (λ k. rw (lt-leb len 256 k, stays))
      (le-or-gt len 256)))
      (lt-or-ge (length bytes) 2)

-- so many entries, and the fill
entries-agree : (n place : ℕ) (last : Option (List ℕ)) (bytes : List ℕ) (entries : Map)
    → ended (fed (to_come n place last entries) bytes) ≡ onto entries (entries_from n place last bytes)
unfolding entries_from
entries-agree zero place last bytes entries = fill-agrees (lacking place) place bytes entries
entries-agree (suc n) place last bytes entries = entry-agrees n last entries (entries-agree n) place bytes

-- the whole stream, from the first byte on
pub machine-parses : (bytes : List ℕ) → ended (fed start bytes) ≡ parse bytes
unfolding ended whole parse
machine-parses bytes =
    ⊎_elim
    (λ h. rw (too_few counting 0 [] [] bytes (omega arith), lt-leb 4 (length bytes) h))
    (λ h.
    let n : ℕ = little_endian 4 bytes in
    rw (field-whole counting 0 [] 4 bytes refl (omega arith) h, le-leb 4 (length bytes) h, little-take 4 bytes h)
    (⊎_elim
    (λ k. rw (le-leb n 255 k) (entries-agree n 4 none (drop 4 bytes) [] ∙ onto-none (entries_from n 4 none (drop 4 bytes))))
    (λ k. rw (lt-leb n 255 k, stays))
    (le-or-gt n 255)))
    (lt-or-ge (length bytes) 4)
