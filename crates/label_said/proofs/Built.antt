-- Labels and fields decide each other: what was built is read back, and what is read was built. Assumes nothing.
use Prim.Native.Nat.{ℕ, ◌+◌, ◌-◌, ◌^◌, ◌<◌}
use mathlib.Core.Path.{◌≡◌, refl, sym, ap, ap₂, ◌∙◌, subst}
use mathlib.Core.Logic.{◌⊎◌, inl, inr}
use mathlib.Core.Bool.{Bool, true, false, cond, ◌||◌}
use mathlib.Core.List.{List, [], ◌∷◌, ◌++◌}
use native.Mathlib.Omega.{arith}
use lib.Dec.{eqb}
use lib.ListN.{length, get_or, drop, take-append-drop, length-drop}
use lib.Seq.{drop-cons, drop-drop, take_all}
use borrow.Author.Tests.{eqb-true}
use Rattle.refusal.specs.Answer.{Answer, accepted, refused_telling, answered}
use Rattle.refusal.proofs.One.{number-of, value_of, same-values}
use Rattle.order.specs.Bytes.{Bytes}
use Rattle.order.proofs.Bytes.{bytes_drop}
use Rattle.order.specs.Layer.{big_endian}
use Rattle.order.proofs.Layer.{big_endian-lt}
use Rattle.label_said.specs.Label.{
  Edition,
  first,
  second,
  Fields,
  fields,
  byte_of,
  frame_bytes,
  high_first,
  label_of,
  Fits,
  WasBuilt,
}
use Rattle.label_said.specs.Read.{edition_byte, fields_in, numbers_of, length_by, label_rules, read_said, read_first_said}
use Rattle.label_said.proofs.Numbers.{number-of-bytes, bytes-of-number}

-- ---- what was built is read back

-- by a reader of both editions
pub read-built : (e : Edition) (x : Fields) → Fits e x → read_said (label_of e x) ≡ accepted (byte_of e ∷ numbers_of x)
unfolding read_said high_first
read-built first x h =
    rw (
      number-of-bytes 2 x.station (high_first 4 x.burst ++ high_first 1 x.frame) h.station-fits,
      number-of-bytes 4 x.burst (high_first 1 x.frame) h.burst-fits,
      number-of-bytes 1 x.frame [] h.frame-fits,
    )
read-built second x h =
    rw (
      number-of-bytes 2 x.station (high_first 4 x.burst ++ high_first 2 x.frame) h.station-fits,
      number-of-bytes 4 x.burst (high_first 2 x.frame) h.burst-fits,
      number-of-bytes 2 x.frame [] h.frame-fits,
    )

-- by a reader of edition 1 alone
pub read-first-built : (x : Fields) → Fits first x → read_first_said (label_of first x) ≡ accepted (numbers_of x)
unfolding read_first_said high_first
read-first-built x h =
    rw (
      number-of-bytes 2 x.station (high_first 4 x.burst ++ high_first 1 x.frame) h.station-fits,
      number-of-bytes 4 x.burst (high_first 1 x.frame) h.burst-fits,
      number-of-bytes 1 x.frame [] h.frame-fits,
    )

-- which turns every label of edition 2 away
pub second-turned-away : (x : Fields) → read_first_said (label_of second x) ≡ refused_telling 19 (2 ∷ []) []
unfolding read_first_said high_first
second-turned-away x = refl

-- ---- what a reader comes to: values that stand in a label of the edition, or 19

-- the label is of this edition, by its byte and its length, and these values are answered; or it is refused with its edition byte
Outcome : Edition → List ℕ → List ℕ → Answer → Type 0
Outcome e label values a =
    ((edition_byte label ≡ byte_of e) × (length label ≡ 7 + frame_bytes e) × (a ≡ accepted values))
    ⊎ (a ≡ refused_telling 19 (edition_byte label ∷ []) [])

module _ (label : List ℕ) (values : List ℕ) where
  -- by its length
  settled : (e : Edition) (r : Bool) → edition_byte label ≡ byte_of e → (r ≡ true → length label ≡ 7 + frame_bytes e)
      → Outcome e label values (cond r (accepted values) (refused_telling 19 (edition_byte label ∷ []) []))
  unfolding Outcome
  settled e true b l = inl (b, l refl, refl)
  settled e false b l = inr refl

  -- by its edition
  first-settled : Outcome first label values (answered (label_rules (eqb (edition_byte label) 1) 8 label) values [])
  unfolding Outcome
  first-settled = by (eqb (edition_byte label) 1) (eqb-true (edition_byte label) 1)
    where
      by : (p : Bool) → (p ≡ true → edition_byte label ≡ 1)
          → Outcome first label values (cond p (cond (eqb (length label) 8) (accepted values)
          (refused_telling 19 (edition_byte label ∷ []) [])) (refused_telling 19 (edition_byte label ∷ []) []))
      by true h = settled first (eqb (length label) 8) (h refl) (eqb-true (length label) 8)
      by false h = inr refl

  both-settled : (e : Edition) × Outcome e label values
      (answered (label_rules (eqb (edition_byte label) 1 || eqb (edition_byte label) 2) (length_by (edition_byte label)) label) values [])
  unfolding Outcome
  both-settled =
      by (eqb (edition_byte label) 1) (eqb (edition_byte label) 2) (eqb-true (edition_byte label) 1) (eqb-true (edition_byte label) 2)
    where
      by : (p q : Bool) → (p ≡ true → edition_byte label ≡ 1) → (q ≡ true → edition_byte label ≡ 2)
          → (e : Edition) × Outcome e label values (cond (p || q) (cond (eqb (length label) (cond p 8 9)) (accepted values)
          (refused_telling 19 (edition_byte label ∷ []) [])) (refused_telling 19 (edition_byte label ∷ []) []))
      by true q h k = (first, settled first (eqb (length label) 8) (h refl) (eqb-true (length label) 8))
      by false true h k = (second, settled second (eqb (length label) 9) (k refl) (eqb-true (length label) 9))
      by false false h k = (first, inr refl)

-- an answer with number 0 is accepted with the values, and the label is of the edition
accepted-settled : (e : Edition) (label values : List ℕ) (a : Answer) → Outcome e label values a → a.number ≡ 0
    → (edition_byte label ≡ byte_of e) × (length label ≡ 7 + frame_bytes e) × (a ≡ accepted values)
unfolding Outcome
accepted-settled e label values a (inl h) z = h
accepted-settled e label values a (inr r) z = absurd (omega (arith, number-of r))

-- any other is 19 with the edition byte
refused-settled : (e : Edition) (label values : List ℕ) (a : Answer) → Outcome e label values a → 0 < a.number
    → a ≡ refused_telling 19 (edition_byte label ∷ []) []
unfolding Outcome
refused-settled e label values a (inl (b, l, h)) z = absurd (omega (arith, number-of h))
refused-settled e label values a (inr r) z = r

-- ---- what is read was built

module _ (label : List ℕ) (c : Bytes label) (e : Edition) (b : edition_byte label ≡ byte_of e) (h : length label ≡ 7 + frame_bytes e) where
  rest : length label - 7 ≡ frame_bytes e
  rest = omega arith

  fields_fit : Fits e (fields_in label)
  fields_fit =
      record {
        station-fits = big_endian-lt 2 (bytes_drop 1 c);
        burst-fits = big_endian-lt 4 (bytes_drop 3 c);
        frame-fits = subst (λ (n : ℕ). big_endian n (drop 7 label) < 256 ^ frame_bytes e) (sym rest)
            (big_endian-lt (frame_bytes e) (bytes_drop 7 c));
      }

  -- a label is put together from the fields that stand in it
  put-together : label ≡ label_of e (fields_in label)
  put-together =
      drop-cons label 0 0 (omega arith)
      ∙ ap₂ (λ (x : ℕ) (xs : List ℕ). x ∷ xs) b
      (sym (take-append-drop 2 (drop 1 label))
      ∙ ap₂ (λ (xs ys : List ℕ). xs ++ ys) (sym (bytes-of-number 2 (bytes_drop 1 c) (omega (arith, length-drop 1 label))))
      (drop-drop 2 1 label
      ∙ sym (take-append-drop 4 (drop 3 label))
      ∙ ap₂ (λ (xs ys : List ℕ). xs ++ ys) (sym (bytes-of-number 4 (bytes_drop 3 c) (omega (arith, length-drop 3 label))))
      (drop-drop 4 3 label
      ∙ sym (take_all (frame_bytes e) (drop 7 label) (omega (arith, length-drop 7 label)))
      ∙ sym (bytes-of-number (frame_bytes e) (bytes_drop 7 c) (omega (arith, length-drop 7 label)))
      ∙ ap (λ (n : ℕ). high_first (frame_bytes e) (big_endian n (drop 7 label))) (sym rest))))

module _ (label : List ℕ) (c : Bytes label) where
  -- accepted by either reader, a label was built
  pub read-was-built : (read_said label).number ≡ 0
      → (w : WasBuilt label) × (read_said label ≡ accepted (byte_of w.edition ∷ numbers_of w.says))
  unfolding read_said
  read-was-built z =
      let (e, o) = both-settled label (edition_byte label ∷ numbers_of (fields_in label)) in
      let (b, l, a) = accepted-settled e label (edition_byte label ∷ numbers_of (fields_in label)) (read_said label) o z in (
        record { edition = e; says = fields_in label; fit = fields_fit label c e b l; built = put-together label c e b l },
        a ∙ ap (λ (k : ℕ). accepted (k ∷ numbers_of (fields_in label))) b,
      )

  pub first-was-built : (read_first_said label).number ≡ 0
      → (x : Fields) × Fits first x × (label ≡ label_of first x) × (read_first_said label ≡ accepted (numbers_of x))
  unfolding read_first_said
  first-was-built z =
      let values = numbers_of (fields_in label) in
      let (b, l, a) = accepted-settled first label values (read_first_said label) (first-settled label values) z in
      (fields_in label, fields_fit label c first b l, put-together label c first b l, a)

-- refused by either, it is told by its edition byte
pub read-refused : (label : List ℕ) → 0 < (read_said label).number → read_said label ≡ refused_telling 19 (edition_byte label ∷ []) []
unfolding read_said
read-refused label z =
    let values = edition_byte label ∷ numbers_of (fields_in label) in
    let (e, o) = both-settled label values in refused-settled e label values (read_said label) o z

pub first-refused : (label : List ℕ) → 0 < (read_first_said label).number → read_first_said label ≡ refused_telling 19 (edition_byte label ∷ []) []
unfolding read_first_said
first-refused label z =
    let values = numbers_of (fields_in label) in
    refused-settled first label values (read_first_said label) (first-settled label values) z

-- ---- one label for one edition and its fields

-- fields are known by their numbers, and editions by their bytes
fields-one : {x y : Fields} → numbers_of x ≡ numbers_of y → x ≡ y
fields-one e = ap (λ (ns : List ℕ). fields (get_or ns 0 0) (get_or ns 1 0) (get_or ns 2 0)) e

edition-one : (d e : Edition) → byte_of d ≡ byte_of e → d ≡ e
edition-one first first h = refl
edition-one first second h = absurd (omega arith)
edition-one second first h = absurd (omega arith)
edition-one second second h = refl

-- two labels with the same bytes have the same edition and the same fields
pub label-one : (d e : Edition) (x y : Fields) → Fits d x → Fits e y → label_of d x ≡ label_of e y → (d ≡ e) × (x ≡ y)
label-one d e x y h k q =
    let a : accepted (byte_of d ∷ numbers_of x) ≡ accepted (byte_of e ∷ numbers_of y) =
    sym (read-built d x h) ∙ ap read_said q ∙ read-built e y k in
    (edition-one d e (value_of 0 a), fields-one (ap (λ (ns : List ℕ). drop 1 ns) (same-values a)))
