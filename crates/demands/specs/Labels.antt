-- Frame labels (document 02, A10): what their two editions are, when one is refused, and their order as keys of the index.
--
-- `label_of e x` is the label of edition e with these fields, what `build_first` and `build_second` make; `read_said label` is what a reader
-- of both editions answers, and `read_first_said label` what a reader of edition 1 alone does, by what their contracts promise
-- (crates/label_said/specs). Building is never refused: fields are handed in as numbers of 16, 32 and 8 or 16 bits, and so they always
-- fit (`Fits`).
use Prim.Native.Nat.{Ordering}
use Rattle.std.specs.Prelude.{ℕ, ◌%◌, ◌<◌, ◌≡◌, true, false, cond, ◌||◌, List, [], ◌∷◌, eqb, length, get_or, drop}
use Rattle.std.proofs.Math.Path.{refl}
use Rattle.refusal.specs.Answer.{Rule, ◌unless◌, ◌telling◌, accepted, refused_telling}
use Rattle.refusal.specs.Exactly.{AsListed}
use Rattle.refusal.proofs.Exactly.{as-listed}
use Rattle.order.specs.Bytes.{Bytes, bytewise}
use Rattle.order.specs.Layer.{big_endian, class_at}
use Rattle.key_layer.specs.Keys.{has_suffix}
use Rattle.label_said.specs.Label.{Edition, first, second, Fields, fields, byte_of, high_first, label_of, Fits, WasBuilt, by_fields}
use Rattle.label_said.specs.Read.{fields_in, numbers_of, read_said, read_first_said}
use Rattle.label_said.proofs.Built as labels
use Rattle.label_said.proofs.Orders as orders
use Rattle.label_said.proofs.Keys as keys

-- ---- when a label is refused, in the form of Demand1.antt

-- 19 unless the first byte is that of edition 1 or 2, then 19 unless the length is that of the edition, 8 or 9. Both tell the first byte,
-- or 0 for an empty label. (`get_or label 0 0` is the first byte, and 0 where there is none.)
abbrev pub read_rules : List ℕ → List Rule
read_rules label =
    ((19 unless (eqb (get_or label 0 0) 1 || eqb (get_or label 0 0) 2)) telling (get_or label 0 0 ∷ []))
    ∷ ((19 unless eqb (length label) (cond (eqb (get_or label 0 0) 1) 8 9)) telling (get_or label 0 0 ∷ []))
    ∷ []

-- A reader of both editions tells the edition and the fields.
pub reads : (label : List ℕ) → AsListed (read_rules label) (get_or label 0 0 ∷ numbers_of (fields_in label)) [] (read_said label)
unfolding read_said
reads label = as-listed (read_rules label) (get_or label 0 0 ∷ numbers_of (fields_in label)) []

-- To a reader of edition 1 every other first byte is one of an unknown edition, that of edition 2 too.
abbrev pub read_first_rules : List ℕ → List Rule
read_first_rules label =
    ((19 unless eqb (get_or label 0 0) 1) telling (get_or label 0 0 ∷ []))
    ∷ ((19 unless eqb (length label) 8) telling (get_or label 0 0 ∷ []))
    ∷ []

-- It tells the fields.
pub first_reads : (label : List ℕ) → AsListed (read_first_rules label) (numbers_of (fields_in label)) [] (read_first_said label)
unfolding read_first_said
first_reads label = as-listed (read_first_rules label) (numbers_of (fields_in label)) []

-- ---- labels and fields decide each other

module _ (e : Edition) (x : Fields) (f : Fits e x) where
  -- Reading what was built gives the edition and the fields.
  pub built-then-read : read_said (label_of e x) ≡ accepted (byte_of e ∷ numbers_of x)
  built-then-read = labels.read-built e x f

  -- No other edition and no other fields have the same label.
  pub one_label : (d : Edition) (y : Fields) → Fits d y → label_of e x ≡ label_of d y → (e ≡ d) × (x ≡ y)
  one_label d y g q = labels.label-one e d x y f g q

-- A reader of edition 1 reads what was built in edition 1.
pub first-then-read : (x : Fields) → Fits first x → read_first_said (label_of first x) ≡ accepted (numbers_of x)
first-then-read x f = labels.read-first-built x f

-- Every label of edition 2 it refuses, by the byte of that edition, and tells no frame.
pub second-refused-by-first : (x : Fields) → read_first_said (label_of second x) ≡ refused_telling 19 (2 ∷ []) []
second-refused-by-first x = labels.second-turned-away x

module _ (label : List ℕ) (b : Bytes label) where
  -- What a reader of both accepts was built, from the edition and the fields that it tells.
  pub read-was-built : (read_said label).number ≡ 0
      → (w : WasBuilt label) × (read_said label ≡ accepted (byte_of w.edition ∷ numbers_of w.says))
  read-was-built z = labels.read-was-built label b z

  -- What a reader of edition 1 accepts was built in edition 1, from the fields that it tells.
  pub first-was-built : (read_first_said label).number ≡ 0
      → (x : Fields) × Fits first x × (label ≡ label_of first x) × (read_first_said label ≡ accepted (numbers_of x))
  first-was-built z = labels.first-was-built label b z

-- Anything else gets 19 with its first byte from either, or with 0 where it is empty.
pub all-else-refused : (label : List ℕ)
    → (0 < (read_said label).number → read_said label ≡ refused_telling 19 (get_or label 0 0 ∷ []) [])
    × (0 < (read_first_said label).number → read_first_said label ≡ refused_telling 19 (get_or label 0 0 ∷ []) [])
all-else-refused label = (labels.read-refused label, labels.first-refused label)

-- ---- the order of labels as keys: `bytewise` is the order of the index (Demand2.antt)

-- Within an edition it is the order of station, then burst, then frame.
pub labels-in-order : (e : Edition) (x y : Fields) → Fits e x → Fits e y → bytewise (label_of e x) (label_of e y) ≡ by_fields x y
labels-in-order e x y f g = orders.labels-in-order e x y f g

-- Every label of edition 1 precedes every label of edition 2.
pub first-before-second : (x y : Fields) → bytewise (label_of first x) (label_of second y) ≡ Ordering.lt
first-before-second x y = orders.first-precedes x y

-- ---- labels in the layers of keys: the index takes both editions as it takes any bytes

-- Their bytes are bytes.
pub labels-are-bytes : (e : Edition) (x : Fields) → Fits e x → Bytes (label_of e x)
labels-are-bytes e x f = keys.label-bytes e x f

module _ (x : Fields) where
  -- A label of edition 1 fills its layer and ends there.
  pub first-ends-in-its-layer : (class_at (label_of first x) 0 ≡ 8) × (has_suffix (label_of first x) 0 ≡ false)
  unfolding high_first
  first-ends-in-its-layer = (keys.first-class x, refl)

  -- One of edition 2 has a suffix, the low byte of its frame.
  pub second-has-a-suffix : (class_at (label_of second x) 0 ≡ 9) × (has_suffix (label_of second x) 0 ≡ true)
      × (drop 8 (label_of second x) ≡ x.frame % 256 ∷ [])
  unfolding high_first
  second-has-a-suffix = (keys.second-class x, refl, keys.second-behind x)

-- ---- two examples with bytes; many more are recorded in crates/replay_labels

-- Station 258, burst 50595078, frame 7, and in edition 2 frame 1800.
pub one-of-each-edition : (label_of first (fields 0x0102 0x03040506 7) ≡ 1 ∷ 1 ∷ 2 ∷ 3 ∷ 4 ∷ 5 ∷ 6 ∷ 7 ∷ [])
    × (label_of second (fields 0x0102 0x03040506 0x0708) ≡ 2 ∷ 1 ∷ 2 ∷ 3 ∷ 4 ∷ 5 ∷ 6 ∷ 7 ∷ 8 ∷ [])
unfolding high_first
one-of-each-edition = (refl, refl)

-- What either reader says to that label of edition 2, and to no bytes at all.
pub read-examples : (read_said (2 ∷ 1 ∷ 2 ∷ 3 ∷ 4 ∷ 5 ∷ 6 ∷ 7 ∷ 8 ∷ []) ≡ accepted (2 ∷ 0x0102 ∷ 0x03040506 ∷ 0x0708 ∷ []))
    × (read_first_said (2 ∷ 1 ∷ 2 ∷ 3 ∷ 4 ∷ 5 ∷ 6 ∷ 7 ∷ 8 ∷ []) ≡ refused_telling 19 (2 ∷ []) [])
    × (read_said [] ≡ refused_telling 19 (0 ∷ []) [])
unfolding read_said read_first_said big_endian
read-examples = (refl, refl, refl)
