-- What reading a label answers: by a reader of both editions, and by one that knows edition 1 alone.
use Rattle.std.specs.Prelude.{ℕ, ◌-◌, Bool, cond, ◌||◌, List, [], ◌∷◌, eqb, length, get_or, drop}
use Rattle.refusal.specs.Answer.{Answer, Rule, ◌unless◌, ◌telling◌, answered}
use Rattle.order.specs.Layer.{big_endian}
use Rattle.label_said.specs.Label.{Fields, fields}

-- the edition byte, the first one; 0 for an empty label
abbrev pub edition_byte : List ℕ → ℕ
edition_byte label = get_or label 0 0

-- the fields that stand in a label: two bytes of station, four of burst, and the rest is the frame
abbrev pub fields_in : List ℕ → Fields
fields_in label =
    fields (big_endian 2 (drop 1 label)) (big_endian 4 (drop 3 label)) (big_endian (length label - 7) (drop 7 label))

-- fields as numbers
abbrev pub numbers_of : Fields → List ℕ
numbers_of x = x.station ∷ x.burst ∷ x.frame ∷ []

-- how long a label with this edition byte is: 8 bytes in edition 1, 9 in edition 2
abbrev pub length_by : ℕ → ℕ
length_by byte = cond (eqb byte 1) 8 9

-- 19 unless the reader knows the edition, then 19 unless the label has as many bytes as it must have; either tells the edition byte
abbrev pub label_rules : Bool → ℕ → List ℕ → List Rule
label_rules known long label =
    ((19 unless known) telling (edition_byte label ∷ [])) ∷ ((19 unless eqb (length label) long) telling (edition_byte label ∷ [])) ∷ []

-- a reader of both editions answers the edition and the fields
unfoldable pub read_said : List ℕ → Answer
read_said label =
    answered (label_rules (eqb (edition_byte label) 1 || eqb (edition_byte label) 2) (length_by (edition_byte label)) label)
    (edition_byte label ∷ numbers_of (fields_in label)) []

-- a reader of edition 1 alone answers the fields
unfoldable pub read_first_said : List ℕ → Answer
read_first_said label = answered (label_rules (eqb (edition_byte label) 1) 8 label) (numbers_of (fields_in label)) []
