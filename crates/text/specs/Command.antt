-- What a line asks for.
use Rattle.std.specs.Prelude.{ℕ, Bool, ◌&&◌, cond, List, [], ◌∷◌, leb, length, Option, Some, None}
use Rattle.text.specs.declared.inside.Line.{Line}
use Rattle.text.specs.declared.inside.Line.TheVariants as line-is
use Rattle.arena.specs.Parts.{put_part}
use Rattle.text.specs.Split.{split}
use Rattle.text.specs.Fields.{same, is_key, key_in, is_frame, number_in}

-- a command: a put with its key and frame number, a find or a removal with its key, the listing, or a line that is bad
pub data Command : Type 0 where
  put : List ℕ → ℕ → Command
  find : List ℕ → Command
  del : List ℕ → Command
  list : Command
  bad : Command

-- the word `put`
abbrev pub put_word : List ℕ
put_word = 112 ∷ 117 ∷ 116 ∷ []

-- the word `find`
abbrev pub find_word : List ℕ
find_word = 102 ∷ 105 ∷ 110 ∷ 100 ∷ []

-- the word `del`
abbrev pub del_word : List ℕ
del_word = 100 ∷ 101 ∷ 108 ∷ []

-- the word `list`
abbrev pub list_word : List ℕ
list_word = 108 ∷ 105 ∷ 115 ∷ 116 ∷ []

-- a command with a key alone
unfoldable pub keyed : List ℕ → List ℕ → Command
keyed word key = cond (same word find_word) (find key) (cond (same word del_word) (del key) bad)

-- a put with a key and the field of its frame number
unfoldable pub framed : List ℕ → List ℕ → Command
framed key frame = cond (is_frame frame) (put key (number_in frame)) bad

-- `list`; `find KEY`, `del KEY`; `put KEY FRAME`; anything else is bad
unfoldable pub read_fields : List (List ℕ) → Command
read_fields [] = bad
read_fields (word ∷ []) = cond (same word list_word) list bad
read_fields (word ∷ key ∷ []) = cond (is_key key) (keyed word (key_in key)) bad
read_fields (word ∷ key ∷ frame ∷ []) =
    cond (same word put_word && is_key key) (framed (key_in key) frame) bad
read_fields (word ∷ key ∷ frame ∷ more ∷ fields) = bad

-- fields stand between single spaces; over 1,200 bytes a line is bad
unfoldable pub read : List ℕ → Command
read line = cond (leb (length line) 1200) (read_fields (split 32 line)) bad

-- the key that a command names
abbrev pub key_of : Command → List ℕ
key_of (put key frame) = key
key_of (find key) = key
key_of (del key) = key
key_of list = []
key_of bad = []

-- a command as the code has it: the key by its length
abbrev pub line_of : Command → Line
line_of (put key frame) = line-is.Put (length key) frame
line_of (find key) = line-is.Find (length key)
line_of (del key) = line-is.Del (length key)
line_of list = line-is.List
line_of bad = line-is.Bad

-- a line as the code has it, and the lent buffer behind it
pub record Heard : Type 0 where
  pub line : Line
  pub buffer : List ℕ

-- this line, and this buffer behind it
abbrev pub heard : Line → List ℕ → Heard
heard line buffer = record { line = line; buffer = buffer }

-- a command with its key at the front of the buffer, the other bytes as they were
abbrev pub taken : Command → List ℕ → Heard
taken command buffer = heard (line_of command) (put_part buffer 0 (key_of command))

-- a field as a frame number, where the test holds
abbrev pub frame_if : Bool → List ℕ → Option ℕ
frame_if test field = cond test (Some (number_in field)) None
