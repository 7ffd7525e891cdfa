-- Two keys compared layer by layer, with the calls of this crate alone: each is made, they are compared at a layer, and while they
-- are equal there and both longer, both are shifted.
use Rattle.std.specs.Prelude.{ℕ, zero, suc, ◌-◌, ◌*◌, Bool, cond, ◌&&◌, List, [], ◌∷◌, eqb, length, get_or}
use Rattle.refusal.specs.Answer.{Answer, accepted}
use Rattle.key_layer.specs.Keys.{has_suffix, new_said, shift_said, compare_said}

-- the ikey of a key, in the answer that gave it
abbrev pub ikey_of : Answer → ℕ
ikey_of key = get_or key.values 0 0

-- its shift count
abbrev pub shifts_of : Answer → ℕ
shifts_of key = get_or key.values 1 0

-- its suffix start
abbrev pub start_of : Answer → ℕ
start_of key = get_or key.values 2 0

-- the first key against the second, at their layer
abbrev pub here : List ℕ → List ℕ → Answer → Answer → Answer
here a b x y =
    compare_said a (ikey_of x) (shifts_of x) (start_of x) (ikey_of y) (length b - 8 * shifts_of y)

-- the key shifted
abbrev pub further : List ℕ → Answer → Answer
further a x = shift_said a (ikey_of x) (shifts_of x) (start_of x)

-- an accepted comparison that says "equal"
abbrev pub is_equal : Answer → Bool
is_equal said = eqb said.number 0 && eqb (get_or said.values 0 0) 1

-- at most so many layers, from the keys x of a and y of b on
unfoldable pub by_layers : ℕ → List ℕ → List ℕ → Answer → Answer → Answer
by_layers zero a b x y = accepted (1 ∷ [])
by_layers (suc layers) a b x y =
    cond (is_equal (here a b x y) && (has_suffix a (shifts_of x) && has_suffix b (shifts_of y)))
    (by_layers layers a b (further a x) (further b y)) (here a b x y)

-- from layer 0 on
abbrev pub compared_by_layers : List ℕ → List ℕ → Answer
compared_by_layers a b = by_layers 32 a b (new_said a) (new_said b)
