-- The same calls on a sorted map from keys to frame numbers.
use Rattle.std.specs.Prelude.{ℕ, cond, ◌&&◌, List, [], ◌∷◌, leb, length}
use Rattle.std.proofs.Math.Option.{Option, none, some}
use Rattle.order.specs.Bytes.{bytewise}
use Rattle.order.specs.Map as map
use Rattle.order.specs.Map.{Map}
use Rattle.as_map.specs.Calls.{Call, clear, put, find, remove, kth, count, Heard, done, frame, entry, counted, refusal, refused}
use Rattle.as_map.specs.Calls.{Room, is_cell_free, nodes_enough, nodes_lacking}

-- f of the value that is there, else z
abbrev pub whether : {A B : Type 0} → B → (A → B) → Option A → B
whether z f none = z
whether z f (some a) = f a

-- refusal 7: the key is over 256 bytes
abbrev pub of_length : {A : Type 0} → List ℕ → A → A → A
of_length key long short = cond (leb (length key) 256) short long

-- what a put of a new key hears of its room: 13 where no cell is free, 14 with the number lacking where nodes are too few
abbrev pub room_said : Room → Heard
room_said room = cond (is_cell_free room) (cond (nodes_enough room) done (refusal 14 (nodes_lacking room ∷ []))) (refused 13)

-- what a sorted map says to a call that finds this room
abbrev pub map_says : Room → Map → Call → Heard
map_says room xs clear = done
map_says room xs (put key x) =
    of_length key (refused 7) (whether (room_said room) (λ y. refused 11) (map.lookup bytewise key xs))
map_says room xs (find key) = of_length key (refused 7) (whether (refused 12) frame (map.lookup bytewise key xs))
map_says room xs (remove key) = of_length key (refused 7) (whether (refused 12) (λ y. done) (map.lookup bytewise key xs))
map_says room xs (kth k) = whether (refused 12) (λ e. entry e.0 e.1) (map.kth k xs)
map_says room xs count = counted (length xs)

-- and the map that it leaves
abbrev pub map_left : Room → Map → Call → Map
map_left room xs clear = []
map_left room xs (put key x) =
    of_length key xs
    (whether (cond (is_cell_free room && nodes_enough room) (map.insert bytewise key x xs) xs) (λ y. xs) (map.lookup bytewise key xs))
map_left room xs (find key) = xs
map_left room xs (remove key) = of_length key xs (map.delete bytewise key xs)
map_left room xs (kth k) = xs
map_left room xs count = xs

-- what it says to one call after the other, where each finds the room beside it
abbrev pub map_answers : List Room → Map → List Call → List Heard
map_answers rooms xs [] = []
map_answers [] xs (call ∷ calls) = []
map_answers (room ∷ rooms) xs (call ∷ calls) = map_says room xs call ∷ map_answers rooms (map_left room xs call) calls

-- and the map that they leave
abbrev pub map_after : List Room → Map → List Call → Map
map_after rooms xs [] = xs
map_after [] xs (call ∷ calls) = xs
map_after (room ∷ rooms) xs (call ∷ calls) = map_after rooms (map_left room xs call) calls
