-- Accepted puts and accepted removals since the last clear, by the calls and what was heard to each.
use Rattle.std.specs.Prelude.{ℕ, suc, Bool, true, false, cond, List, [], ◌∷◌}
use Rattle.as_map.specs.Calls.{Call, clear, put, find, remove, kth, count, Heard, done, frame, entry, counted, refusal}

-- the call was accepted: no refusal was heard
abbrev pub was_accepted : Heard → Bool
was_accepted done = true
was_accepted (frame x) = true
was_accepted (entry key x) = true
was_accepted (counted n) = true
was_accepted (refusal n told) = false

-- a number of puts after one call more: 0 after an accepted clear, one more after an accepted put
abbrev pub puts_then : ℕ → Call → Heard → ℕ
puts_then n clear h = cond (was_accepted h) 0 n
puts_then n (put key x) h = cond (was_accepted h) (suc n) n
puts_then n (find key) h = n
puts_then n (remove key) h = n
puts_then n (kth k) h = n
puts_then n count h = n

-- a number of removals after one call more: 0 after an accepted clear, one more after an accepted removal
abbrev pub removals_then : ℕ → Call → Heard → ℕ
removals_then n clear h = cond (was_accepted h) 0 n
removals_then n (put key x) h = n
removals_then n (find key) h = n
removals_then n (remove key) h = cond (was_accepted h) (suc n) n
removals_then n (kth k) h = n
removals_then n count h = n

-- how many puts were accepted since the last clear, where n were before these calls
abbrev pub puts_since : ℕ → List Call → List Heard → ℕ
puts_since n [] heard = n
puts_since n (call ∷ calls) [] = n
puts_since n (call ∷ calls) (h ∷ heard) = puts_since (puts_then n call h) calls heard

-- how many removals were accepted since the last clear, where n were before these calls
abbrev pub removals_since : ℕ → List Call → List Heard → ℕ
removals_since n [] heard = n
removals_since n (call ∷ calls) [] = n
removals_since n (call ∷ calls) (h ∷ heard) = removals_since (removals_then n call h) calls heard
