-- A sorted map, and what the caller of the index hears, as text.
use Rattle.std.specs.Prelude.{ℕ, List, [], ◌∷◌, ◌++◌, length}
use Rattle.order.specs.Map.{Map}
use Rattle.as_map.specs.Calls.{Heard, done, frame, entry, counted, refusal}
use Rattle.page.specs.Shown.{ok_line, refused_line, number_line, header_line, entry_line}

-- a line `KEY FRAME` for each entry, in order
unfoldable pub entry_lines : Map → List ℕ
entry_lines [] = []
entry_lines (e ∷ es) = entry_line e.0 e.1 ++ entry_lines es

-- a map as text: `N entries`, N being how many there are, then a line for each, and nothing else
unfoldable pub map_text : Map → List ℕ
map_text xs = header_line (length xs) ++ entry_lines xs

-- what a caller hears, as a line: `ok`, the frame number, or `refused N` and no more, whatever the refusal tells; an entry as `KEY FRAME`,
-- and a number of entries as `N entries`
abbrev pub shown : Heard → List ℕ
shown done = ok_line
shown (frame x) = number_line x
shown (entry key x) = entry_line key x
shown (counted n) = header_line n
shown (refusal n told) = refused_line n
