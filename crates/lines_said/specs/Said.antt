-- What the answer to a command is: what is printed, and what is left in memory.
use Rattle.std.specs.Prelude.{ℕ, cond, List, [], ◌∷◌, ◌++◌, eqb, length, get_or}
use Rattle.refusal.specs.Answer.{Answer}
use Rattle.arena.specs.Layout.{key_at, frame_at}
use Rattle.arena.specs.Memory.{Memory}
use Rattle.forest.specs.Walk.{is_tree}
use Rattle.model.specs.Calls.{put_done, find_said, removed, in_key_order}
use Rattle.page.specs.Shown.{ok_line, bad_line, refused_line, number_line, header_line, entry_line}
use Rattle.text.specs.Command.{Command, put, find, del, list, bad}

-- a text for an accepted call, `refused N` for any other
unfoldable pub unless_refused : Answer → List ℕ → List ℕ
unless_refused a text = cond (eqb a.number 0) text (refused_line a.number)

-- `KEY FRAME` for a cell
abbrev pub entry_text : Memory → ℕ → List ℕ
entry_text m c = entry_line (key_at m.cells m.bytes c) (frame_at m.cells c)

-- the same for each of these cells, one after the other
unfoldable pub entry_texts : Memory → List ℕ → List ℕ
entry_texts m [] = []
entry_texts m (c ∷ cs) = entry_text m c ++ entry_texts m cs

-- how many entries there are, and then each, in key order
unfoldable pub listing : Memory → List ℕ
listing m = header_line (length (in_key_order m)) ++ entry_texts m (in_key_order m)

-- what `list` prints: the listing, or `refused 10` where memory is no tree
unfoldable pub listed : Memory → List ℕ
listed m = cond (is_tree m) (listing m) (refused_line 10)

-- what a command prints
unfoldable pub printed : Memory → Command → List ℕ
printed m (put key frame) = unless_refused (put_done m key frame).answer ok_line
printed m (find key) = unless_refused (find_said m key) (number_line (get_or (find_said m key).values 0 0))
printed m (del key) = unless_refused (removed m key).answer ok_line
printed m list = listed m
printed m bad = bad_line

-- what it leaves in memory
unfoldable pub left : Memory → Command → Memory
left m (put key frame) = (put_done m key frame).after
left m (find key) = m
left m (del key) = (removed m key).after
left m list = m
left m bad = m
