-- A tree has at most 255 entries, each with a key of at most 256 bytes and a frame number of at most 20 digits, so its listing has at most
-- 255 * 534 + 12 bytes. Assumes nothing.
use Prim.Native.Nat.{ℕ, ◌+◌, ◌*◌, ◌^◌, ◌≤◌, ◌<◌}
use mathlib.Core.Path.{◌≡◌}
use mathlib.Core.Bool.{true}
use mathlib.Core.List.{List, [], ◌∷◌, ◌++◌}
use native.Mathlib.Omega.{arith}
use lib.ListN.{length, get_or, length-append}
use Rattle.bank.proofs.Tests.{holds}
use Rattle.order.specs.Map.{All, a[], ◌a∷◌}
use Rattle.arena.specs.Layout.{key_at, frame_at, cell_start}
use Rattle.arena.specs.Memory.{Memory}
use Rattle.forest.specs.Walk.{is_tree}
use Rattle.forest.proofs.Accepts.{tree-found}
use Rattle.model.specs.Calls.{in_key_order}
use Rattle.views.proofs.Few.{few-255, keys-short}
use Rattle.page.specs.Shown.{key_shown, header_line}
use Rattle.page.proofs.Pages.{decimal-short, hex-length, header-length, entry_length}
use Rattle.lines_said.specs.Said.{entry_text, entry_texts, listing}
use Rattle.lines_list.proofs.Rooms.{digits-room}

key_fits : (key : List ℕ) → length key ≤ 256 → length (key_shown key) ≤ 512
unfolding key_shown
key_fits [] h = omega arith
key_fits (b ∷ bs) h = omega (arith, hex-length (b ∷ bs))

-- words of memory are below 2^64
module _ (m : Memory) (words : (i : ℕ) → get_or m.cells i 0 < 2 ^ 64) where
  entry-fits : (c : ℕ) → length (key_at m.cells m.bytes c) ≤ 256 → length (entry_text m c) ≤ 534
  entry-fits c h =
      omega (
        arith,
        entry_length (key_at m.cells m.bytes c) (frame_at m.cells c),
        key_fits (key_at m.cells m.bytes c) h,
        digits-room {n = frame_at m.cells c} (words (cell_start c + 1)),
      )

  entries_fit : {cs : List ℕ} → All (λ c. length (key_at m.cells m.bytes c) ≤ 256) cs → length (entry_texts m cs) ≤ 534 * length cs
  unfolding entry_texts
  entries_fit a[] = omega arith
  entries_fit (◌a∷◌ {x = c} {xs = cs} h hs) =
      omega (arith, length-append (entry_text m c) (entry_texts m cs), entry-fits c h, entries_fit hs)

  pub listing-fits : is_tree m ≡ true → length (listing m) ≤ 136182
  unfolding listing
  listing-fits tree =
      let (v, t) = tree-found m (holds tree) in
      let n = length (in_key_order m) in
      omega (
        arith,
        length-append (header_line n) (entry_texts m (in_key_order m)),
        header-length n,
        few-255 m v t.forest,
        decimal-short 2 n (omega (arith, few-255 m v t.forest)),
        entries_fit (keys-short m v t.forest),
      )
