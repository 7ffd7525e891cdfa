-- What the writer makes is read back as the same entries. Assumes nothing.
use Prim.Native.Nat.{ℕ, zero, suc, ◌+◌, ◌^◌, ◌<◌, ◌≤◌}
use mathlib.Core.Path.{◌≡◌, refl, sym, ap, ◌∙◌}
use mathlib.Core.Bool.{true}
use mathlib.Core.List.{List, [], ◌++◌, append_assoc}
use mathlib.Core.Option.{Option, none, some}
use native.Mathlib.Omega.{arith}
use native.Mathlib.Nat.{add-zero}
use lib.ListN.{length, take, drop, length-append}
use lib.Seq.{take_at, drop_at, drop-drop}
use borrow.Author.Tests.{le-leb}
use Rattle.order.specs.Bytes.{bytewise}
use Rattle.order.specs.Map.{All, a[], ◌a∷◌, Map, Sorted, s[], ◌s∷◌}
use Rattle.order.proofs.Map.{all_map}
use Rattle.order.specs.Lists.{flattened}
use Rattle.lent_words.specs.Parts.{zeros}
use Rattle.card_block.specs.Words.{little_endian, low_first}
use Rattle.card_block.proofs.Words.{low-length, little-low}
use Rattle.card_stream.specs.Stream.{entry_bytes, unfilled, lacking, stream_of, Holdable, Writable}
use Rattle.card_stream.specs.Parse.{right, infront, above, fill_from, entries_from, parse}

pub entry_length : (key : List ℕ) (frame : ℕ) → length (entry_bytes (key, frame)) ≡ 10 + length key
unfolding entry_bytes
entry_length key frame = simp (length-append, low-length) (omega arith)

-- one entry
entry_read : (n place : ℕ) (last : Option (List ℕ)) (key : List ℕ) (frame : ℕ) (rest : List ℕ) → length key ≤ 256 → frame < 2 ^ 64
    → above last key ≡ true
    → entries_from (suc n) place last (entry_bytes (key, frame) ++ rest) ≡ infront (key, frame)
    (entries_from n (place + (10 + length key)) (some key) rest)
unfolding entries_from entry_bytes
entry_read n place last key frame rest h k a =
    let len : ℕ = length key in
    let f : List ℕ = low_first 8 frame in
    let bytes : List ℕ = low_first 2 len ++ (key ++ f) ++ rest in
    let x : length (low_first 2 len) ≡ 2 = low-length 2 len in
    let y : length f ≡ 8 = low-length 8 frame in
    let b : bytes ≡ low_first 2 len ++ (key ++ (f ++ rest)) = append_assoc (low_first 2 len) (key ++ f) rest
    ∙ ap (λ (l : List ℕ). low_first 2 len ++ l) (append_assoc key f rest) in
    let p : little_endian 2 bytes ≡ len = ap (little_endian 2) b ∙ little-low 2 len (key ++ (f ++ rest)) (omega arith) in
    let q : drop 2 bytes ≡ key ++ (f ++ rest) = ap (drop 2) b ∙ drop_at (low_first 2 len) (key ++ (f ++ rest)) 2 x in
    let r : take len (key ++ (f ++ rest)) ≡ key = take_at key (f ++ rest) len refl in
    let s : drop (2 + len) bytes ≡ f ++ rest = sym (drop-drop len 2 bytes) ∙ ap (drop len) q ∙ drop_at key (f ++ rest) len refl in
    let i : 10 + len ≡ 2 + len + 8 = omega arith in
    let t : drop (10 + len) bytes ≡ rest = ap (λ (j : ℕ). drop j bytes) i ∙ sym (drop-drop 8 (2 + len) bytes) ∙ ap (drop 8) s
    ∙ drop_at f rest 8 y in
    let u : little_endian 8 (f ++ rest) ≡ frame = little-low 8 frame rest k in
    let l : length bytes ≡ 2 + (len + (8 + length rest)) = simp (length-append, low-length) (omega arith) in
    let m : length (key ++ (f ++ rest)) ≡ len + (8 + length rest) = simp (length-append, low-length) (omega arith) in
    let o : length (f ++ rest) ≡ 8 + length rest = simp (length-append, low-length) (omega arith) in
    rw (
      p,
      q,
      r,
      s,
      t,
      u,
      a,
      le-leb 2 (length bytes) (omega arith),
      le-leb len 256 h,
      le-leb len (length (key ++ (f ++ rest)))
          (omega arith),
      le-leb 8 (length (f ++ rest)) (omega arith),
    )

-- the fill
fill-read : (n place : ℕ) → fill_from n place (zeros n) ≡ right []
unfolding fill_from
fill-read zero place = refl
fill-read (suc n) place = fill-read n (place + 1)

-- any number of entries, and the fill
entries-read : (place : ℕ) (last : Option (List ℕ)) {es : Map} → All Holdable es → Sorted bytewise es
    → All (λ e. above last e.0 ≡ true) es
    → entries_from (length es) place last (flattened entry_bytes es ++ zeros (lacking (place + length (flattened entry_bytes es)))) ≡ right es
unfolding entries_from
entries-read place last a[] s[] a[] = rw add-zero (fill-read (lacking place) place)
entries-read place last (◌a∷◌ {x = e} {xs = es} h hs) (l s∷ s) (a a∷ as') =
    let f : List ℕ = flattened entry_bytes es in
    let i : place + length (entry_bytes e ++ f) ≡ place + (10 + length e.0) + length f =
    simp (length-append, entry_length e.0 e.1) (omega arith) in
    rw (i, append_assoc (entry_bytes e) f (zeros (lacking (place + (10 + length e.0) + length f))))
    (entry_read (length es) place last e.0 e.1 (f ++ zeros (lacking (place + (10 + length e.0) + length f))) h.short
    h.frame a
    ∙ ap (infront e) (entries-read (place + (10 + length e.0)) (some e.0) hs s (all_map (λ d p. rw p) l)))

-- the whole stream
pub read_back : (es : Map) → Writable es → parse (stream_of es) ≡ right es
unfolding parse stream_of unfilled
read_back es w =
    let n : ℕ = length es in
    let few : n ≤ 255 = w.few in
    let f : List ℕ = flattened entry_bytes es in
    let c : List ℕ = low_first 4 n in
    let x : length c ≡ 4 = low-length 4 n in
    let i : length (c ++ f) ≡ 4 + length f = simp (length-append, low-length) in
    let z : List ℕ = zeros (lacking (4 + length f)) in
    let p : little_endian 4 (c ++ (f ++ z)) ≡ n = little-low 4 n (f ++ z) (omega arith) in
    let l : 4 ≤ length (c ++ (f ++ z)) = simp (length-append, low-length) (omega arith) in
    rw (i, append_assoc c f z, p, drop_at c (f ++ z) 4 x, le-leb 4 (length (c ++ (f ++ z))) l, le-leb n 255 few)
    (entries-read 4 none w.each w.rising (all_map (λ e h. refl) w.each))
