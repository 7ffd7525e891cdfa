-- What the parser accepts is what the writer makes of the entries that it gives. Assumes nothing.
use Prim.Native.Nat.{ℕ, zero, suc, ◌+◌, ◌≤◌, Ordering}
use mathlib.Core.Path.{◌≡◌, refl, sym, ap, ap₂, ◌∙◌}
use mathlib.Core.Bool.{Bool, true, false}
use mathlib.Core.List.{List, [], ◌∷◌, ◌++◌, append_assoc}
use mathlib.Core.Option.{Option, none, some}
use native.Mathlib.Omega.{arith}
use native.Mathlib.Nat.{add-zero}
use lib.Dec.{eqb}
use lib.ListN.{length, take, drop, length-append, take-append-drop}
use lib.Seq.{drop-drop, length-take-le}
use borrow.Author.Tests.{leb-true, eqb-true}
use Rattle.order.specs.Bytes.{Bytes, bytewise}
use Rattle.order.proofs.Bytes.{bytes_take, bytes_drop, bytewise-order}
use Rattle.order.specs.Map.{All, a[], ◌a∷◌, Map, pick, Sorted, s[], ◌s∷◌}
use Rattle.order.proofs.Map.{all_map}
use Rattle.order.specs.Lists.{flattened}
use Rattle.lent_words.specs.Parts.{zeros}
use Rattle.card_block.specs.Words.{little_endian, low_first}
use Rattle.card_block.proofs.Words.{low-take, little-below}
use Rattle.card_stream.specs.Stream.{entry_bytes, unfilled, lacking, stream_of, Holdable, Writable}
use Rattle.card_stream.specs.Parse.{Parsed, wrong, right, asks, infront, above, fill_from, entries_from, parse}
use Rattle.card_stream.proofs.ReadBack.{entry_length}

-- where a part was asked for and the whole is right, the part was as it must be, and so is the rest
asked : (b : Bool) (place : ℕ) (r : Parsed) {es : Map} → asks b place r ≡ right es → (b ≡ true) × (r ≡ right es)
asked true place r e = (refl, e)
asked false place r e = let z : ◌≡◌ {A = ℕ} 0 1 = cc in absurd (omega arith)

-- an entry was in front, and the rest is right
parted : (d : List ℕ × ℕ) (r : Parsed) {es : Map} → infront d r ≡ right es → (es' : Map) × (r ≡ right es') × (es ≡ d ∷ es')
parted d (wrong place) e = let z : ◌≡◌ {A = ℕ} 0 1 = cc in absurd (omega arith)
parted d (right es') e = (es', refl, cc)

-- the fill
fill-only : (n place : ℕ) (bytes : List ℕ) {es : Map} → fill_from n place bytes ≡ right es → (bytes ≡ zeros n) × (es ≡ [])
unfolding fill_from
fill-only zero place [] e = (refl, cc)
fill-only zero place (x ∷ bytes) e = let z : ◌≡◌ {A = ℕ} 0 1 = cc in absurd (omega arith)
fill-only (suc n) place [] e = let z : ◌≡◌ {A = ℕ} 0 1 = cc in absurd (omega arith)
fill-only (suc n) place (x ∷ bytes) e =
    let (p, q) = asked (eqb x 0) place (fill_from n (place + 1) bytes) e in
    let (s, t) = fill-only n (place + 1) bytes q in
    (ap₂ ◌∷◌ (eqb-true x 0 p) s, t)

-- one entry, and what stands behind it
module _ {bytes : List ℕ} (b : Bytes bytes) (len : ℕ) (e : little_endian 2 bytes ≡ len) (h : 2 ≤ length bytes)
    (k : len ≤ length (drop 2 bytes)) (l : 8 ≤ length (drop (2 + len) bytes)) where
  key-length : length (take len (drop 2 bytes)) ≡ len
  key-length = length-take-le len (drop 2 bytes) k

  entry-only : bytes ≡ entry_bytes (take len (drop 2 bytes), little_endian 8 (drop (2 + len) bytes)) ++ drop (10 + len) bytes
  unfolding entry_bytes
  entry-only =
      let i : 10 + len ≡ 2 + len + 8 = omega arith in
      let p : low_first 2 (length (take len (drop 2 bytes))) ≡ take 2 bytes = ap (low_first 2) (key-length ∙ sym e) ∙ low-take 2 b h in
      let q : low_first 8 (little_endian 8 (drop (2 + len) bytes)) ≡ take 8 (drop (2 + len) bytes) = low-take 8 (bytes_drop (2 + len) b) l in
      rw (
        p,
        q,
        i,
        ← drop-drop 8 (2 + len) bytes,
        append_assoc (take 2 bytes) (take len (drop 2 bytes) ++ take 8 (drop (2 + len) bytes)) (drop 8 (drop (2 + len) bytes)),
        append_assoc (take len (drop 2 bytes)) (take 8 (drop (2 + len) bytes)) (drop 8 (drop (2 + len) bytes)),
        take-append-drop 8 (drop (2 + len) bytes),
        ← drop-drop len 2 bytes,
        take-append-drop len (drop 2 bytes),
        take-append-drop 2 bytes,
      )

-- a test of a comparison that was passed
is-less : (o : Ordering) → pick o true false false ≡ true → o ≡ Ordering.lt
is-less Ordering.lt e = refl
is-less Ordering.eq e = let z : ◌≡◌ {A = ℕ} 0 1 = cc in absurd (omega arith)
is-less Ordering.gt e = let z : ◌≡◌ {A = ℕ} 0 1 = cc in absurd (omega arith)

-- what is above a key is above the one before that key
above-all : (last : Option (List ℕ)) (key : List ℕ) {es : Map} → above last key ≡ true → All (λ e. above (some key) e.0 ≡ true) es
    → All (λ e. above last e.0 ≡ true) es
above-all none key h as' = all_map (λ e p. refl) as'
above-all (some last) key h as' =
    all_map
    (λ e p.
    rw (bytewise-order.trans last key e.0 (is-less (bytewise last key) h) (is-less (bytewise key e.0) p)))
    as'

-- what is known of entries that were read
record Told (n place : ℕ) (last : Option (List ℕ)) (bytes : List ℕ) (es : Map) : Type 0 where
  count : length es ≡ n
  made : bytes ≡ flattened entry_bytes es ++ zeros (lacking (place + length (flattened entry_bytes es)))
  rising : Sorted bytewise es
  behind : All (λ e. above last e.0 ≡ true) es
  each : All Holdable es

told : (n place : ℕ) (last : Option (List ℕ)) {bytes : List ℕ} {es : Map} → Bytes bytes → entries_from n place last bytes ≡ right es
    → Told n place last bytes es
unfolding entries_from
told zero place last {bytes} {es} b e =
    let (p, q) = fill-only (lacking place) place bytes e in
    rw q
    (record { count = refl; made = p ∙ ap (λ (k : ℕ). zeros (lacking k)) (sym (add-zero place)); rising = s[]; behind = a[]; each = a[] })
told (suc n) place last {bytes} {es} b e0 =
    let len = little_endian 2 bytes in
    let key = take len (drop 2 bytes) in
    let frame = little_endian 8 (drop (2 + len) bytes) in
    let rest = drop (10 + len) bytes in
    let (h1, e1) = asked _ _ _ e0 in
    let (h2, e2) = asked _ _ _ e1 in
    let (h3, e3) = asked _ _ _ e2 in
    let (h4, e4) = asked _ _ _ e3 in
    let (h5, e5) = asked _ _ _ e4 in
    let (es', r, s) = parted (key, frame) _ e5 in
    rw s (one_more n place last b len refl (leb-true _ _ h1) (leb-true _ _ h2) (leb-true _ _ h3) (leb-true _ _ h5) h4
    (told n (place + (10 + len)) (some key) (bytes_drop (10 + len) b) r))
  where
    one_more : (n place : ℕ) (last : Option (List ℕ)) {bytes : List ℕ} (b : Bytes bytes) (len : ℕ) → little_endian 2 bytes ≡ len
        → 2 ≤ length bytes → len ≤ 256
        → len ≤ length (drop 2 bytes) → 8 ≤ length (drop (2 + len) bytes) → above last (take len (drop 2 bytes)) ≡ true
        → {es : Map} → Told n (place + (10 + len)) (some (take len (drop 2 bytes))) (drop (10 + len) bytes) es
        → Told (suc n) place last bytes ((take len (drop 2 bytes), little_endian 8 (drop (2 + len) bytes)) ∷ es)
    one_more n place last {bytes} b len e h j k l a {es} t =
        let key = take len (drop 2 bytes) in
        let frame = little_endian 8 (drop (2 + len) bytes) in
        let f : List ℕ = flattened entry_bytes es in
        let m : length key ≡ len = key-length b len e h k l in
        let i : place + (10 + len) + length f ≡ place + length (entry_bytes (key, frame) ++ f) =
        simp (length-append, entry_length key frame) (omega arith) in
        record {
          count = ap suc t.count;
          made =
              entry-only b len e h k l ∙ ap (λ (r : List ℕ). entry_bytes (key, frame) ++ r) t.made
              ∙ sym (append_assoc (entry_bytes (key, frame)) f _) ∙ ap (λ (q : ℕ). entry_bytes (key, frame) ++ f ++ zeros (lacking q)) i;
          rising = all_map (λ d p. is-less (bytewise key d.0) p) t.behind s∷ t.rising;
          behind = a a∷ above-all last key a t.behind;
          each =
              record { bytes = bytes_take len (bytes_drop 2 b); short = rw m j; frame = little-below 8 (bytes_drop (2 + len) b) }
              a∷ t.each;
        }

-- whatever the parser accepts is the stream of writable entries: nothing that the writer could not have written is accepted
pub only-written : {bytes : List ℕ} {es : Map} → Bytes bytes → parse bytes ≡ right es → Writable es × (bytes ≡ stream_of es)
unfolding parse stream_of unfilled
only-written {bytes} {es} b e0 =
    let n = little_endian 4 bytes in
    let (h1, e1) = asked _ _ _ e0 in
    let (h2, e2) = asked _ _ _ e1 in
    let h : 4 ≤ length bytes = leb-true _ _ h1 in
    let k : n ≤ 255 = leb-true _ _ h2 in
    let t = told n 4 none (bytes_drop 4 b) e2 in
    let f : List ℕ = flattened entry_bytes es in
    let p : low_first 4 (length es) ≡ take 4 bytes = ap (low_first 4) t.count ∙ low-take 4 b h in
    let i : length (take 4 bytes ++ f) ≡ 4 + length f = simp length-append (omega (arith, length-take-le 4 bytes h)) in (
      record { few = rw t.count k; rising = t.rising; each = t.each },
      rw (p, i, append_assoc (take 4 bytes) f (zeros (lacking (4 + length f))), ← t.made, take-append-drop 4 bytes),
    )
