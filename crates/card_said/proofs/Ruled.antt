-- What reading an image says, and what it keeps, by its rules. Assumes nothing.
use Prim.Native.Nat.{ℕ, ◌<◌}
use mathlib.Core.Path.{◌≡◌, refl, sym, ap, ◌∙◌, subst}
use mathlib.Core.Logic.{◌⊎◌, inl, inr}
use mathlib.Core.Bool.{Bool, true, false, cond, not}
use mathlib.Core.List.{List, [], ◌∷◌, ◌++◌}
use native.Mathlib.Omega.{arith}
use lib.Dec.{eqb}
use lib.ListN.{length}
use borrow.Author.Tests.{eq-eqb, ne_eqb}
use Rattle.refusal.specs.Answer.{Answer, Rule, ◌unless◌, ◌telling◌, accepted, answered, all_hold}
use Rattle.order.specs.Bytes.{Bytes}
use Rattle.order.specs.Map.{Map, All}
use Rattle.order.proofs.Map.{all_map}
use Rattle.arena.specs.Memory.{Memory, Did, did, right_lengths}
use Rattle.model.specs.Calls.{put_done}
use Rattle.forest.specs.IsTree.{Layers, IsTree, listing}
use Rattle.forest.proofs.One.{tree-one}
use Rattle.map_loads.specs.Heard.{clear, left, answers, left_after}
use Rattle.map_loads.specs.Loads.{puts_after, Fileable, empty_of, settled, loaded, as_calls, NoRoom, done_each, FailsFirst, heard_as}
use Rattle.map_loads.proofs.Rises.{Outcome, puts-rise}
use Rattle.map_loads.proofs.Loaded.{Loads, Refuses, load-outcome, empty-lists}
use Rattle.card_stream.specs.Stream.{Holdable, Writable}
use Rattle.card_stream.specs.Parse.{Parsed, wrong, right}
use Rattle.card_stream.proofs.OnlyWritten.{only-written}
use Rattle.card_stream.proofs.Accepted.{payload-bytes}
use Rattle.card_said.specs.Save.{entries_in, save_said, with_image, save_done}
use Rattle.card_said.specs.Load.{
  whole_blocks,
  blocks_in,
  bad_block,
  checks_good,
  read,
  as_written,
  wrong_at,
  entries_of,
  image_rules,
  load_done,
  puts_said,
  load_rules,
}

-- ---- saving

module _ (m : Memory) (out : List ℕ) where
  -- accepted, the image stands at the start of the buffer, and the bytes behind it stay
  pub save-written : (save_done m out).1.number ≡ 0 → (save_done m out).0 ≡ with_image (entries_in m) out
  unfolding save_done
  save-written z = rw (eq-eqb (save_said m out).number 0 z)

  -- refused, all of the buffer stays
  pub save-kept : 0 < (save_done m out).1.number → (save_done m out).0 ≡ out
  unfolding save_done
  save-kept p = rw (ne_eqb (save_said m out).number 0 (λ z. omega arith))

-- ---- an image that can be read

-- lent lengths are right
abbrev pub Fits : Memory → Type 0
Fits m = right_lengths (length m.nodes) (length m.cells) (length m.bytes) ≡ true

-- its length is right, its checks are good, and its stream gives these entries
pub record Readable (image : List ℕ) (es : Map) : Type 0 where
  pub whole : whole_blocks (length image) ≡ true
  pub good : checks_good image ≡ true
  pub parsed : read image ≡ right es

-- its entries can be written, and so they can be filed
pub read-writable : {image : List ℕ} {es : Map} → Bytes image → read image ≡ right es → Writable es
read-writable {image} b e = (only-written (payload-bytes (blocks_in image) b) e).0

pub writable-fileable : {es : Map} → Writable es → All Fileable es
writable-fileable w = all_map (λ e h. record { bytes = h.bytes; short = h.short }) w.each

-- ---- by its rules: lent lengths y, length w, checks g, stream p

abbrev judging : Bool → Bool → Bool → ℕ → Parsed → List Rule
judging y w g block p =
    (10 unless y) ∷ (15 unless w) ∷ ((16 unless g) telling (block ∷ [])) ∷ ((17 unless as_written p) telling (wrong_at p ∷ [])) ∷ []

-- what is refused before the index is touched, or what there is to load
module _ (m : Memory) (image : List ℕ) where
  -- refused: memory is as it was, and the answer is 10, 15, 16 or 17
  pub record Untouched : Type 0 where
    pub done : load_done m image ≡ did (answered (image_rules m image) [] []) m
    pub ruled : (rules : List Rule) (values : List ℕ)
        → answered (image_rules m image ++ rules) values [] ≡ answered (image_rules m image) [] []
    pub early : 0 < (answered (image_rules m image) [] []).number
    pub not-13 : (answered (image_rules m image) [] []).number ≡ 13 → ⊥
    pub not-14 : (answered (image_rules m image) [] []).number ≡ 14 → ⊥

  pub load-cases : ((es : Map) × Fits m × Readable image es) ⊎ Untouched
  unfolding load_done all_hold
  load-cases =
      by (right_lengths (length m.nodes) (length m.cells) (length m.bytes)) (whole_blocks (length image)) (checks_good image)
      (read image)
      refl refl refl refl
    where
      by : (y w g : Bool) (p : Parsed) → right_lengths (length m.nodes) (length m.cells) (length m.bytes) ≡ y
          → whole_blocks (length image) ≡ w → checks_good image ≡ g → read image ≡ p
          → ((es : Map) × Fits m × Readable image es) ⊎ Untouched
      by true true true (right es) a b c d = inl (es, a, record { whole = b; good = c; parsed = d })
      by true true true (wrong place) a b c d =
          inr
          (record {
            done = rw (a, b, c, d);
            ruled = λ rules values. rw (a, b, c, d);
            early = rw (a, b, c, d) (omega arith);
            not-13 = rw (a, b, c, d) (λ z. omega arith);
            not-14 = rw (a, b, c, d) (λ z. omega arith);
          })
      by true true false p a b c d =
          inr
          (record {
            done = rw (a, b, c);
            ruled = λ rules values. rw (a, b, c);
            early = rw (a, b, c) (omega arith);
            not-13 = rw (a, b, c) (λ z. omega arith);
            not-14 = rw (a, b, c) (λ z. omega arith);
          })
      by true false g p a b c d =
          inr
          (record {
            done = rw (a, b);
            ruled = λ rules values. rw (a, b);
            early = rw (a, b) (omega arith);
            not-13 = rw (a, b) (λ z. omega arith);
            not-14 = rw (a, b) (λ z. omega arith);
          })
      by false w g p a b c d =
          inr
          (record {
            done = rw a;
            ruled = λ rules values. rw a;
            early = rw a (omega arith);
            not-13 = rw a (λ z. omega arith);
            not-14 = rw a (λ z. omega arith);
          })

  module _ {es : Map} (f : Fits m) (r : Readable image es) where
    -- it is loaded then
    pub load-readable : load_done m image ≡ loaded m es
    unfolding load_done all_hold
    load-readable = rw (f, r.whole, r.good, r.parsed) refl

    -- and the rules before the index is touched all hold
    all-hold : (rules : List Rule) (values : List ℕ) → answered (image_rules m image ++ rules) values [] ≡ answered rules values []
    all-hold rules values = rw (f, r.whole, r.good, r.parsed) refl

-- ---- 13 and 14, as the first failing put gives them

-- the rules by what the puts answer
abbrev room_rules : Answer → List Rule
room_rules a = (13 unless not (eqb a.number 13)) ∷ ((14 unless not (eqb a.number 14)) telling a.values) ∷ []

settled_says : (empty : Memory) (k : ℕ) (d : Did) {m : Memory} {es xs : Map} → Outcome m es xs d
    → (settled empty k d).answer ≡ answered (room_rules d.answer) (k ∷ []) []
settled_says empty k d (inl a) = rw a.tells refl
settled_says empty k d (inr (inl e, f)) = rw e refl
settled_says empty k d (inr (inr (n, e), f)) = rw e refl

puts-say : (m : Memory) (es : Map) → Outcome (empty_of m) es es (puts_after put_done (did (accepted []) (empty_of m)) es)
    → (loaded m es).answer ≡ answered (room_rules (puts_after put_done (did (accepted []) (empty_of m)) es).answer) (length es ∷ []) []
unfolding loaded
puts-say m es o = settled_says (empty_of m) (length es) (puts_after put_done (did (accepted []) (empty_of m)) es) o

-- ---- the whole answer, and memory

module _ (m : Memory) (image : List ℕ) (b : Bytes image) where
  -- how reading ends: refused before the index is touched; or the image is readable, and its entries are loaded, or find no room
  abbrev pub Ends : Type 0
  Ends =
      Untouched m image ⊎ ((es : Map) × Fits m × Readable image es × (Loads m es (load_done m image) ⊎ Refuses m es (load_done m image)))

  pub load-ends : Ends
  load-ends = by (load-cases m image)
    where
      by : ((es : Map) × Fits m × Readable image es) ⊎ Untouched m image → Ends
      by (inr u) = inl u
      by (inl (es, f, r)) =
          let w : Writable es = read-writable b r.parsed in
          inr (
            es,
            f,
            r,
            subst (λ (d : Did). Loads m es d ⊎ Refuses m es d) (sym (load-readable m image f r))
                (load-outcome m f es w.rising (writable-fileable w)),
          )

  -- the answer is that of the rules as they are listed
  pub load-says : (load_done m image).answer ≡ answered (load_rules m image) (length (entries_of (read image)) ∷ []) []
  load-says = by (load-cases m image)
    where
      by : ((es : Map) × Fits m × Readable image es) ⊎ Untouched m image
          → (load_done m image).answer ≡ answered (load_rules m image) (length (entries_of (read image)) ∷ []) []
      by (inr u) =
          ap (λ (d : Did). d.answer) u.done
          ∙ sym (u.ruled (room_rules (puts_said m image)) (length (entries_of (read image)) ∷ []))
      by (inl (es, f, r)) =
          let w : Writable es = read-writable b r.parsed in
          let s : entries_of (read image) ≡ es = ap entries_of r.parsed in
          ap (λ (d : Did). d.answer) (load-readable m image f r)
          ∙ puts-say m es (puts-rise (empty_of m) [] [] es (empty-lists m f) w.rising (writable-fileable w))
          ∙ ap (λ (l : Map). answered (room_rules (puts_after put_done (did (accepted []) (empty_of m)) l).answer) (length l ∷ []) []) (sym s)
          ∙ sym (all-hold m image f r (room_rules (puts_said m image)) (length (entries_of (read image)) ∷ []))

  -- refused with 10, 15, 16 or 17, memory is as it was
  pub load_kept : 0 < (load_done m image).answer.number → ((load_done m image).answer.number ≡ 13 → ⊥)
      → ((load_done m image).answer.number ≡ 14 → ⊥)
      → (load_done m image).after ≡ m
  load_kept p not-13 not-14 = by load-ends
    where
      by : Ends → (load_done m image).after ≡ m
      by (inl u) = ap (λ (d : Did). d.after) u.done
      by (inr (es, f, r, inl a)) = let z = ap (λ (x : Answer). x.number) a.tells in absurd (omega arith)
      by (inr (es, f, r, inr n)) = absurd (or n.no_room)
        where
          or : NoRoom (load_done m image).answer → ⊥
          or (inl e) = not-13 (ap (λ (x : Answer). x.number) e)
          or (inr (k, e)) = not-14 (ap (λ (x : Answer). x.number) e)

  -- refused with 13 or 14, memory is what a clear leaves
  pub load-emptied : ((load_done m image).answer.number ≡ 13) ⊎ ((load_done m image).answer.number ≡ 14)
      → (load_done m image).after ≡ left m clear
  load-emptied z = by load-ends z
    where
      by : Ends → ((load_done m image).answer.number ≡ 13) ⊎ ((load_done m image).answer.number ≡ 14) → (load_done m image).after ≡ left m clear
      by (inl u) (inl q) = absurd (u.not-13 (sym (ap (λ (d : Did). d.answer.number) u.done) ∙ q))
      by (inl u) (inr q) = absurd (u.not-14 (sym (ap (λ (d : Did). d.answer.number) u.done) ∙ q))
      by (inr (es, f, r, inl a)) (inl q) = let z = ap (λ (x : Answer). x.number) a.tells in absurd (omega arith)
      by (inr (es, f, r, inl a)) (inr q) = let z = ap (λ (x : Answer). x.number) a.tells in absurd (omega arith)
      by (inr (es, f, r, inr n)) q = n.empties

  -- accepted: the image is readable, and its entries are loaded
  pub load-accepted : (load_done m image).answer.number ≡ 0 → (es : Map) × Fits m × Readable image es × Loads m es (load_done m image)
  load-accepted z = by load-ends
    where
      by : Ends → (es : Map) × Fits m × Readable image es × Loads m es (load_done m image)
      by (inl u) = let q = ap (λ (d : Did). d.answer.number) u.done in absurd (omega (arith, u.early))
      by (inr (es, f, r, inl a)) = (es, f, r, a)
      by (inr (es, f, r, inr n)) = absurd (zero n.no_room)
        where
          zero : NoRoom (load_done m image).answer → ⊥
          zero (inl e) = let q = ap (λ (x : Answer). x.number) e in omega arith
          zero (inr (k, e)) = let q = ap (λ (x : Answer). x.number) e in omega arith

  -- so it leaves what a clear and the puts leave, each heard as done, and lists its entries
  pub load-counts-as : (load_done m image).answer.number ≡ 0
      → ((load_done m image).after ≡ left_after m (as_calls (entries_of (read image))))
      × (answers m (as_calls (entries_of (read image))) ≡ done_each (as_calls (entries_of (read image))))
      × ((v : Layers) → IsTree (load_done m image).after v → listing (load_done m image).after v ≡ entries_of (read image))
  load-counts-as z =
      let (es, f, r, a) = load-accepted z in
      let e : es ≡ entries_of (read image) = sym (ap entries_of r.parsed) in
      let (w, u, c, l) = a.lists in (
        a.as-calls ∙ ap (λ (es : Map). left_after m (as_calls es)) e,
        subst (λ (es : Map). answers m (as_calls es) ≡ done_each (as_calls es)) e a.all_done,
        λ v t. ap (listing (load_done m image).after) (tree-one (load_done m image).after v w t u) ∙ l ∙ e,
      )

  -- refused for want of room, it leaves what a clear leaves, and says what the first failing put hears
  pub load-refused-as : NoRoom (load_done m image).answer
      → ((load_done m image).after ≡ left m clear) × FailsFirst m as_calls (entries_of (read image)) (heard_as (load_done m image).answer)
  load-refused-as n = by load-ends
    where
      by : Ends → ((load_done m image).after ≡ left m clear)
          × FailsFirst m as_calls (entries_of (read image)) (heard_as (load_done m image).answer)
      by (inl u) = absurd (none n)
        where
          none : NoRoom (load_done m image).answer → ⊥
          none (inl e) = u.not-13 (sym (ap (λ (d : Did). d.answer.number) u.done) ∙ ap (λ (x : Answer). x.number) e)
          none (inr (k, e)) = u.not-14 (sym (ap (λ (d : Did). d.answer.number) u.done) ∙ ap (λ (x : Answer). x.number) e)
      by (inr (es, f, r, inl a)) = absurd (zero n (ap (λ (x : Answer). x.number) a.tells))
        where
          zero : NoRoom (load_done m image).answer → (load_done m image).answer.number ≡ 0 → ⊥
          zero (inl e) z = let q = ap (λ (x : Answer). x.number) e in omega arith
          zero (inr (k, e)) z = let q = ap (λ (x : Answer). x.number) e in omega arith
      by (inr (es, f, r, inr x)) = (
        x.empties,
        subst (λ (l : Map). FailsFirst m as_calls l (heard_as (load_done m image).answer)) (sym (ap entries_of r.parsed)) x.as-put,
      )
