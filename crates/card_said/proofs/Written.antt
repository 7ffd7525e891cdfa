-- Reading what was written gives the same entries, and nothing is read that was not written. Assumes nothing.
use Prim.Native.Nat.{ℕ, ◌+◌, ◌*◌, ◌/◌, ◌%◌, ◌^◌, ◌≤◌, ◌<◌}
use mathlib.Core.Path.{◌≡◌, refl, sym, ap, ◌∙◌, subst}
use mathlib.Core.Logic.{◌⊎◌, inl, inr}
use mathlib.Core.Bool.{true}
use mathlib.Core.List.{List, [], ◌∷◌, map}
use native.Mathlib.Omega.{arith}
use lib.Dec.{eqb, ltb}
use lib.ListN.{length, get_or, take, drop, length-map}
use lib.Seq.{take_at}
use borrow.Author.Tests.{eq-eqb, lt-ltb, eqb-true, ltb-true}
use Rattle.refusal.specs.Answer.{Answer}
use Rattle.order.specs.Bytes.{Bytes}
use Rattle.order.specs.Map.{Map, All, a[], ◌a∷◌}
use Rattle.arena.specs.Layout.{cell_start}
use Rattle.arena.specs.Memory.{Memory, Did}
use Rattle.arena.proofs.Measures.{and-true}
use Rattle.forest.specs.IsTree.{Layers, IsTree, listing}
use Rattle.forest.proofs.One.{tree-one}
use Rattle.model.specs.Calls.{in_key_order}
use Rattle.views.proofs.Listed.{key_and_frame, cells-listed}
use Rattle.views.proofs.Few.{few-255}
use Rattle.places.proofs.Found.{listing-rises}
use Rattle.map_loads.specs.Loads.{Fileable, loaded}
use Rattle.map_loads.proofs.Loaded.{Loads, Refuses, load-outcome, listed-fileable, same-listing}
use Rattle.card_stream.specs.Stream.{Holdable, Writable}
use Rattle.card_stream.specs.Image.{blocks_for, image_of}
use Rattle.card_stream.specs.Parse.{right, parse}
use Rattle.card_stream.specs.Payload.{payload, first_bad}
use Rattle.card_stream.proofs.Accepted.{image-is-accepted, accepted-is-image, one-block-at-least}
use Rattle.card_said.specs.Save.{entries_in, with_image, save_done}
use Rattle.card_said.specs.Load.{whole_blocks, blocks_in, checks_good, read, load_done, WasWritten, ReachesEntries}
use Rattle.card_said.proofs.Ruled.{save-written, Fits, Readable, Ends, writable-fileable, load-ends, load-readable, load-accepted}

-- ---- an image that was written can be read, and gives its entries

pub written-readable : (es : Map) → Writable es → Readable (image_of es) es
unfolding whole_blocks
written-readable es w =
    let (l, g, p) = image-is-accepted es w in
    let n : ℕ = blocks_for es in
    let s : 1 ≤ n = one-block-at-least es in
    let b : length (image_of es) / 512 ≡ n = omega (arith, l) in
    record {
      whole = rw (lt-ltb 0 (length (image_of es)) (omega (arith, l)), eq-eqb (length (image_of es) % 512) 0 (omega (arith, l)));
      good = rw (b, g) (eq-eqb n n refl);
      parsed = rw b p;
    }

pub written-loads : (es : Map) → Writable es → (m : Memory) → Fits m → load_done m (image_of es) ≡ loaded m es
written-loads es w m f = load-readable m (image_of es) f (written-readable es w)

-- ---- nothing else can be read

-- the blocks of whole blocks are all of an image
pub whole_length : (image : List ℕ) → whole_blocks (length image) ≡ true → length image ≡ 512 * blocks_in image
unfolding whole_blocks
whole_length image e =
    let (p, q) = and-true (ltb 0 (length image)) (eqb (length image % 512) 0) e in
    let z : length image % 512 ≡ 0 = eqb-true (length image % 512) 0 q in
    omega arith

pub readable-written : {image : List ℕ} {es : Map} → Bytes image → Readable image es → Writable es × (image ≡ image_of es)
readable-written {image} b r =
    let (w, n, e) = accepted-is-image (blocks_in image) b (whole_length image r.whole) (eqb-true _ _ r.good) r.parsed in (w, e)

-- an image that was written is read, room or not
pub written-reached : (m : Memory) → Fits m → (image : List ℕ) → WasWritten image → ReachesEntries (load_done m image)
written-reached m f image w =
    let es : Map = w.entries in
    subst (λ (l : List ℕ). ReachesEntries (load_done m l)) (sym w.image-of)
    (subst ReachesEntries (sym (written-loads es w.writable m f))
    (by (load-outcome m f es w.writable.rising (writable-fileable w.writable))))
  where
    by : {es : Map} {d : Did} → Loads m es d ⊎ Refuses m es d → ReachesEntries d
    by (inl a) = inl (ap (λ (a : Answer). a.number) a.tells)
    by (inr r) = inr r.no_room

module _ (m : Memory) (image : List ℕ) (b : Bytes image) where
  -- and no other is
  pub reached-written : ReachesEntries (load_done m image) → WasWritten image
  reached-written z = by (load-ends m image b) z
    where
      by : Ends m image b → ReachesEntries (load_done m image) → WasWritten image
      by (inl u) (inl q) = let d = ap (λ (d : Did). d.answer.number) u.done in absurd (omega (arith, u.early))
      by (inl u) (inr (inl e)) =
          absurd (u.not-13 (sym (ap (λ (d : Did). d.answer.number) u.done) ∙ ap (λ (a : Answer). a.number) e))
      by (inl u) (inr (inr (n, e))) =
          absurd (u.not-14 (sym (ap (λ (d : Did). d.answer.number) u.done) ∙ ap (λ (a : Answer). a.number) e))
      by (inr (es, g, r, o)) q =
          let (w, e) = readable-written b r in record { entries = es; writable = w; image-of = e }

  -- accepted, it is the image of the entries that it leaves
  pub accepted-image : (load_done m image).answer.number ≡ 0 → (v : Layers) → IsTree (load_done m image).after v
      → image ≡ image_of (listing (load_done m image).after v)
  accepted-image z v t =
      let (es, g, r, a) = load-accepted m image b z in
      let (w, e) = readable-written b r in
      let (x, u, c, l) = a.lists in
      e ∙ ap image_of (sym (ap (listing (load_done m image).after) (tree-one (load_done m image).after v x t u) ∙ l))

-- ---- what a tree lists can be written

module _ (m : Memory) (v : Layers) (t : IsTree m v) where
  -- the entries that are saved are those listed
  pub saved-listed : entries_in m ≡ listing m v
  saved-listed = cells-listed m v t.forest

  module _ (b : Bytes m.bytes) (words : (i : ℕ) → get_or m.cells i 0 < 2 ^ 64) where
    pub listed-writable : Writable (listing m v)
    listed-writable =
        record {
          few = subst (λ (es : Map). length es ≤ 255) (cells-listed m v t.forest) (short (in_key_order m) (few-255 m v t.forest));
          rising = listing-rises m v t.forest b;
          each =
              holds (listed-fileable m v t b)
              (subst (All (λ (e : List ℕ × ℕ). e.1 < 2 ^ 64)) (cells-listed m v t.forest) (frames (in_key_order m)));
        }
      where
        short : (cs : List ℕ) → length cs ≤ 255 → length (map (key_and_frame m.cells m.bytes) cs) ≤ 255
        short cs h = simp length-map (omega arith)

        frames : (cs : List ℕ) → All (λ (e : List ℕ × ℕ). e.1 < 2 ^ 64) (map (key_and_frame m.cells m.bytes) cs)
        frames [] = a[]
        frames (c ∷ cs) = words (cell_start c + 1) a∷ frames cs

        holds : {es : Map} → All Fileable es → All (λ (e : List ℕ × ℕ). e.1 < 2 ^ 64) es → All Holdable es
        holds a[] a[] = a[]
        holds (f a∷ fs) (g a∷ gs) = record { bytes = f.bytes; short = f.short; frame = g } a∷ holds fs gs

    -- loaded into any lent memory of right lengths: where the puts find room, the listing is the same, entry for entry
    pub saved-loads : (n : Memory) → Fits n → (load_done n (image_of (listing m v))).answer.number ≡ 0
        → (w : Layers) → IsTree (load_done n (image_of (listing m v))).after w
        → listing (load_done n (image_of (listing m v))).after w ≡ listing m v
    saved-loads n f z w u =
        let e = written-loads (listing m v) listed-writable n f in
        subst (λ (d : Did). (x : d.answer.number ≡ 0) → (y : IsTree d.after w) → listing d.after w ≡ listing m v) (sym e)
        (λ x y. same-listing m v t b n f x w y) z u

    -- from the buffer that was saved into
    pub saved-then-loaded : (out : List ℕ) → (save_done m out).1.number ≡ 0 → (n : Memory) → Fits n
        → (let image = take (512 * blocks_for (entries_in m)) (save_done m out).0 in
        ReachesEntries (load_done n image)
        × ((load_done n image).answer.number ≡ 0 → (w : Layers) → IsTree (load_done n image).after w
        → listing (load_done n image).after w ≡ listing m v))
    saved-then-loaded out z n f =
        let es : Map = listing m v in
        let i : take (512 * blocks_for (entries_in m)) (save_done m out).0 ≡ image_of es =
        ap (take (512 * blocks_for (entries_in m))) (save-written m out z)
        ∙ ap (λ (l : Map). take (512 * blocks_for l) (with_image l out)) saved-listed
        ∙ take_at (image_of es) (drop (512 * blocks_for es) out) (512 * blocks_for es) (image-is-accepted es listed-writable).0 in
        subst
        (λ (image : List ℕ). ReachesEntries (load_done n image)
        × ((load_done n image).answer.number ≡ 0 → (w : Layers) → IsTree (load_done n image).after w
        → listing (load_done n image).after w ≡ es))
        (sym i)
        (written-reached n f (image_of es) (record { entries = es; writable = listed-writable; image-of = refl }), saved-loads n f)
