-- The listing: how many entries there are, and a line for each, by what the index says of the k-th. Assumes nothing.
use Prim.Native.Nat.{ℕ, ◌+◌, ◌-◌, ◌*◌, ◌≤◌, ◌<◌}
use mathlib.Core.Path.{◌≡◌, refl, ap, sym, ◌∙◌}
use mathlib.Core.Bool.{Bool, true, false, not}
use mathlib.Core.List.{List, [], ◌∷◌, ◌++◌, append_assoc, append-nil}
use native.Mathlib.Numerals.{add-one}
use native.Mathlib.Omega.{arith}
use lib.Dec.{ltb}
use lib.ListN.{length, get_or, take, length-append, take-append-drop, drop}
use lib.Seq.{take-suc, take_all}
use borrow.Author.Tests.{ltb-true, ltb-false, lt-ltb, not-true, not-false}
use Rattle.std.specs.Prelude.{Result, Ok, Err}
use Rattle.refusal.specs.declared.Refusal.{Refusal}
use Rattle.refusal.specs.Answer.{Answer, accepted}
use Rattle.refusal.proofs.Laws.{number-pos}
use Rattle.arena.specs.Parts.{part}
use Rattle.arena.specs.Layout.{mark_at, frame_at}
use Rattle.arena.specs.Memory.{Memory, memory}
use Rattle.arena.proofs.Measures.{and-true, right-means}
use Rattle.bank.proofs.Tests.{holds}
use Rattle.forest.specs.Walk.{is_tree}
use Rattle.forest.proofs.Accepts.{tree-found}
use Rattle.views.proofs.Few.{in-order-listed}
use Rattle.model.specs.Calls.{kth_said, in_key_order, entry_of}
use Rattle.index_questions.specs.declared.Listed.{Listed}
use Rattle.index_questions.specs.Answers.{said_listed}
use Rattle.page.specs.Shown.{header_line, refused_line, entry_line}
use Rattle.page.specs.Page.{Typed}
use Rattle.page.proofs.Pages.{typed-none, typed_then}
use Rattle.text.proofs.Keys.{decide}
use Rattle.lines_said.specs.Said.{entry_text, entry_texts, listing, listed}
use Rattle.lines_list.specs.Room.{Room}

-- ---- the k-th entry of a tree

module _ (m : Memory) (k : ℕ) (tree : is_tree m ≡ true) (x : Result Listed Refusal) (e : said_listed x ≡ kth_said m k) where
  number-there : k < length (in_key_order m) → said_listed x ≡ accepted (entry_of m (get_or (in_key_order m) k 0))
  unfolding kth_said
  number-there h = e ∙ rw (tree, lt-ltb k (length (in_key_order m)) h) refl

  number-gone : ltb k (length (in_key_order m)) ≡ false → (said_listed x).number ≡ 12
  unfolding kth_said
  number-gone h = ap (λ (a : Answer). a.number) e ∙ rw (tree, h) refl

  pub kth-gone : {why : Refusal} → x ≡ Err why → length (in_key_order m) ≤ k
  kth-gone {why} d =
      decide (ltb k (length (in_key_order m)))
      (λ t.
      let z = ap (λ (a : Answer). a.number) (sym (ap said_listed d) ∙ number-there (ltb-true _ _ t)) in
      absurd (omega (arith, number-pos why)))
      (λ t. ltb-false _ _ t)

  pub kth-there : {entry : Listed} → x ≡ Ok entry → k < length (in_key_order m)
  kth-there d =
      decide (ltb k (length (in_key_order m)))
      (λ t. ltb-true _ _ t)
      (λ t.
      let z : 0 ≡ 12 = ap (λ (y : Result Listed Refusal). (said_listed y).number) (sym d) ∙ number-gone t in
      absurd (omega arith))

  pub kth-cell : {entry : Listed} → x ≡ Ok entry
      → (entry.cell ≡ get_or (in_key_order m) k 0) × (entry.length ≡ mark_at m.cells (get_or (in_key_order m) k 0) - 1)
      × (entry.frame ≡ frame_at m.cells (get_or (in_key_order m) k 0))
  kth-cell d =
      let z = ap (λ (a : Answer). a.values) (sym (ap said_listed d) ∙ number-there (kth-there d)) in
      (ap (λ (l : List ℕ). get_or l 0 0) z, ap (λ (l : List ℕ). get_or l 1 0) z, ap (λ (l : List ℕ). get_or l 2 0) z)

-- ---- how many there are: word 1, one of the words before the nodes

module _ (nodes cells bytes : List ℕ) (tree : is_tree (memory nodes cells bytes) ≡ true) where
  pub header-in : (i : ℕ) → i < 2 → i < length nodes
  unfolding is_tree
  header-in i h = let right = right-means _ _ _ (and-true _ _ tree).0 in omega (arith, right.n-low, right.nodes-whole)

  pub count-is : get_or nodes 1 0 ≡ length (in_key_order (memory nodes cells bytes))
  count-is =
      let (v, t) = tree-found (memory nodes cells bytes) (holds tree) in
      t.counted ∙ sym (in-order-listed (memory nodes cells bytes) v t.forest)

-- ---- the lines

texts-append : (m : Memory) (cs ds : List ℕ) → entry_texts m (cs ++ ds) ≡ entry_texts m cs ++ entry_texts m ds
unfolding entry_texts
texts-append m [] ds = refl
texts-append m (c ∷ cs) ds = rw (texts-append m cs ds) (sym (append_assoc (entry_text m c) (entry_texts m cs) (entry_texts m ds)))

texts-more : (m : Memory) (cs : List ℕ) (k : ℕ) → k < length cs
    → entry_texts m (take (k + 1) cs) ≡ entry_texts m (take k cs) ++ entry_text m (get_or cs k 0)
unfolding entry_texts
texts-more m cs k h =
    rw (add-one k, take-suc cs k 0 h, texts-append m (take k cs) (get_or cs k 0 ∷ []), append-nil (entry_text m (get_or cs k 0)))

texts-some : (m : Memory) (cs : List ℕ) (k : ℕ) → length (entry_texts m (take k cs)) ≤ length (entry_texts m cs)
texts-some m cs k =
    let e = ap length (ap (entry_texts m) (sym (take-append-drop k cs)) ∙ texts-append m (take k cs) (drop k cs)) in
    omega (arith, e, length-append (entry_texts m (take k cs)) (entry_texts m (drop k cs)))

module _ (m : Memory) (at k : ℕ) (tree : is_tree m ≡ true) {x : Result Listed Refusal} (e : said_listed x ≡ kth_said m k)
    {entry : Listed} (d : x ≡ Ok entry) (key : List ℕ) (ek : key ≡ part m.bytes (entry.cell * 256) entry.length) where
  text-is : entry_line key entry.frame ≡ entry_text m (get_or (in_key_order m) k 0)
  text-is = let g = kth-cell m k tree x e d in rw (ek, g.0, g.1, g.2) refl

  module _ {o o1 : List ℕ} {r : ℕ} (t : Typed o at (entry_texts m (take k (in_key_order m))) r o1)
      (room : at + length (entry_texts m (in_key_order m)) ≤ length o) where
    more-fits : at + length (entry_texts m (take k (in_key_order m)) ++ entry_line key entry.frame) ≤ length o
    more-fits =
        let s = texts-some m (in_key_order m) (k + 1) in
        let g = ap length (texts-more m (in_key_order m) k (kth-there m k tree x e d)) in
        rw text-is (omega arith)

    pub entry-room : length o1 ≡ length o → r + length (entry_line key entry.frame) ≤ length o1
    entry-room s =
        omega (arith, more-fits, length-append (entry_texts m (take k (in_key_order m))) (entry_line key entry.frame), t.place_is)

    pub entry-again : {r1 : ℕ} {o2 : List ℕ} → Typed o1 r (entry_line key entry.frame) r1 o2
        → Typed o at (entry_texts m (take (k + 1) (in_key_order m))) r1 o2
    entry-again u =
        rw (texts-more m (in_key_order m) k (kth-there m k tree x e d), ← text-is) (typed_then _ (entry_line key entry.frame) more-fits t u)

module _ {o : List ℕ} {at : ℕ} (m : Memory) where
  pub entries_none : Typed o at (entry_texts m (take 0 (in_key_order m))) at o
  unfolding entry_texts
  entries_none = typed-none

  pub entries-done : {k n r : ℕ} {o1 : List ℕ} → n ≡ length (in_key_order m) → n ≤ k → Typed o at (entry_texts m (take k (in_key_order m))) r o1
      → Typed o at (entry_texts m (in_key_order m)) r o1
  entries-done {k} e h t = rw (take_all k (in_key_order m) (omega arith)) at t

  -- a tree has the k-th entry for every k below their number
  pub entries-cut : {k n r : ℕ} {o1 : List ℕ} {x : Result Listed Refusal} {why : Refusal} → is_tree m ≡ true → said_listed x ≡ kth_said m k
      → x ≡ Err why
      → n ≡ length (in_key_order m) → k < n → Typed o at (entry_texts m (in_key_order m)) r o1
  entries-cut {k} {x = x} tree e d h l = absurd (omega (arith, kth-gone m k tree x e d))

-- ---- the whole

module _ (m : Memory) {b : Bool} (e : b ≡ is_tree m) where
  pub no-tree : {out o : List ℕ} {r : ℕ} → not b ≡ true → Typed out 0 (refused_line 10) r o → Typed out 0 (listed m) r o
  unfolding listed
  no-tree n t = rw (← e, not-true b n) t

  pub tree_is : not b ≡ false → is_tree m ≡ true
  tree_is n = sym e ∙ not-false b n

  listed-is' : not b ≡ false → listed m ≡ header_line (length (in_key_order m)) ++ entry_texts m (in_key_order m)
  unfolding listed listing
  listed-is' n = rw (tree_is n)

  module _ {n : ℕ} (t : not b ≡ false) (en : n ≡ length (in_key_order m)) {out : List ℕ} (room : Room m out) where
    whole : 0 + length (header_line n ++ entry_texts m (in_key_order m)) ≤ length out
    whole = rw (en, ← listed-is' t) (omega (arith, room.long))

    pub header-room : 0 + length (header_line n) ≤ length out
    header-room = omega (arith, whole, length-append (header_line n) (entry_texts m (in_key_order m)))

    pub entries-room : {r : ℕ} {o1 : List ℕ} → length o1 ≡ length out → Typed out 0 (header_line n) r o1
        → r + length (entry_texts m (in_key_order m)) ≤ length o1
    entries-room s u =
        omega (arith, whole, length-append (header_line n) (entry_texts m (in_key_order m)), u.place_is)

    pub list_done : {r r1 : ℕ} {o1 o2 : List ℕ} → Typed out 0 (header_line n) r o1 → Typed o1 r (entry_texts m (in_key_order m)) r1 o2
        → Typed out 0 (listed m) r1 o2
    list_done u v = rw (listed-is' t, ← en) (typed_then (header_line n) (entry_texts m (in_key_order m)) whole u v)
