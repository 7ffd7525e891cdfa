-- Entries put in rising order: each stands behind those before it, and only room can be lacking. Assumes nothing.
use mathlib.Core.Path.{◌≡◌, refl, sym, ap, ap₂, ◌∙◌, subst}
use mathlib.Core.Logic.{◌⊎◌, inl, inr}
use mathlib.Core.Bool.{Bool, true, false, cond}
use mathlib.Core.List.{List, [], ◌∷◌, ◌++◌, foldl, append-nil, append_assoc}
use mathlib.Core.Option.{none, some}
use Prim.Native.Nat.{Ordering}
use Prim.Native.Nat.{ℕ, ◌+◌, ◌≤◌}
use lib.Dec.{eqb}
use lib.ListN.{length}
use borrow.Author.Tests.{le-leb}
use Rattle.refusal.specs.Answer.{Answer}
use Rattle.refusal.specs.Answer as answer
use Rattle.order.specs.Bytes.{Bytes, bytewise}
use Rattle.order.specs.Map.{Map, All, a[], ◌a∷◌, Rising, Sorted, s[], ◌s∷◌, lookup, alter, insert}
use Rattle.order.proofs.Bytes.{bytewise-order}
use Rattle.order.proofs.Map.{alter-left, all_split, sorted-split}
use Rattle.order.proofs.Lookup.{lookup-left}
use Rattle.arena.specs.Memory.{Memory, Did, did}
use Rattle.model.specs.Calls.{stored, with_entry, has_cell, has_nodes, has_room, lacking, rests_in, put_done}
use Rattle.as_map.proofs.Tallied.{put-counted}
use Rattle.places.proofs.Found.{is_some, stored-lookup}
use Rattle.as_map.proofs.Says.{accepted}
use Rattle.as_map.specs.Calls.{put, Heard, done, heard_of, heard, answers, left_after}
use Rattle.as_map.proofs.Leaves.{Lists}
use Rattle.map_loads.specs.Loads.{and_put, puts_after, puts_of, Fileable, NoRoom, done_each, FailsFirst, heard_as}

-- all keys are below this one
abbrev Below : List ℕ → Map → Type 0
Below key xs = All (λ d. bytewise d.0 key ≡ Ordering.lt) xs

lookup-below : (key : List ℕ) (xs : Map) → Below key xs → lookup bytewise key xs ≡ none
unfolding lookup
lookup-below key xs b = ap (lookup bytewise key) (sym (append-nil xs)) ∙ lookup-left bytewise-order key [] b

insert-below : (key : List ℕ) (x : ℕ) (xs : Map) → Below key xs → insert bytewise key x xs ≡ xs ++ (key, x) ∷ []
unfolding alter
insert-below key x xs b = ap (insert bytewise key x) (sym (append-nil xs)) ∙ alter-left bytewise-order key (λ _. some x) [] b

-- all entries before one that rises with them are below it
before : (xs : Map) (e : List ℕ × ℕ) (es : Map) → Rising (xs ++ e ∷ es) → Below e.0 xs
before [] e es s = a[]
before (x ∷ xs) e es (p s∷ s) = first (all_split xs (e ∷ es) p).1 a∷ before xs e es s
  where
    first : All (λ (d : List ℕ × ℕ). bytewise x.0 d.0 ≡ Ordering.lt) (e ∷ es) → bytewise x.0 e.0 ≡ Ordering.lt
    first (q a∷ qs) = q

-- ---- one put

-- memory with the key, and one more counted
abbrev pub more : Memory → List ℕ → ℕ → Memory
more m key x = with_entry m key x

-- what a put that is accepted tells
abbrev pub tells-put : Memory → List ℕ → ℕ → List ℕ
tells-put m key x = rests_in (more m key x) key

-- the next entry is put behind the others, or there is no room for it
module _ (m : Memory) (xs : Map) (l : Lists m xs) (key : List ℕ) (x : ℕ) (below : Below key xs) (k : Bytes key)
    (short : length key ≤ 256) where
  -- what the put comes to
  abbrev Next : Type 0
  Next =
      ((put_done m key x ≡ did (answer.accepted (tells-put m key x)) (more m key x)) × Lists (more m key x) (xs ++ (key, x) ∷ []))
      ⊎ ((a : Answer) × NoRoom a × (put_done m key x ≡ did a m))

  absent : stored m key ≡ false
  absent =
      let (v, t, b, e) = l in
      stored-lookup m v t.forest b key k ∙ ap is_some (ap (lookup bytewise key) e ∙ lookup-below key xs below)

  pub put_next : Next
  unfolding put_done
  put_next = by (has_cell m) (has_nodes m key) refl refl
    where
      by : (cell nodes : Bool) → has_cell m ≡ cell → has_nodes m key ≡ nodes → Next
      by true true r q =
          let (v, t, b, e) = l in
          let room : has_room m key ≡ true = rw (r, q) in
          let ((w, u, i), c) = put-counted m v t b key k short x absent room in
          inl (
            rw (le-leb (length key) 256 short, accepted m v t b, absent, r, q),
            (w, u, c, i ∙ ap (insert bytewise key x) e ∙ insert-below key x xs below),
          )
      by true false r q =
          let (v, t, b, e) = l in
          inr (_, inr (lacking m key, refl), rw (le-leb (length key) 256 short, accepted m v t b, absent, r, q))
      by false nodes r q =
          let (v, t, b, e) = l in
          inr (_, inl refl, rw (le-leb (length key) 256 short, accepted m v t b, absent, r))

-- ---- any number of puts

-- a refusal for want of room is one
pub no-room-refused : {a : Answer} → NoRoom a → eqb a.number 0 ≡ false
no-room-refused (inl e) = rw e
no-room-refused (inr (n, e)) = rw e

-- a refusal stays
pub stays : (putting : Memory → List ℕ → ℕ → Did) (d : Did) (es : Map) → eqb d.answer.number 0 ≡ false → puts_after putting d es ≡ d
unfolding and_put
stays putting d [] z = refl
stays putting d (e ∷ es) z =
    let h : and_put putting d e ≡ d = rw z in
    ap (λ (c : Did). foldl (and_put putting) c es) h ∙ stays putting d es z

-- all were put, the last of them telling this: memory lists these entries, and is that after the puts, each of which was heard as done
pub record AllPut (m : Memory) (es xs : Map) (d : Did) : Type 0 where
  pub told : List ℕ
  pub tells : d.answer ≡ answer.accepted told
  pub lists : Lists d.after xs
  pub left_so : d.after ≡ left_after m (puts_of es)
  pub all_done : answers m (puts_of es) ≡ done_each (puts_of es)

-- or there was no room for one
abbrev pub Outcome : Memory → Map → Map → Did → Type 0
Outcome m es xs d = AllPut m es xs d ⊎ (NoRoom d.answer × FailsFirst m puts_of es (heard_as d.answer))

-- a put that was accepted, before the others
module _ (m n : Memory) (key : List ℕ) (x : ℕ) {told : List ℕ} (q : put_done m key x ≡ did (answer.accepted told) n) where
  one-done : (es : Map) → answers n (puts_of es) ≡ done_each (puts_of es)
      → answers m (puts_of ((key, x) ∷ es)) ≡ done_each (puts_of ((key, x) ∷ es))
  one-done es e =
      ap₂ ◌∷◌ (ap (λ (d : Did). heard_of d.answer (λ values. done)) q) (ap (λ (d : Did). answers d.after (puts_of es)) q ∙ e)

  later-fails : (es : Map) {h : Heard} → FailsFirst n puts_of es h → FailsFirst m puts_of ((key, x) ∷ es) h
  later-fails es f =
      record {
        before = (key, x) ∷ f.before;
        failing = f.failing;
        behind = f.behind;
        split = ap (λ (l : Map). (key, x) ∷ l) f.split;
        all_done = one-done f.before f.all_done;
        fails =
            ap (λ (d : Did). heard (left_after d.after (puts_of f.before)) (put f.failing.0 f.failing.1)) q ∙ f.fails;
      }

  later-all : (es xs : Map) {d : Did} → AllPut n es xs d → AllPut m ((key, x) ∷ es) xs d
  later-all es xs a =
      record {
        told = a.told;
        tells = a.tells;
        lists = a.lists;
        left_so = a.left_so ∙ sym (ap (λ (d : Did). left_after d.after (puts_of es)) q);
        all_done = one-done es a.all_done;
      }

  later : (es xs : Map) {d : Did} → Outcome n es xs d → Outcome m ((key, x) ∷ es) xs d
  later es xs (inl a) = inl (later-all es xs a)
  later es xs (inr (r, f)) = inr (r, later-fails es f)

-- a put that was refused for want of room
this-fails : (m : Memory) (key : List ℕ) (x : ℕ) (es : Map) {a : Answer} → NoRoom a → put_done m key x ≡ did a m
    → FailsFirst m puts_of ((key, x) ∷ es) (heard_as a)
this-fails m key x es {a} r q =
    record {
      before = [];
      failing = (key, x);
      behind = es;
      split = refl;
      all_done = refl;
      fails = ap (λ (d : Did). heard_of d.answer (λ values. done)) q ∙ rw (no-room-refused r) refl;
    }

-- any number of them stand behind the others, or there was no room for one
pub puts-rise : (m : Memory) (told : List ℕ) (xs es : Map) → Lists m xs → Rising (xs ++ es) → All Fileable es
    → Outcome m es (xs ++ es) (puts_after put_done (did (answer.accepted told) m) es)
unfolding and_put
puts-rise m told xs [] l s fs =
    inl (record { told = told; tells = refl; lists = subst (Lists m) (sym (append-nil xs)) l; left_so = refl; all_done = refl })
puts-rise m told xs (e ∷ es) l s (f a∷ fs) =
    by (put_next m xs l e.0 e.1 (before xs e es s) f.bytes f.short)
    (λ n. puts-rise (more m e.0 e.1) (tells-put m e.0 e.1) (xs ++ e ∷ []) es n
    (subst Rising (sym (append_assoc xs (e ∷ []) es)) s) fs)
  where
    by : Next m xs l e.0 e.1 (before xs e es s) f.bytes f.short
        → (Lists (more m e.0 e.1) (xs ++ e ∷ [])
        → Outcome (more m e.0 e.1) es ((xs ++ e ∷ []) ++ es)
        (puts_after put_done (did (answer.accepted (tells-put m e.0 e.1)) (more m e.0 e.1)) es))
        → Outcome m (e ∷ es) (xs ++ e ∷ es) (puts_after put_done (put_done m e.0 e.1) es)
    by (inl (q, n)) rest =
        subst (λ (d : Did). Outcome m (e ∷ es) (xs ++ e ∷ es) (puts_after put_done d es)) (sym q)
        (later m (more m e.0 e.1) e.0 e.1 q es (xs ++ e ∷ es)
        (subst
        (λ (ys : Map).
        Outcome (more m e.0 e.1) es ys
        (puts_after put_done (did (answer.accepted (tells-put m e.0 e.1)) (more m e.0 e.1)) es))
        (append_assoc xs (e ∷ []) es) (rest n)))
    by (inr (a, r, q)) rest =
        let z : puts_after put_done (put_done m e.0 e.1) es ≡ did a m =
        ap (λ (d : Did). puts_after put_done d es) q ∙ stays put_done (did a m) es (no-room-refused r) in
        subst (Outcome m (e ∷ es) (xs ++ e ∷ es)) (sym z) (inr (r, this-fails m e.0 e.1 es r q))
