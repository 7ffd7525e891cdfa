-- What a search says of whole keys, where entries say what their cells hold: found is the key itself from this layer on, a conflict is
-- another key, and where nothing is found no entry stored whole holds the key. Assumes nothing.
use Prim.Native.Nat.{Ordering}
use Prim.Native.Nat.{ℕ, ◌+◌, ◌*◌, ◌<◌}
use mathlib.Core.Path.{◌≡◌, refl, sym, ap, ◌∙◌}
use mathlib.Core.Bool.{true}
use mathlib.Core.List.{List}
use native.Mathlib.Omega.{arith}
use native.Mathlib.Decide.{ℕ_discrete}
use lib.ListN.{length, get_or, drop, length-drop, drop_of_length-le}
use lib.Seq.{drop-drop}
use Rattle.order.specs.Bytes.{Bytes, bytewise}
use Rattle.order.specs.Layer.{ikey_at, class_at, at_layer}
use Rattle.order.proofs.Bytes.{bytewise-same, bytewise-exact}
use Rattle.order.proofs.Compare.{compare-eq}
use Rattle.order.proofs.Layer.{layer-at}
use Rattle.key_layer.specs.Keys.{fits}
use Rattle.key_layer.proofs.Fitting.{fitting}
use Rattle.leaf_entries.specs.declared.Entry.{Entry}
use Rattle.leaf.specs.Leaf.{none, rank}
use Rattle.leaf.specs.Search.{stored_key, stored_suffix, Belongs, Says}
use Rattle.leaf.proofs.Meaning.{never_both}

-- equal bytes from an offset on have one ikey and one class there
same-ikeys : (a b : List ℕ) (offset : ℕ) → drop offset a ≡ drop offset b → ikey_at a offset ≡ ikey_at b offset
unfolding ikey_at
same-ikeys a b offset e = rw e

same-classes : (a b : List ℕ) (offset : ℕ) → drop offset a ≡ drop offset b → class_at a offset ≡ class_at b offset
same-classes a b offset e =
    let n : length (drop offset a) ≡ length (drop offset b) = ap length e in
    omega (arith, length-drop offset a, length-drop offset b)

module _ (cells bytes key : List ℕ) (ikey shifts start : ℕ) (fit : fits key ikey shifts start ≡ true) (e : Entry)
    (s : Says cells bytes (8 * shifts) e) where
  abbrev stored : List ℕ
  stored = stored_key cells bytes e.at

  abbrev offset : ℕ
  offset = 8 * shifts

  module _ (k : e.ikey ≡ ikey) (c : rank e ≡ class_at key offset) where
    -- two longer ones: the suffix starts eight bytes on
    eight-on : e.class ≡ 9 → start ≡ offset + 8
    eight-on n = let q = (fitting key ikey shifts start refl fit).start in omega arith

    suffix-on : e.class ≡ 9 → stored_suffix cells bytes e.at start ≡ drop start key → drop (offset + 8) stored ≡ drop (offset + 8) key
    unfolding stored_suffix
    suffix-on n q = rw (eight-on n) at q

    -- The entry that is found holds the key, from this layer on.
    pub found-same : Bytes key → (e.class ≡ 9 → stored_suffix cells bytes e.at start ≡ drop start key)
        → drop offset stored ≡ drop offset key
    unfolding bytewise
    found-same b f = bytewise-exact (drop offset stored) (drop offset key) (layer-at s.stored_bytes b offset ∙ rw here rest)
      where
        here : at_layer (ikey_at stored offset) (class_at stored offset) (ikey_at key offset) (class_at key offset) ≡ Ordering.eq
        here =
            rw (
              compare-eq (s.stored-ikey ∙ k ∙ sym (fitting key ikey shifts start refl fit).word),
              compare-eq (s.stored-class ∙ c),
            )

        rest : bytewise (drop (offset + 8) stored) (drop (offset + 8) key) ≡ Ordering.eq
        rest =
            elim (ℕ_discrete e.class 9) [
              | yes n ↦ rw (suffix-on n (f n)) (bytewise-same (drop (offset + 8) key))
              | no n ↦
                  let h = s.stored-whole in
                  let i = s.stored-class in
                  rw (drop_of_length-le stored {i = offset + 8} (omega arith), drop_of_length-le key {i = offset + 8} (omega arith))
            ]

    -- The entry of a conflict holds another key.
    pub conflict-differs : e.class ≡ 9 → (stored_suffix cells bytes e.at start ≡ drop start key → ⊥)
        → drop offset stored ≡ drop offset key → ⊥
    unfolding stored_suffix
    conflict-differs n f q =
        f (rw (eight-on n) (sym (drop-drop 8 offset stored) ∙ ap (drop 8) q ∙ drop-drop 8 offset key))

-- Where the key belongs between entries, none of them that is stored whole holds it.
pub not-found-differs : (cells bytes key : List ℕ) (ikey shifts start : ℕ) → fits key ikey shifts start ≡ true → (es : List Entry) (p i : ℕ)
    → Belongs ikey (class_at key (8 * shifts)) es p → i < length es → Says cells bytes (8 * shifts) (get_or es i none)
    → drop (8 * shifts) (stored_key cells bytes (get_or es i none).at) ≡ drop (8 * shifts) key → ⊥
not-found-differs cells bytes key ikey shifts start fit es p i b h s q =
    never_both ikey (class_at key (8 * shifts)) (omega arith) es {p = i}
    (record {
      within = h;
      same-ikey = sym s.stored-ikey ∙ same-ikeys (stored_key cells bytes (get_or es i none).at) key (8 * shifts) q
          ∙ (fitting key ikey shifts start refl fit).word;
      same_class = sym s.stored-class ∙ same-classes (stored_key cells bytes (get_or es i none).at) key (8 * shifts) q;
    })
    b
