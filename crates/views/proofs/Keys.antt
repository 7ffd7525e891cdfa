-- Keys below links: the ikeys and classes by offset, and by what is left of the key. Assumes nothing.
use mathlib.Core.Path.{◌≡◌, refl, sym, ap, ◌∙◌, subst}
use mathlib.Core.List.{List, [], ◌∷◌, map}
use Prim.Native.Nat.{ℕ, suc, ◌+◌, ◌*◌, ◌-◌, ◌<◌}
use native.Mathlib.Omega.{arith}
use lib.Dec.{T, eqb, ltb, eqb→eq, ltb→lt, lt→ltb}
use lib.ListN.{length, drop, length-drop, length-map}
use lib.Seq.{drop-drop}
use Rattle.bank.proofs.Tests.{and_left, and_right, and_both, equal}
use Rattle.order.proofs.Bytes.{bytes_drop, bytes_take}
use Rattle.order.specs.Layer.{ikey_at, class_of, class_at}
use Rattle.arena.specs.Parts.{part}
use Rattle.forest.specs.Cells.{under, keyed}
use Rattle.order.specs.Bytes.{Bytes}
use Rattle.trees.specs.Nodes.{IkeyClass}
use Rattle.trees.specs.Paths.{raised_ikey, rest_below, BelowLinks, layer_key, key_below}
use Rattle.trees.proofs.Paths.{rest-drop, layer_key-at}

-- ---- bytes

pub bytes-part : (xs : List ℕ) (at n : ℕ) → Bytes xs → Bytes (part xs at n)
unfolding part
bytes-part xs at n b = bytes_take n (bytes_drop at b)

-- ---- ikey and class

-- at an offset
pub ikey-at : (key : List ℕ) (offset : ℕ) → raised_ikey (drop offset key) ≡ suc (ikey_at key offset)
unfolding raised_ikey ikey_at
ikey-at key offset = refl

pub class-at : (key : List ℕ) (offset : ℕ) → class_of (length (drop offset key)) ≡ class_at key offset
class-at key offset = ap class_of (length-drop offset key)

-- what is left below the links
pub rest_at : (above key : List ℕ) → rest_below (map suc above) key ≡ drop (8 * length above) key
rest_at above key = rest-drop (map suc above) key ∙ ap (λ (n : ℕ). drop (8 * n) key) (length-map above suc)

pub layer-key : (above key : List ℕ) → layer_key (map suc above) key ≡ key_below key (length above)
layer-key above key = layer_key-at (map suc above) key (length above) (length-map above suc)

-- ---- below links

long-nine : (key : List ℕ) (offset : ℕ) → offset + 8 < length key → class_at key offset ≡ 9
long-nine key offset h = omega arith

nine-long : (key : List ℕ) (offset : ℕ) → class_at key offset ≡ 9 → offset + 8 < length key
nine-long key offset h = omega arith

pub under-view : (above : List ℕ) (offset : ℕ) (key : List ℕ) → Bytes key → T (under key offset above)
    → BelowLinks (map suc above) (drop offset key)
unfolding under BelowLinks
under-view [] offset key b t = bytes_drop offset b
under-view (k ∷ above) offset key b t =
    let first : ikey_at key offset ≡ k = eqb→eq _ _ (and_left (eqb (ikey_at key offset) k) _ t) in
    let later = and_right (eqb (ikey_at key offset) k) _ t in
    let long : offset + 8 < length key = ltb→lt _ _ (and_left (ltb (offset + 8) (length key)) _ later) in (
      bytes_drop offset b,
      ikey-at key offset ∙ ap suc first,
      class-at key offset ∙ long-nine key offset long,
      subst (BelowLinks (map suc above)) (sym (drop-drop 8 offset key))
          (under-view above (offset + 8) key b (and_right (ltb (offset + 8) (length key)) _ later)),
    )

pub view-under : (above : List ℕ) (offset : ℕ) (key : List ℕ) → BelowLinks (map suc above) (drop offset key) → T (under key offset above)
unfolding under BelowLinks
view-under [] offset key u = tt
view-under (k ∷ above) offset key u =
    let e : suc (ikey_at key offset) ≡ suc k = sym (ikey-at key offset) ∙ u.1 in
    let first : ikey_at key offset ≡ k = omega arith in
    let long : offset + 8 < length key = nine-long key offset (sym (class-at key offset) ∙ u.2) in
    and_both (eqb (ikey_at key offset) k) _ (equal first)
    (and_both (ltb (offset + 8) (length key)) _ (lt→ltb _ _ long)
    (view-under above (offset + 8) key (subst (BelowLinks (map suc above)) (drop-drop 8 offset key) u.3)))

-- a key that is rightly filed, and its view
pub keyed-view : (above key : List ℕ) (ik class : ℕ) → Bytes key → T (keyed key above ik class)
    → BelowLinks (map suc above) key × (layer_key (map suc above) key ≡ (suc ik, class))
unfolding keyed
keyed-view above key ik class b t =
    let own = and_right (under key 0 above) _ t in
    let at : ℕ = 8 * length above in
    let p : ikey_at key at ≡ ik = eqb→eq _ _ (and_left (eqb (ikey_at key at) ik) _ own) in
    let q : class_at key at ≡ class = eqb→eq _ _ (and_right (eqb (ikey_at key at) ik) _ own) in
    (under-view above 0 key b (and_left (under key 0 above) _ t), layer-key above key ∙ (λ i. (suc (p i), q i)))

pub view-keyed : (above key : List ℕ) (ik class : ℕ) → BelowLinks (map suc above) key → layer_key (map suc above) key ≡ (suc ik, class)
    → T (keyed key above ik class)
unfolding keyed
view-keyed above key ik class u e =
    let at : ℕ = 8 * length above in
    let s : ◌≡◌ {A = IkeyClass} (suc (ikey_at key at), class_at key at) (suc ik, class) = sym (layer-key above key) ∙ e in
    let p : suc (ikey_at key at) ≡ suc ik = ap (λ (k : IkeyClass). k.0) s in
    let p' : ikey_at key at ≡ ik = omega arith in
    let q : class_at key at ≡ class = ap (λ (k : IkeyClass). k.1) s in
    and_both (under key 0 above) _ (view-under above 0 key u)
    (and_both (eqb (ikey_at key at) ik) _ (equal p') (equal q))

-- no longer than the layers that are left
pub rest-length : (above key : List ℕ) → length (rest_below (map suc above) key) ≡ length key - 8 * length above
rest-length above key = ap length (rest_at above key) ∙ length-drop (8 * length above) key
