-- Keys of up to 256 bytes compare, layer by layer, as their bytes do. Assumes nothing.
use Prim.Native.Nat.{ℕ, zero, suc, ◌+◌, ◌-◌, ◌*◌, ◌≤◌, ◌<◌, Ordering}
use mathlib.Core.Path.{◌≡◌, refl, ap, ◌∙◌}
use mathlib.Core.Bool.{Bool, true, false, cond, ◌&&◌, ◌||◌}
use mathlib.Core.List.{List, [], ◌∷◌}
use native.Mathlib.Omega.{arith}
use lib.Dec.{ltb, eqb}
use lib.ListN.{length}
use borrow.Author.Tests.{lt-ltb, le-leb, eq-eqb, ltb-true}
use Rattle.order.specs.Bytes.{Bytes, none, more, then, bytewise}
use Rattle.order.specs.Layer.{ikey_at, class_of, class_at, at_layer, layered}
use Rattle.order.proofs.Layer.{layered-bytewise}
use Rattle.refusal.specs.Answer.{Answer, accepted}
use Rattle.ikey.specs.Said.{place, compare_keys_said}
use Rattle.key_layer.specs.Keys.{suffix_at, numbers_at, reached, fits, has_suffix, asked, moved, new_said, shift_said, compare_said}
use Rattle.key.specs.Layers.{by_layers, compared_by_layers, further, is_equal}
use Rattle.key_layer.proofs.Fitting.{and-true}

-- the numbers of a layer that there is fit
at-layer-fits : (bytes : List ℕ) (s : ℕ) → length bytes ≤ 256 → reached bytes s ≡ true
    → fits bytes (ikey_at bytes (8 * s)) s (suffix_at bytes s) ≡ true
unfolding fits
at-layer-fits bytes s h r =
    rw (
      le-leb (length bytes) 256 h,
      r,
      eq-eqb (ikey_at bytes (8 * s)) (ikey_at bytes (8 * s)) refl,
      eq-eqb (suffix_at bytes s)
          (suffix_at bytes s) refl,
    )

-- a key that has a suffix has a next layer
next-reached : (bytes : List ℕ) (s : ℕ) → has_suffix bytes s ≡ true → reached bytes (s + 1) ≡ true
unfolding reached
next-reached bytes s h =
    let l : 8 < length bytes - 8 * s = ltb-true 8 (length bytes - 8 * s) h in
    let m : ltb (8 * (s + 1)) (length bytes) ≡ true = lt-ltb (8 * (s + 1)) (length bytes) (omega arith) in
    rw m (or-true (eqb (s + 1) 0))
  where
    or-true : (b : Bool) → b || true ≡ true
    or-true true = refl
    or-true false = refl

module _ (bytes : List ℕ) (s : ℕ) (h : length bytes ≤ 256) (r : reached bytes s ≡ true) where
  -- a key at a layer that there is may be compared
  told : (k m : ℕ) → compare_said bytes (ikey_at bytes (8 * s)) s (suffix_at bytes s) k m
      ≡ accepted (place (at_layer (ikey_at bytes (8 * s)) (class_at bytes (8 * s)) k (class_of m)) ∷ [])
  unfolding asked
  told k m = rw (at-layer-fits bytes s h r)

  -- and shifted, if it has a suffix
  shifted : has_suffix bytes s ≡ true → shift_said bytes (ikey_at bytes (8 * s)) s (suffix_at bytes s) ≡ accepted (numbers_at bytes (s + 1))
  unfolding moved
  shifted l = rw (at-layer-fits bytes s h r, l)

-- one layer: the answer here, or what follows where both are equal and longer
step : (o : Ordering) (longer : Bool) (rest : Answer) (r : Ordering) → (longer ≡ true → rest ≡ accepted (place r ∷ []))
    → cond (is_equal (accepted (place o ∷ [])) && longer) rest (accepted (place o ∷ []))
    ≡ accepted (place (then o (cond longer r Ordering.eq)) ∷ [])
step Ordering.lt longer rest r h = refl
step Ordering.eq true rest r h = h refl
step Ordering.eq false rest r h = refl
step Ordering.gt longer rest r h = refl

module _ (a b : List ℕ) (ha : length a ≤ 256) (hb : length b ≤ 256) where
  -- the calls, layer by layer, say what the layers say
  same-layers : (n s : ℕ) → reached a s ≡ true → reached b s ≡ true
      → by_layers n a b (accepted (numbers_at a s)) (accepted (numbers_at b s)) ≡ accepted (place (layered n a b (8 * s)) ∷ [])
  unfolding by_layers layered numbers_at
  same-layers zero s ra rb = refl
  same-layers (suc n) s ra rb =
      rw (told a s ha ra)
      (step (at_layer (ikey_at a (8 * s)) (class_at a (8 * s)) (ikey_at b (8 * s)) (class_at b (8 * s))) (has_suffix a s && has_suffix b s)
      (by_layers n a b (further a (accepted (numbers_at a s))) (further b (accepted (numbers_at b s))))
      (layered n a b (8 * s + 8))
      (λ t. go (and-true (has_suffix a s) (has_suffix b s) t) (same-layers n (s + 1))))
    where
      go : (has_suffix a s ≡ true) × (has_suffix b s ≡ true)
          → (reached a (s + 1) ≡ true → reached b (s + 1) ≡ true
          → by_layers n a b (accepted (numbers_at a (s + 1))) (accepted (numbers_at b (s + 1))) ≡ accepted
          (place (layered n a b (8 * (s + 1))) ∷ []))
          → by_layers n a b (further a (accepted (numbers_at a s))) (further b (accepted (numbers_at b s)))
          ≡ accepted (place (layered n a b (8 * s + 8)) ∷ [])
      go (p, q) ih =
          let e : 8 * (s + 1) ≡ 8 * s + 8 = omega arith in
          rw (shifted a s ha ra p, shifted b s hb rb q, ← e) (ih (next-reached a s p) (next-reached b s q))

  -- comparing layer by layer is comparing the bytes
  pub by-layers : Bytes a → Bytes b → compared_by_layers a b ≡ accepted (place (bytewise a b) ∷ [])
  unfolding new_said reached
  by-layers p q =
      rw (le-leb (length a) 256 ha, le-leb (length b) 256 hb)
      (same-layers 32 0 refl refl
      ∙ ap (λ (o : Ordering). accepted (place o ∷ [])) (layered-bytewise p q 32 0 (omega arith) (omega arith)))

  -- and that is what comparing whole keys says
  pub whole-by-layers : Bytes a → Bytes b → compared_by_layers a b ≡ compare_keys_said a b
  unfolding compare_keys_said
  whole-by-layers p q = rw (le-leb (length a) 256 ha, le-leb (length b) 256 hb) (by-layers p q)

-- the hypotheses can be met: `61` and `6100`, layer by layer
pub sixty-one : compared_by_layers (0x61 ∷ []) (0x61 ∷ 0x00 ∷ []) ≡ accepted (0 ∷ [])
unfolding bytewise
sixty-one =
    by-layers (0x61 ∷ []) (0x61 ∷ 0x00 ∷ []) (omega arith) (omega arith) (more (omega arith) none)
    (more (omega arith) (more (omega arith) none))
