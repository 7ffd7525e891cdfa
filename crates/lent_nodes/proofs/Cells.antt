-- Laws on cells: what is stored is what is loaded, other cells are untouched. Assumes nothing.
use mathlib.Core.Path.{◌≡◌, refl, ap, sym, ◌∙◌}
use mathlib.Core.List.{List, [], ◌∷◌, ◌++◌}
use mathlib.Core.Logic.{⊎_elim, ◌⊎◌, inl, inr}
use Prim.Native.Nat.{ℕ, ◌+◌, ◌-◌, ◌≤◌}
use native.Mathlib.Omega.{arith}
use lib.ListN.{length, set, length-append, length-replicate}
use lib.Seq.{take-append-le, take-length}
use Rattle.lent_words.specs.Parts.{part, put_part, zeros}
use Rattle.lent_nodes.specs.Layout.{cell_start, key_start, cell_at, bytes_at, mark_at, frame_at, key_at, key_bytes, put_cell, put_key}
use Rattle.lent_nodes.specs.Layout.{freed_cell}
use Rattle.lent_words.proofs.Words.{part-part, part-kept, put-put, put_same, put_in, put-out, put-length, first-put, set-put, part-all}
use Rattle.lent_words.proofs.Words.{lt-or-ge}

pub cells-apart : (j k : ℕ) → (j ≡ k → ⊥) → (cell_start j + 2 ≤ cell_start k) ⊎ (cell_start k + 2 ≤ cell_start j)
cells-apart j k ne = ⊎_elim (λ l. inl (omega arith)) (λ g. inr (omega arith)) (lt-or-ge j k)

pub keys-apart : (j k : ℕ) → (j ≡ k → ⊥) → (key_start j + 256 ≤ key_start k) ⊎ (key_start k + 256 ≤ key_start j)
keys-apart j k ne = ⊎_elim (λ l. inl (omega arith)) (λ g. inr (omega arith)) (lt-or-ge j k)

pub key-length : (key : List ℕ) → length key ≤ 256 → length (key_bytes key) ≡ 256
key-length key h = simp (length-append, length-replicate) (omega arith)

-- ---- the two words; `ws` are those stored

module _ (m : List ℕ) (k : ℕ) (fits : cell_start k + 2 ≤ length m) where
  module _ (ws : List ℕ) (whole : length ws ≡ 2) where
    pub cell-stored : cell_at (put_part m (cell_start k) ws) k ≡ ws
    cell-stored = put_same m (cell_start k) ws 2 fits whole

    pub cell-kept : (j : ℕ) → cell_start j + 2 ≤ length m → (j ≡ k → ⊥) → cell_at (put_part m (cell_start k) ws) j ≡ cell_at m j
    cell-kept j g ne = part-kept m (cell_start k) ws (rw whole fits) (cell_start j) 2 g (rw whole (cells-apart j k ne))

    pub mark-kept : (j : ℕ) → (j ≡ k → ⊥) → mark_at (put_part m (cell_start k) ws) j ≡ mark_at m j
    mark-kept j ne =
        put-out m (cell_start k) ws (rw whole fits) (cell_start j)
        (⊎_elim (λ p. inl (omega arith)) (λ p. inr (omega arith)) (cells-apart j k ne))

    pub cells-length : length (put_part m (cell_start k) ws) ≡ length m
    cells-length = put-length m (cell_start k) ws (rw whole fits)

  pub mark-stored : (len frame : ℕ) → mark_at (put_cell m k len frame) k ≡ len + 1
  mark-stored len frame = first-put m (cell_start k) ((len + 1) ∷ frame ∷ []) fits (omega arith)

  pub frame-stored : (len frame : ℕ) → frame_at (put_cell m k len frame) k ≡ frame
  frame-stored len frame = put_in m (cell_start k) ((len + 1) ∷ frame ∷ []) fits 1 (omega arith)

  pub mark-freed : mark_at (freed_cell m k) k ≡ 0
  mark-freed = first-put m (cell_start k) (zeros 2) fits (omega arith)

  -- the two stores are one
  pub cell-written : (len frame : ℕ) {m1 m2 : List ℕ} → m1 ≡ set m (cell_start k) (len + 1) → m2 ≡ set m1 (cell_start k + 1) frame
      → m2 ≡ put_cell m k len frame
  cell-written len frame e1 e2 =
      e2
      ∙ ap (λ (x : List ℕ). set x (cell_start k + 1) frame) (e1 ∙ set-put m (cell_start k) (len + 1) (omega arith))
      ∙ set-put (put_part m (cell_start k) ((len + 1) ∷ [])) (cell_start k + 1) frame
      (rw (put-length m (cell_start k) ((len + 1) ∷ []) (omega arith)) (omega arith))
      ∙ put-put m (cell_start k) ((len + 1) ∷ []) (frame ∷ []) (omega arith)

-- ---- the key's bytes

module _ (m : List ℕ) (k : ℕ) (fits : key_start k + 256 ≤ length m) where
  module _ (bs : List ℕ) (whole : length bs ≡ 256) where
    pub bytes-stored : bytes_at (put_part m (key_start k) bs) k ≡ bs
    bytes-stored = put_same m (key_start k) bs 256 fits whole

    pub bytes-kept : (j : ℕ) → key_start j + 256 ≤ length m → (j ≡ k → ⊥) → bytes_at (put_part m (key_start k) bs) j ≡ bytes_at m j
    bytes-kept j g ne = part-kept m (key_start k) bs (rw whole fits) (key_start j) 256 g (rw whole (keys-apart j k ne))

    pub bytes-length : length (put_part m (key_start k) bs) ≡ length m
    bytes-length = put-length m (key_start k) bs (rw whole fits)

  -- a copy and zeros behind it are one part
  pub key-written : (key : List ℕ) {m1 m2 : List ℕ} → length key ≤ 256 → m1 ≡ put_part m (key_start k) (part key 0 (length key))
      → m2 ≡ put_part m1 (key_start k + length key) (zeros (256 - length key)) → m2 ≡ put_key m k key
  key-written key h e1 e2 =
      e2
      ∙ ap (λ (x : List ℕ). put_part x (key_start k + length key) (zeros (256 - length key)))
      (e1 ∙ ap (put_part m (key_start k)) (part-all key (length key) refl))
      ∙ put-put m (key_start k) key (zeros (256 - length key)) (rw (length-replicate {A = ℕ} (256 - length key) 0) (omega arith))

-- ---- both: the key that was stored is the key that is read

front : (key rest : List ℕ) → part (key ++ rest) 0 (length key) ≡ key
unfolding part
front key rest = take-append-le (length key) key rest (omega arith) ∙ take-length key

pub key-stored : (cells bytes : List ℕ) (k : ℕ) (key : List ℕ) (frame : ℕ) → cell_start k + 2 ≤ length cells
    → key_start k + 256 ≤ length bytes → length key ≤ 256
    → key_at (put_cell cells k (length key) frame) (put_key bytes k key) k ≡ key
key-stored cells bytes k key frame hc hb h =
    let l : length (key_bytes key) ≡ 256 = key-length key h in
    let n : mark_at (put_cell cells k (length key) frame) k - 1 ≡ length key = omega (arith, mark-stored cells k hc (length key) frame) in
    let b : length (put_key bytes k key) ≡ length bytes = bytes-length bytes k hb (key_bytes key) l in
    let z : key_start k + 0 ≡ key_start k = omega arith in
    ap (part (put_key bytes k key) (key_start k)) n
    ∙ ap (λ (a : ℕ). part (put_key bytes k key) a (length key)) (sym z)
    ∙ sym (part-part (put_key bytes k key) (key_start k) 256 0 (length key) (omega arith) (omega arith))
    ∙ ap (λ (x : List ℕ). part x 0 (length key)) (bytes-stored bytes k hb (key_bytes key) l)
    ∙ front key (zeros (256 - length key))
