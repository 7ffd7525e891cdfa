-- One law for each way in which put returns. Assumes nothing.
use mathlib.Core.Path.{◌≡◌, sym, ◌∙◌}
use mathlib.Core.Bool.{Bool, true, false}
use mathlib.Core.List.{List, []}
use Prim.Native.Nat.{ℕ, ◌≤◌, ◌<◌}
use borrow.Author.Tests.{le-leb, lt-leb}
use lib.ListN.{length, get_or}
use mir.Syntax.{w8}
use mir.Val.{Fits}
use Rattle.ikey.proofs.Orders.{known}
use Rattle.refusal.specs.Answer.{refused}
use Rattle.refusal.specs.declared.Refusal.TheVariants as no
use Rattle.arena.specs.Memory.{memory, Did, did, right_lengths}
use Rattle.arena.proofs.Measures.{and-true}
use Rattle.forest.specs.Walk.{is_tree}
use Rattle.model.specs.Calls.{put_done, put_lent}
use Rattle.index_counted.proofs.Lent.{lent-is-put}

-- a tree has right lengths
pub tree-lengths : (nodes cells bytes : List ℕ) {t : Bool} → t ≡ is_tree (memory nodes cells bytes) → t ≡ true
    → right_lengths (length nodes) (length cells) (length bytes) ≡ true
unfolding is_tree
tree-lengths nodes cells bytes e y = (and-true _ _ (sym e ∙ y)).0

module _ (nodes cells bytes key : List ℕ) (frame : ℕ) where
  pub put-long : 256 < length key → did (refused no.Key []) (memory nodes cells bytes) ≡ put_done (memory nodes cells bytes) key frame
  unfolding put_done
  put-long h = rw (lt-leb (length key) 256 h)

  module _ (s : length key ≤ 256) {t : Bool} (e : t ≡ is_tree (memory nodes cells bytes)) where
    pub put-unfit : t ≡ false → did (refused no.Memory []) (memory nodes cells bytes) ≡ put_done (memory nodes cells bytes) key frame
    unfolding put_done
    put-unfit f = rw (le-leb (length key) 256 s, ← e, f)

    -- on a tree, as without the audit
    pub put-known : ((i : ℕ) → Fits w8 (get_or bytes i 0)) → ((i : ℕ) → Fits w8 (get_or key i 0)) → t ≡ true → {d : Did}
        → d ≡ put_lent (memory nodes cells bytes) key frame → d ≡ put_done (memory nodes cells bytes) key frame
    put-known kb kk y q = q ∙ lent-is-put (memory nodes cells bytes) key frame (known bytes kb) (known key kk) s (sym e ∙ y)
