-- The name is text.
use Rattle.std.proofs.Common.{subst, sym}
use Rattle.std.specs.Prelude.{IsUtf8}
use Rattle.card_files.proofs.Text.{filled-utf8, read_as_text}
use Rattle.card_files.proofs.make.Goals as goal

pub unwrap-requires : goal.unwrap-requires
unwrap-requires g c =
    let l = c.loop-n in
    read_as_text _ _ c.from_utf8.result l.name c.from_utf8.ensures.cases
    (subst IsUtf8 (sym l.invariant.1) (filled-utf8 c.args.path.now l.n c.utf8.path))

pub unwrap-requires-2 : goal.unwrap-requires-2
unwrap-requires-2 g c =
    let l = c.loop-n in
    read_as_text _ _ c.from_utf8-2.result l.name c.from_utf8-2.ensures.cases
    (subst IsUtf8 (sym l.invariant.1) (filled-utf8 c.args.path.now l.n c.utf8.path))
