-- The name is text.
use Rattle.std.proofs.Common.{subst, sym}
use Rattle.std.specs.Prelude.{IsUtf8}
use Rattle.card_files.proofs.Text.{filled-utf8, read_as_text}
use Rattle.card_files.proofs.put_beside.Goals as goal

pub unwrap-name-requires : goal.unwrap-name-requires
unwrap-name-requires g c =
    let k = c.make.ensures in
    read_as_text _ _ c.from_utf8.result c.make.new.name c.from_utf8.ensures.cases
    (subst IsUtf8 (sym k.named) (filled-utf8 c.args.path.now k.number c.utf8.path))
