-- A name that was just typed has letters to fill in.
use Rattle.std.proofs.Common.{arith, rules, subst, sym, take}
use Rattle.card_files.specs.Names.{IsNewName}
use Rattle.card_files.proofs.Text.{new_name-typed}
use Rattle.card_files.proofs.replace.Goals as goal

pub put_beside-requires : goal.put_beside-requires
put_beside-requires g c =
    let path = c.args.path.now in
    let n = c.new_name-n in
    subst (λ p. IsNewName p (take n.result n.new.name)) (sym c.in-Ok.ensures.cases.0)
    (new_name-typed path _ n.new.name n.result (search rules) (omega arith) n.ensures.typed)
