-- The folder of a path ends behind a slash.
use Rattle.std.proofs.Common.{◌≡◌, ◌-◌, ◌≤◌, arith, get_or, length, subst}
use Rattle.card_files.proofs.Text.{cut_behind}
use Rattle.card_files.proofs.settle.Goals as goal

pub range-requires-clause-end_boundary : goal.range-requires-clause-end_boundary
range-requires-clause-end_boundary g c =
    let n = c.folder-n.result in
    let same = c.as_bytes.ensures.value in
    cut_behind c.args.path.now n c.utf8.path (omega arith)
    (subst (λ xs. n ≤ length xs) same c.folder-n.ensures.prefix_len.0)
    (subst (λ xs. get_or xs (n - 1) 0 ≡ 47) same (c.folder-n.ensures.behind_slash (omega arith)))
