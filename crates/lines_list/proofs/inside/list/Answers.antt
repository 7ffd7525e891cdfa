-- `inside::list` meets its contract. Assumes nothing.
use borrow.Author.Rules.{rules}
use Rattle.lines_list.proofs.Listings.{no-tree, tree_is, header-room, entries-room, list_done}
use Rattle.lines_list.proofs.inside.list.Goals as goal

pub returns-then-not-is_tree : goal.returns-then-not-is_tree
returns-then-not-is_tree c = search no-tree

pub count-n-requires : goal.count-n-requires
count-n-requires c = search tree_is

pub header-next-requires : goal.header-next-requires
header-next-requires c = search header-room

pub entries-requires : goal.entries-requires
entries-requires c = record {
  bytes_value = search tree_is;
  n_value = search rules;
  bytes_in_bounds = search entries-room;
}

pub returns : goal.returns
returns c = search list_done
