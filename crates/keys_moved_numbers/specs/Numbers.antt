-- The numbers of what a plain call says of a key that it makes or moves.
use Rattle.std.specs.Prelude.{get_or}
use Rattle.refusal.specs.Answer.{Answer}
use Rattle.keys_moved_numbers.specs.declared.Numbers.{Numbers}

-- the numbers of an answer: its own, and its three values, or 0 where it has none
abbrev pub numbers_in : Answer → Numbers
numbers_in said =
    record {
      refusal = said.number;
      ikey = get_or said.values 0 0;
      shift_count = get_or said.values 1 0;
      suffix_start = get_or said.values 2 0;
    }
