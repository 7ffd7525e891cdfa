-- `first_refusal` meets its contract. Assumes nothing.
use Rattle.slot_answers.proofs.Calls.{refused-first}
use Rattle.slots_insert.proofs.first_refusal.Goals as goal

pub returns : goal.returns
returns c =
    refused-first c.args.width c.args.word c.args.own c.err.result c.unwrap_or.result c.judged.ensures c.err.ensures.value c.unwrap_or.ensures
