-- `inside::zero_bytes` meets its contract. Assumes nothing.
use Rattle.lent_words.proofs.Words.{zeroed}
use Rattle.lent_words.proofs.inside.zero_bytes.Goals as goal

pub returns : goal.returns
returns c = zeroed _ _ _ c.requires (c.fill.ensures.after (λ y e. e))
