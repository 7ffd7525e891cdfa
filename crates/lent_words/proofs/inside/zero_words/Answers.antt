-- `inside::zero_words` meets its contract. Assumes nothing.
use Rattle.lent_words.proofs.Words.{zeroed}
use Rattle.lent_words.proofs.inside.zero_words.Goals as goal

pub returns : goal.returns
returns c = zeroed _ _ _ c.requires (c.fill.ensures.after (λ y e. e))
