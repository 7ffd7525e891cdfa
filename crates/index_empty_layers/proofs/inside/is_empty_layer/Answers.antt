-- `index_empty_layers::inside::is_empty_layer` meets its contract. Assumes nothing.
use Rattle.index_empty_layers.proofs.Returns.{empties}
use Rattle.index_empty_layers.proofs.inside.is_empty_layer.Goals as goal

pub returns-then-links-eq0 : goal.returns-then-links-eq0
returns-then-links-eq0 c = search empties

pub returns-then-word_of-ne-LEAF : goal.returns-then-word_of-ne-LEAF
returns-then-word_of-ne-LEAF c = search empties

pub returns-then-word_of-ne0 : goal.returns-then-word_of-ne0
returns-then-word_of-ne0 c = search empties

pub returns-then-holder-lt-HEADER_WORDS : goal.returns-then-holder-lt-HEADER_WORDS
returns-then-holder-lt-HEADER_WORDS c = search empties

pub returns : goal.returns
returns c = search empties
