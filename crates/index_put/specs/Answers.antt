-- What a put answers, by document 01's numbers.
use Rattle.std.specs.Prelude.{ℕ, [], ◌∷◌, Result, Ok, Err}
use Rattle.refusal.specs.Answer.{Answer, accepted, refused, refused_telling}
use Rattle.index_put.specs.declared.PutRefused.{PutRefused}
use Rattle.index_put.specs.declared.PutRefused.TheVariants as put_no

-- too few nodes are free: 14, and the number of nodes lacking
abbrev pub too_few_nodes : ℕ → Answer
too_few_nodes lacking = refused_telling 14 (lacking ∷ []) []

-- a put: 0 with the number of slots that rest in the leaf where the key is, or the number of a refusal; 14 with the number of nodes lacking
abbrev pub said_added : Result ℕ PutRefused → Answer
said_added (Ok resting) = accepted (resting ∷ [])
said_added (Err (put_no.TooFewNodes lacking)) = too_few_nodes lacking
said_added (Err (put_no.Refused why)) = refused why []
