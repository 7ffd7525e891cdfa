-- What a stream comes to, by the parser and by where the machine stands at its end.
use Rattle.std.specs.Prelude.{ℕ, cond, eqb}
use Rattle.card_stream.specs.Parse.{Parsed, wrong, right}
use Rattle.card_fields.specs.declared.Stage.{Stage}
use Rattle.card_fields.specs.declared.Stage.TheVariants.{Counting, Measuring, Naming, Framing, Filling, Stopped}
use Rattle.card_reader.specs.declared.Verdict.{Verdict}
use Rattle.card_reader.specs.declared.Verdict.TheVariants.{Right, Wrong}

-- what the parser says, without the entries
abbrev pub verdict_of : Parsed → Verdict
verdict_of (wrong place) = Wrong place
verdict_of (right entries) = Right

-- by the stage of the machine when no more bytes come: it is right behind the last zero of the fill, and nowhere else
abbrev pub end_of : Stage → ℕ → ℕ → Verdict
end_of Counting lacks place = Wrong place
end_of Measuring lacks place = Wrong place
end_of Naming lacks place = Wrong place
end_of Framing lacks place = Wrong place
end_of Filling lacks place = cond (eqb lacks 0) Right (Wrong place)
end_of Stopped lacks place = Wrong place
