-- The judgement that every call on a bank begins with, whatever holds it: refusal 1, then refusal 2.
use Rattle.std.specs.Prelude.{Bool, true, false, Result, Ok, Err}
use Rattle.refusal.specs.declared.Refusal.{Refusal}
use Rattle.refusal.specs.declared.Refusal.TheVariants.{Width, Word}
use Rattle.bank.specs.Holder.{Holder}

-- the refusal, unless the condition holds; then what the rest says
abbrev pub or_else : Bool → Refusal → Result (Unit {0}) Refusal → Result (Unit {0}) Refusal
or_else true why rest = rest
or_else false why rest = Err why

-- 1 unless the width is good, 2 unless what is held is valid; else it may be used
unfoldable pub judged_in : {Held : Type 0} → Holder Held → Held → Result (Unit {0}) Refusal
judged_in h held = or_else h.good_width Width (or_else (h.valid held) Word (Ok tt))
