-- A law for each way in which a slot word of a leaf is made. Assumes nothing.
use Prim.Native.Nat.{ℕ}
use mathlib.Core.Path.{◌≡◌, sym, ap, ◌∙◌}
use lib.ListN.{get_or}
use borrow.Author.Rules.{rules}
use Rattle.std.specs.Prelude.{Result, Ok, Err}
use Rattle.std.specs.Result.{result_unwrap_or}
use Rattle.refusal.specs.Answer.{Answer}
use Rattle.refusal.specs.declared.Refusal.{Refusal}
use Rattle.bank.specs.Calls.{remove}
use Rattle.slot_answers.specs.declared.Refused.{Refused}
use Rattle.permuter.specs.Words.{changed, made_sorted}
use Rattle.permuter.specs.Answers.{said_changed, said_made}

first_of : {a b : Answer} → a ≡ b → get_or a.values 0 0 ≡ get_or b.values 0 0
first_of e = ap (λ (a : Answer). get_or a.values 0 0) e

module _ (word p : ℕ) {r : Result ℕ Refused} (e : said_changed r ≡ changed 15 word (remove p)) where
  pub without-word : {x : ℕ} → r ≡ Ok x → x ≡ get_or (changed 15 word (remove p)).values 0 0
  without-word q = first_of (sym (ap said_changed q) ∙ e)

  pub without-same : {x : Refused} → r ≡ Err x → x.word ≡ get_or (changed 15 word (remove p)).values 0 0
  without-same q = first_of (sym (ap said_changed q) ∙ e)

pub sorted-word : (n : ℕ) (r : Result ℕ Refusal) → said_made r ≡ made_sorted 15 n → {x : ℕ} → x ≡ result_unwrap_or r 0
    → x ≡ get_or (made_sorted 15 n).values 0 0
sorted-word n (Ok x) e d = d ∙ first_of e
sorted-word n (Err why) e d = d ∙ first_of e

pub ruleset words = (rules, without-word, without-same, sorted-word)
