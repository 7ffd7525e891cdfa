-- Histories: any list of calls, whatever holds the bank, what they hand out and release, and how a run of them is withdrawn.
use Rattle.std.specs.Prelude.{ℕ, cond, List, [], ◌∷◌, ◌++◌, map, reverse, drop}
use Rattle.refusal.specs.Answer.{all_hold}
use Rattle.bank.specs.Bank.{Bank, slot_at, place_in_use}
use Rattle.bank.specs.Calls.{
  Change,
  from_value,
  set_size,
  swap_free_slots,
  insert_from_back,
  insert_first_free,
  remove,
  remove_to_back,
  remove_slot,
  exchange,
  rotate,
  change_rules,
  after,
  handed_out,
}

-- What calls do: what is held now, the slots that they hand out, those that they release, and the calls that take it all back, the
-- opposite of the last one first.
pub record Done (Held : Type 0) : Type 0 where
  pub now : Held
  pub handed : List ℕ
  pub released : List ℕ
  pub opposites : List Change

-- nothing is done
abbrev pub nothing : {Held : Type 0} → Held → Done Held
nothing held = record { now = held; handed = []; released = []; opposites = [] }

-- one thing is done, and then another
abbrev pub and_then : {Held : Type 0} → Done Held → Done Held → Done Held
and_then first second =
    record {
      now = second.now;
      handed = first.handed ++ second.handed;
      released = first.released ++ second.released;
      opposites = second.opposites ++ first.opposites;
    }

-- The three kinds of call of a history, refused ones among them: insert_from_back and remove at a position, and remove_slot of a
-- slot.
pub data Call : Type 0 where
  inserting : ℕ → Call
  removing : ℕ → Call
  removing_slot : ℕ → Call

-- the same among the calls that hand a bank back
abbrev pub as_change : Call → Change
as_change (inserting i) = insert_from_back i
as_change (removing i) = remove i
as_change (removing_slot s) = remove_slot s

-- A step of a history: a call, or a run of calls that is withdrawn again.
pub data Step : Type 0 where
  call : Call → Step
  burst : List Call → Step

-- the same history as if no burst had been
unfoldable pub without_bursts : List Step → List Step
without_bursts [] = []
without_bursts (call c ∷ steps) = call c ∷ without_bursts steps
without_bursts (burst run ∷ steps) = without_bursts steps

module _ {Held : Type 0} (does : Change → Held → Done Held) where
  -- these calls, one after the other
  abbrev pub taken_back : List Change → Held → Held
  taken_back [] held = held
  taken_back (c ∷ opposites) held = taken_back opposites (does c held).now

  -- the calls of a run, first to last
  unfoldable pub in_turn : List Call → Held → Done Held
  in_turn [] held = nothing held
  in_turn (c ∷ run) held = let d = does (as_change c) held in and_then d (in_turn run d.now)

  -- The calls of a run, and then each withdrawn by its opposite, last first. One that was refused has no opposite: there is nothing to
  -- withdraw.
  abbrev pub withdrawn : List Call → Held → Held
  withdrawn run held = let d = in_turn run held in taken_back d.opposites d.now

  -- the case of a run of insertions from the back, at these positions
  abbrev pub withdrawn_run : List ℕ → Held → Held
  withdrawn_run positions held = withdrawn (map inserting positions) held

  -- step after step; what a burst does it takes back, so that it counts for nothing
  unfoldable pub ran : List Step → Held → Done Held
  ran [] held = nothing held
  ran (call c ∷ steps) held = let d = does (as_change c) held in and_then d (ran steps d.now)
  ran (burst run ∷ steps) held = ran steps (withdrawn run held)

-- the slot that an accepted removal of a history releases
abbrev pub released_by : Change → Bank → List ℕ
released_by from_value b = []
released_by (set_size n) b = []
released_by (swap_free_slots i j) b = []
released_by (insert_from_back i) b = []
released_by (insert_first_free i) b = []
released_by (remove i) b = slot_at i b ∷ []
released_by (remove_to_back i) b = []
released_by (remove_slot s) b = s ∷ []
released_by (exchange i j) b = []
released_by (rotate i j) b = []

-- The opposite of an accepted call of a history: a slot that went out at i goes from i to the back again; one that was removed, the
-- first free one now, goes to the position that it had.
abbrev pub opposites_of : Change → Bank → List Change
opposites_of from_value b = []
opposites_of (set_size n) b = []
opposites_of (swap_free_slots i j) b = []
opposites_of (insert_from_back i) b = remove_to_back i ∷ []
opposites_of (insert_first_free i) b = []
opposites_of (remove i) b = insert_first_free i ∷ []
opposites_of (remove_to_back i) b = []
opposites_of (remove_slot s) b = insert_first_free (place_in_use s b) ∷ []
opposites_of (exchange i j) b = []
opposites_of (rotate i j) b = []

-- what an accepted call does to a bank
abbrev pub did : Change → Bank → Done Bank
did c b = record { now = after c b; handed = handed_out c b; released = released_by c b; opposites = opposites_of c b }

-- a call on the bank itself: accepted where every condition holds, and nothing at all otherwise
unfoldable pub bank_does : Change → Bank → Done Bank
bank_does c b = cond (all_hold (change_rules c b)) (did c b) (nothing b)

-- the free slots, from the back forward: the order in which they go out
abbrev pub free : Bank → List ℕ
free b = reverse (drop b.size b.slots)
