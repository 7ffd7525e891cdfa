-- The index filled from a stream: a law for each way in which the code returns, and that it is what the entries of the stream, put in
-- order after a clear, leave. Assumes nothing.
use Prim.Native.Nat.{ℕ, ◌*◌, ◌≤◌}
use mathlib.Core.Path.{◌≡◌, refl, sym, ap, ap₂, ◌∙◌}
use mathlib.Core.Bool.{Bool, true, false, cond}
use mathlib.Core.List.{List, [], ◌∷◌}
use native.Mathlib.Omega.{arith}
use mir.Syntax.{w8}
use mir.Val.{Fits}
use borrow.Author.Rules.{rules}
use borrow.Author.Tests.{ne_eqb}
use lib.ListN.{length, get_or, drop}
use Rattle.std.specs.Prelude.{Result, Ok, Err}
use Rattle.refusal.specs.Answer.{Answer, accepted, refused}
use Rattle.refusal.specs.declared.Refusal.{Refusal}
use Rattle.refusal.specs.Refusals.{number_of}
use Rattle.refusal.proofs.Laws.{number-pos}
use Rattle.order.specs.Bytes.{Bytes}
use Rattle.order.specs.Map.{Map, All}
use Rattle.order.proofs.Map.{all_map}
use Rattle.ikey.proofs.Orders.{known}
use Rattle.lent_words.specs.Parts.{zeros}
use Rattle.arena.specs.Memory.{Memory, memory, Did, did, right_lengths, node_count, cell_count, emptied, cleared, said_cleared}
use Rattle.card_stream.specs.Cuts.{arrived}
use Rattle.card_block.specs.Words.{little_endian}
use Rattle.card_stream.specs.Stream.{Holdable, Writable}
use Rattle.card_stream.specs.Parse.{right, parse}
use Rattle.card_stream.proofs.OnlyWritten.{only-written}
use Rattle.card_stream.proofs.Accepted.{payload-bytes}
use Rattle.card_fields.specs.declared.Fields.{Fields}
use Rattle.card_fields.specs.Step.{at_first}
use Rattle.card_fields.specs.View.{step_keeping}
use Rattle.card_fields.proofs.Views.{machine-is-parser}
use Rattle.card_stream.specs.Payload.{payload}
use Rattle.index_put.specs.declared.PutRefused.{PutRefused}
use Rattle.index_put.specs.declared.PutRefused.TheVariants as put_no
use Rattle.index_put.specs.Answers.{too_few_nodes, said_added}
use Rattle.model.specs.Calls.{put_lent}
use Rattle.map_loads.specs.Loads.{puts_after, Fileable, empty_of, settled, loaded}
use Rattle.map_loads.proofs.Loaded.{load-lent}
use Rattle.card_filing.specs.declared.Filing.{Filing}
use Rattle.card_filing.specs.Filing.{Both, step_putting, both}
use Rattle.card_filing.proofs.Keeps.{with_all, all-kept}
use Rattle.card_load.specs.declared.Loaded.{Loaded}
use Rattle.card_said.specs.Load.{blocks_in, load_done}
use Rattle.card_load.specs.Load.{examined, filled}
use Rattle.card_reader.proofs.Ends.{stand-entries}
use Rattle.card_load.specs.declared.inside.Exam.{Exam}
use Rattle.card_load.specs.declared.inside.Exam.TheVariants.{Good}
use Rattle.card_load.proofs.Exams.{Passed, passed, pass-some, pass_all, pass-done}
use Rattle.card_load.proofs.Counts.{image-count}

-- ---- a clear

pub emptied-by : (m : Memory) (r : Result (Unit {0}) Refusal) {m' : Memory} → did (said_cleared r) m' ≡ cleared m
    → right_lengths (length m.nodes) (length m.cells) (length m.bytes) ≡ true → m' ≡ empty_of m
unfolding cleared
emptied-by m r e y = ap (λ (d : Did). d.after) (rw y at e)

-- what a clear leaves goes by the lengths alone
pub empty-same : (m n : Memory) → length n.nodes ≡ length m.nodes → length n.cells ≡ length m.cells → empty_of n ≡ empty_of m
empty-same m n p q = ap₂ (λ (a b : ℕ). emptied (node_count a) (cell_count b)) p q

-- ---- filled

pub fill_done : (m : Memory) (bytes : List ℕ) {m' n : Memory} {s : Fields} {field key : List ℕ} (t : Filing) → n ≡ empty_of m → s ≡ at_first
    → both field key t m' ≡ arrived step_putting (both (zeros 256) (zeros 256) (record { fields = s; added = Ok 0 }) n) bytes
    → did (said_added t.added) m' ≡ filled m bytes
unfolding filled
fill_done m bytes t p q e = ap (λ (b : Both). b.1) (rw (p, q) at e)

module _ (m : Memory) (bytes : List ℕ) (added : Result ℕ PutRefused) {n : Memory} (e : did (said_added added) n ≡ filled m bytes) where
  pub refill-refused : (count : ℕ) {no : PutRefused} {why : Refusal} {n' : Memory} → added ≡ Err no → no ≡ put_no.Refused why → n' ≡ empty_of n
      → length n.nodes ≡ length m.nodes → length n.cells ≡ length m.cells
      → did (refused why []) n' ≡ settled (empty_of m) count (filled m bytes)
  refill-refused count {why = why} q w p a b =
      rw (← e, q, w, ne_eqb (number_of why) 0 (omega (arith, number-pos why))) (ap (did (refused why [])) (p ∙ empty-same m n a b))

  pub refill-lacked : (count : ℕ) {no : PutRefused} {k : ℕ} {n' : Memory} → added ≡ Err no → no ≡ put_no.TooFewNodes k → n' ≡ empty_of n
      → length n.nodes ≡ length m.nodes → length n.cells ≡ length m.cells
      → did (too_few_nodes k) n' ≡ settled (empty_of m) count (filled m bytes)
  refill-lacked count {k = k} q w p a b = rw (← e, q, w) (ap (did (too_few_nodes k)) (p ∙ empty-same m n a b))

  pub refill-done : (image : List ℕ) {k resting : ℕ} → k ≡ little_endian 4 (drop 0 image) → added ≡ Ok resting
      → did (accepted (k ∷ [])) n ≡ settled (empty_of m) (little_endian 4 image) (filled m bytes)
  refill-done image c q = rw (← e, q, c)

-- ---- what that is

holdable-fileable : (e : List ℕ × ℕ) → Holdable e → Fileable e
holdable-fileable e h = record { bytes = h.bytes; short = h.short }

-- the entries of the stream, put in order
pub filled_is : (m : Memory) (bytes : List ℕ) {es : Map} → parse bytes ≡ right es
    → filled m bytes ≡ puts_after put_lent (did (accepted (0 ∷ [])) (empty_of m)) es
unfolding filled
filled_is m bytes {es} e =
    let d = did (accepted (0 ∷ [])) (empty_of m) in
    let p = arrived step_keeping ((zeros 256, zeros 256, at_first), []) bytes in
    let k : p.1 ≡ es = stand-entries p.0.2.stage p.0.0 p.0.1 p.0.2 p.1
    (machine-is-parser (zeros 256) (zeros 256) bytes refl refl ∙ e) in
    ap (λ (b : Both). b.1) (all-kept d bytes ((zeros 256, zeros 256, at_first), []))
    ∙ ap (λ (l : Map). puts_after put_lent d l) k

pub load-good : (m : Memory) (image : List ℕ) → ((i : ℕ) → Fits w8 (get_or image i 0)) → {x : Exam}
    → x ≡ examined (length m.nodes) (length m.cells) (length m.bytes) image → {n : ℕ} → x ≡ Good n → {d : Did}
    → d ≡ settled (empty_of m) (little_endian 4 image) (filled m (payload n image)) → d ≡ load_done m image
load-good m image k e {n} q f =
    let b : Bytes image = known image k in
    let p : Passed (length m.nodes) (length m.cells) (length m.bytes) image n = passed _ _ _ image e q in
    let r : parse (payload n image) ≡ right p.entries = ap (λ (k : ℕ). parse (payload k image)) p.blocks ∙ p.parsed in
    let (w, s) = only-written (payload-bytes n b) r in
    let fs : All Fileable p.entries = all_map holdable-fileable w.each in
    f
    ∙ ap₂ (λ (c : ℕ) (g : Did). settled (empty_of m) c g)
    (image-count image b n (pass-some _ _ _ image e q) (pass_all _ _ _ image e q) r) (filled_is m (payload n image) r)
    ∙ sym (load-lent m p.lent (0 ∷ []) fs)
    ∙ sym (pass-done m image p)
