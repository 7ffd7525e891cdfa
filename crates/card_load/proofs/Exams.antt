-- What is known before the index is touched: a law for each way in which `examine` returns, and what its answer means. Assumes nothing.
use Prim.Native.Nat.{ℕ, ◌/◌, ◌%◌, ◌*◌, ◌≤◌, ◌<◌}
use mathlib.Core.Path.{◌≡◌, refl, sym, ap, ◌∙◌}
use mathlib.Core.Bool.{Bool, true, false, cond}
use mathlib.Core.List.{List, [], ◌∷◌}
use native.Mathlib.Omega.{arith}
use denote.Enum.Declared.{tag_of}
use types.Run.{OneOf}
use borrow.Author.Tests.{eq-eqb, ne_eqb, lt-ltb, ltb-true, eqb-true}
use lib.Dec.{eqb, ltb}
use lib.ListN.{length}
use Rattle.refusal.specs.Answer.{Answer, ◌unless◌, ◌telling◌, accepted, refused, refused_telling, answered, all_hold}
use Rattle.refusal.specs.declared.Refusal.{Refusal}
use Rattle.refusal.specs.declared.Refusal.TheVariants as no
use Rattle.refusal.specs.Refusals.{number_of}
use Rattle.refusal.proofs.Laws.{number-pos}
use Rattle.order.specs.Map.{Map}
use Rattle.std.specs.Prelude.{Result, Ok, Err}
use Rattle.arena.specs.declared.Fit.{Fit}
use Rattle.arena.specs.Memory.{Memory, Did, did, node_count, cell_count, right_lengths, measured, said_measured}
use Rattle.arena.proofs.Measures.{fit-means, right-if, and-true}
use Rattle.map_loads.specs.Loads.{loaded}
use Rattle.card_stream.specs.Parse.{Parsed, wrong, right, parse}
use Rattle.card_stream.specs.Payload.{payload, first_bad}
use Rattle.card_said.specs.Load.{whole_blocks, blocks_in, bad_block, checks_good, read, as_written, wrong_at, entries_of, load_done}
use Rattle.card_reader.specs.declared.Verdict.{Verdict}
use Rattle.card_reader.specs.declared.Verdict.TheVariants.{Right, Wrong}
use Rattle.card_reader.specs.Verdict.{verdict_of}
use Rattle.card_reader.specs.contracts.Verdict as verdict-type
use Rattle.card_load.specs.declared.Loaded.{Loaded}
use Rattle.card_load.specs.declared.Loaded.TheVariants as loaded-is
use Rattle.card_load.specs.declared.inside.Exam.{Exam}
use Rattle.card_load.specs.declared.inside.Exam.TheVariants.{Good, Bad}
use Rattle.card_load.specs.Load.{said_loaded, exam_stream, examined}

-- ---- how `examine` returns

-- what is said where lent lengths are right
abbrev judged : List ℕ → Exam
judged image =
    cond (whole_blocks (length image))
    (cond (checks_good image) (exam_stream (blocks_in image) (read image)) (Bad (loaded-is.Check (bad_block image))))
    (Bad loaded-is.Length)

module _ (a b c : ℕ) (image : List ℕ) {r : Result Fit Refusal} (e : said_measured r ≡ measured a b c) where
  pub exam-lent : {why : Refusal} → r ≡ Err why → Bad (loaded-is.Refused no.Memory) ≡ examined a b c image
  unfolding measured examined
  exam-lent {why} f = by (right_lengths a b c) (ap said_measured (sym f) ∙ e)
    where
      by : (x : Bool) → refused why [] ≡ cond x (accepted (node_count a ∷ cell_count b ∷ [])) (record { number = 10; values = [] })
          → Bad (loaded-is.Refused no.Memory) ≡ cond x (judged image) (Bad (loaded-is.Refused no.Memory))
      by true q = absurd (let z : number_of why ≡ 0 = ap (λ (y : Answer). y.number) q in omega (arith, number-pos why))
      by false q = refl

  module _ {fit : Fit} (f : r ≡ Ok fit) where
    fits : right_lengths a b c ≡ true
    fits = right-if a b c fit.nodes fit.cells (fit-means a b c e f)

    pub exam-none : length image ≡ 0 → Bad loaded-is.Length ≡ examined a b c image
    unfolding examined whole_blocks
    exam-none h = rw (fits, h)

    module _ (h : length image ≡ 0 → ⊥) where
      pub exam-odd : (length image % 512 ≡ 0 → ⊥) → Bad loaded-is.Length ≡ examined a b c image
      unfolding examined whole_blocks
      exam-odd k = rw (fits, lt-ltb 0 (length image) (omega arith), ne_eqb (length image % 512) 0 k)

      module _ (k : length image % 512 ≡ 0) where
        whole : whole_blocks (length image) ≡ true
        unfolding whole_blocks
        whole = rw (lt-ltb 0 (length image) (omega arith), eq-eqb (length image % 512) 0 k)

        module _ {bad : ℕ} (q : bad ≡ first_bad 0 (length image / 512) image) where
          pub exam-check : (bad ≡ length image / 512 → ⊥) → Bad (loaded-is.Check bad) ≡ examined a b c image
          unfolding examined
          exam-check d = rw (fits, whole, ← q, ne_eqb bad (length image / 512) d)

          module _ (d : bad ≡ length image / 512) {v : Verdict} (w : v ≡ verdict_of (parse (payload (length image / 512) image))) where
            pub exam-stream : {place : ℕ} → v ≡ Wrong place → Bad (loaded-is.Stream place) ≡ examined a b c image
            unfolding examined
            exam-stream {place} z =
                rw (fits, whole, ← q, eq-eqb bad (length image / 512) d) (by (parse (payload (length image / 512) image)) (sym z ∙ w))
              where
                by : (p : Parsed) → Wrong place ≡ verdict_of p → Bad (loaded-is.Stream place) ≡ exam_stream (length image / 512) p
                by (wrong x) g = cc
                by (right es) g = let z : ◌≡◌ {A = ℕ} 0 1 = cc in absurd (omega arith)

            pub exam-good : OneOf (0 ∷ []) (tag_of verdict-type.the_type v) → Good (length image / 512) ≡ examined a b c image
            unfolding examined
            exam-good z = rw (fits, whole, ← q, eq-eqb bad (length image / 512) d) (by (parse (payload (length image / 512) image)) v w z)
              where
                by : (p : Parsed) (u : Verdict) → u ≡ verdict_of p → OneOf (0 ∷ []) (tag_of verdict-type.the_type u)
                    → Good (length image / 512) ≡ exam_stream (length image / 512) p
                by (right es) u g y = refl
                by (wrong x) Right g y = let z : ◌≡◌ {A = ℕ} 0 1 = cc in absurd (omega arith)
                by (wrong x) (Wrong j) g y = absurd (omega (arith, y))

-- ---- what its answer means

-- the answer of an examination
abbrev said_exam : Exam → Answer
said_exam (Good n) = accepted []
said_exam (Bad l) = said_loaded l

-- lengths are right, and the image has n blocks and can be loaded
pub record Passed (nodes cells bytes : ℕ) (image : List ℕ) (n : ℕ) : Type 0 where
  pub lent : right_lengths nodes cells bytes ≡ true
  pub whole : whole_blocks (length image) ≡ true
  pub blocks : n ≡ blocks_in image
  pub good : checks_good image ≡ true
  pub entries : Map
  pub parsed : read image ≡ right entries

whole-means : (n : ℕ) → whole_blocks n ≡ true → (1 ≤ n / 512) × (512 * (n / 512) ≤ n)
unfolding whole_blocks
whole-means n e =
    let (p, q) = and-true (ltb 0 n) (eqb (n % 512) 0) e in
    let h : 0 < n = ltb-true 0 n p in
    let z : n % 512 ≡ 0 = eqb-true (n % 512) 0 q in
    (omega arith, omega arith)

module _ (m : Memory) (image : List ℕ) {x : Exam} (e : x ≡ examined (length m.nodes) (length m.cells) (length m.bytes) image) where
  pub load-bad : {l : Loaded} → x ≡ Bad l → did (said_loaded l) m ≡ load_done m image
  unfolding examined load_done all_hold
  load-bad {l} q =
      by (right_lengths (length m.nodes) (length m.cells) (length m.bytes)) (whole_blocks (length image)) (checks_good image)
      (read image) (sym q ∙ e)
    where
      by : (y w g : Bool) (p : Parsed)
          → Bad l
          ≡ cond y (cond w (cond g (exam_stream (blocks_in image) p) (Bad (loaded-is.Check (bad_block image)))) (Bad loaded-is.Length))
          (Bad (loaded-is.Refused no.Memory))
          → did (said_loaded l) m
          ≡ cond
          (all_hold
          ((10 unless y) ∷ (15 unless w) ∷ ((16 unless g) telling (bad_block image ∷ []))
          ∷ ((17 unless as_written p) telling (wrong_at p ∷ [])) ∷ []))
          (loaded m (entries_of p))
          (did
          (answered
          ((10 unless y) ∷ (15 unless w) ∷ ((16 unless g) telling (bad_block image ∷ []))
          ∷ ((17 unless as_written p) telling (wrong_at p ∷ [])) ∷ []) [] [])
          m)
      by true true true (wrong place) f = ap (λ (u : Exam). did (said_exam u) m) f
      by true true true (right es) f = let z : ◌≡◌ {A = ℕ} 0 1 = cc in absurd (omega arith)
      by true true false p f = ap (λ (u : Exam). did (said_exam u) m) f
      by true false g p f = ap (λ (u : Exam). did (said_exam u) m) f
      by false w g p f = ap (λ (u : Exam). did (said_exam u) m) f

module _ (nodes cells bytes : ℕ) (image : List ℕ) {x : Exam} (e : x ≡ examined nodes cells bytes image) {n : ℕ} (q : x ≡ Good n) where
  pub passed : Passed nodes cells bytes image n
  unfolding examined
  passed =
      by (right_lengths nodes cells bytes) (whole_blocks (length image)) (checks_good image) (read image) refl refl refl refl (sym q ∙ e)
    where
      by : (y w g : Bool) (p : Parsed) → right_lengths nodes cells bytes ≡ y → whole_blocks (length image) ≡ w → checks_good image ≡ g
          → read image ≡ p
          → Good n
          ≡ cond y (cond w (cond g (exam_stream (blocks_in image) p) (Bad (loaded-is.Check (bad_block image)))) (Bad loaded-is.Length))
          (Bad (loaded-is.Refused no.Memory))
          → Passed nodes cells bytes image n
      by true true true (right es) fits whole good stream f =
          let b : n ≡ blocks_in image = cc in
          record { lent = fits; whole = whole; blocks = b; good = good; entries = es; parsed = stream }
      by true true true (wrong place) fits whole good stream f = let z : ◌≡◌ {A = ℕ} 0 1 = cc in absurd (omega arith)
      by true true false p fits whole good stream f = let z : ◌≡◌ {A = ℕ} 0 1 = cc in absurd (omega arith)
      by true false g p fits whole good stream f = let z : ◌≡◌ {A = ℕ} 0 1 = cc in absurd (omega arith)
      by false w g p fits whole good stream f = let z : ◌≡◌ {A = ℕ} 0 1 = cc in absurd (omega arith)

  pub pass-lent : right_lengths nodes cells bytes ≡ true
  pass-lent = passed.lent

  pub pass-some : 1 ≤ n
  pass-some = rw passed.blocks (whole-means (length image) passed.whole).0

  pub pass_all : 512 * n ≤ length image
  pass_all = rw passed.blocks (whole-means (length image) passed.whole).1

-- it is loaded then
pub pass-done : (m : Memory) (image : List ℕ) {n : ℕ} (p : Passed (length m.nodes) (length m.cells) (length m.bytes) image n)
    → load_done m image ≡ loaded m p.entries
unfolding load_done all_hold
pass-done m image p = rw (p.lent, p.whole, p.good, p.parsed) refl
