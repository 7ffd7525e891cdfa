-- Room for a number and for a refusal. Assumes nothing.
use Prim.Native.Nat.{ℕ, ◌+◌, ◌^◌, ◌≤◌, ◌<◌}
use mathlib.Core.Path.{◌≡◌}
use mathlib.Core.List.{List}
use native.Mathlib.Omega.{arith}
use lib.ListN.{length}
use Rattle.refusal.specs.declared.Refusal.{Refusal}
use Rattle.refusal.specs.Refusals.{number_of}
use Rattle.page.specs.Shown.{decimal, refused_line, number_line}
use Rattle.page.specs.Page.{Typed}
use Rattle.page.proofs.Pages.{decimal-short, refused-length, number-length}

pub digits-room : {n : ℕ} → n < 2 ^ 64 → length (decimal n) ≤ 20
digits-room {n} h = decimal-short 19 n (omega arith)

pub refused-room : {n l : ℕ} → n < 2 ^ 64 → 100 ≤ l → 0 + length (refused_line n) ≤ l
refused-room {n} h k = omega (arith, digits-room h, refused-length n)

pub few-nodes-room : {l : ℕ} → 100 ≤ l → 0 + length (refused_line 14) ≤ l
few-nodes-room k = refused-room (omega arith) k

pub number-room : {n l : ℕ} → n < 2 ^ 64 → 100 ≤ l → 0 + length (number_line n) ≤ l
number-room {n} h k = omega (arith, digits-room h, number-length n)

pub refused_as : {out o : List ℕ} {n r : ℕ} (why : Refusal) → n ≡ number_of why → Typed out 0 (refused_line n) r o
    → Typed out 0 (refused_line (number_of why)) r o
refused_as why e t = rw e at t
