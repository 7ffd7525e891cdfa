-- Each contract leaves one outcome: the label. Assumes nothing.
use Prim.Native.Nat.{ℕ}
use mathlib.Core.Path.{◌≡◌, sym, ◌∙◌}
use mathlib.Core.List.{List}
use Rattle.label_said.specs.Label.{Edition, Fields, label_of}

pub build-once : (e : Edition) (x : Fields) (l m : List ℕ) → l ≡ label_of e x → m ≡ label_of e x → l ≡ m
build-once e x l m p q = p ∙ sym q
