-- `index_empty_layers::inside::give_back` meets its contract. Assumes nothing.
use borrow.Author.Rules.{rules}
use borrow.Author.Tests.{not-true, not-false}
use native.Mathlib.Omega.{arith}
use Rattle.seek.proofs.Seeks.{missing-within}
use Rattle.index_empty_layers.proofs.Returns.{empty-facts, back_none, back-there, back-kept, back_on}
use Rattle.index_empty_layers.proofs.inside.+give_back.Goals as goal

pub returns-then-steps-eq0 : goal.returns-then-steps-eq0
returns-then-steps-eq0 t c = search back_none

pub returns-in_default : goal.returns-in_default
returns-in_default t c = search (back-there, rules)

pub is_empty_layer-requires : goal.is_empty_layer-requires
is_empty_layer-requires t c =
    (search rules, omega (arith, missing-within _ _ c.seek-met.ensures.within c.in-Missing.is))

pub returns-then-not-is_empty_layer : goal.returns-then-not-is_empty_layer
returns-then-not-is_empty_layer t c =
    back-kept _ _ _ _ _ c.if-steps-eq0.false _ c.seek-met.ensures.value c.in-Missing.is
    c.is_empty_layer.ensures (not-true _ c.if-not-is_empty_layer.true-raw)

pub free_layer-requires : goal.free_layer-requires
free_layer-requires t c =
    let lent = c.requires.0 in
    let f = empty-facts _ _ _ _ _ lent c.is_empty_layer.ensures (not-false _ c.if-not-is_empty_layer.false-raw) in
    let w = missing-within _ _ c.seek-met.ensures.within c.in-Missing.is in record {
      nodes_lent = (lent, f.0, omega (arith, w));
      le_holder = (f.1, f.2, f.3);
      root_in_bounds = f.4;
    }

pub returns : goal.returns
returns t c =
    back_on _ _ _ _ _ c.if-steps-eq0.false _ c.seek-met.ensures.value c.in-Missing.is
    c.is_empty_layer.ensures (not-false _ c.if-not-is_empty_layer.false-raw) c.free_layer.ensures.nodes_after
    c.give_back.ensures
