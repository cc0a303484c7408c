-- `trials::trial_at` meets its contract: the figures are those of the definition over paths, by the test of the divisor against the weight.
-- Assumes nothing.
use native.Mathlib.Omega.{arith}
use mir.Syntax.{w16}
use borrow.Author.Rules.{Fits-under}
use borrow.Author.Tests.{lt-ltb, le-ltb}
use Rattle.paths.proofs.PathRows.{within_path}
use Rattle.trials.proofs.TrialAt.{below_65536, divisor_positive, divisor_at_most, told_whole, told_split, classes_at_most, own_at_most}
use Rattle.trials.proofs.trial_at.Goals as goal

pub overflow_mul-node : goal.overflow_mul-node
overflow_mul-node c = Fits-under w16 _ _ (below_65536 _ (omega (arith, c.requires.product_in_range))) tt

pub nonzero_div-period : goal.nonzero_div-period
nonzero_div-period c = c.requires.product_positive

pub weight-requires : goal.weight-requires
weight-requires c = within_path _ _ c.requires.on_path

pub returns-then-not-split : goal.returns-then-not-split
returns-then-not-split c = told_whole _ _ _ c.requires.on_path c.weight.ensures c.start-start.ensures c.own_nodes-own.ensures (le-ltb _ _ c.if-not-split.true)

pub classes_taken-requires : goal.classes_taken-requires
classes_taken-requires c =
    let ready = c.requires in
    let positive = divisor_positive _ _ ready.product_positive in
    let most = divisor_at_most _ _ ready.product_positive in
    record { level = within_path _ _ ready.on_path; divisor = (omega arith, omega (arith, ready.product_in_range)) }

pub overflow_add-result : goal.overflow_add-result
overflow_add-result c =
    let ready = c.requires in
    let groups = classes_at_most _ _ _ _ c.classes_taken.ensures in
    let own = own_at_most _ c.own_nodes-own.ensures in
    let most = divisor_at_most _ _ ready.product_positive in
    Fits-under w16 _ _ (below_65536 _ (omega (arith, ready.product_in_range))) tt

pub returns : goal.returns
returns c = told_split _ _ _ c.requires.on_path c.weight.ensures c.start-start.ensures c.own_nodes-own.ensures (lt-ltb _ _ c.if-not-split.false) c.classes_taken.ensures
