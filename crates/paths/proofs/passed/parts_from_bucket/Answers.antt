use native.Mathlib.Omega.{arith}
use mathlib.Core.Path.{sym}
use Rattle.paths.specs.Passed.{parts_from_bucket}
use Rattle.paths.proofs.ChainLaws.{walk_start, walked_all, walk_fault, entries_fall, walk_more}
use Rattle.paths.proofs.passed.parts_from_bucket.Goals as goal

pub loop-entry-init : goal.loop-entry-init
loop-entry-init c = walk_start c.requires.chained c.requires.bucket c.first-entry.ensures

pub returns-then-not-parts : goal.returns-then-not-parts
unfolding parts_from_bucket
returns-then-not-parts c = sym (walk_fault c.loop-entry.invariant (omega arith) (sym c.if-not-parts.ensures))

pub loop-entry-smaller : goal.loop-entry-smaller
loop-entry-smaller c = entries_fall c.requires.chained c.loop-entry.invariant (omega arith) c.next-entry.ensures

pub loop-entry-preserved : goal.loop-entry-preserved
loop-entry-preserved c = walk_more c.requires.chained c.loop-entry.invariant (omega arith) c.next-entry.ensures (sym c.if-not-parts.ensures)

pub returns : goal.returns
unfolding parts_from_bucket
returns c = sym (walked_all c.loop-entry.invariant (omega arith))
