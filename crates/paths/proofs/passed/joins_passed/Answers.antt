-- `paths::passed::joins_passed` meets its contract: the line has the root of those passed, and parts from those of its bucket there.
-- Assumes nothing.
use mathlib.Core.Path.{◌≡◌, sym}
use mathlib.Core.Logic.{◌⊎◌, inl, inr}
use Rattle.paths.proofs.PassedLines.{other_root, bucket_fault, bucket_right, open_passed}
use Rattle.paths.proofs.passed.joins_passed.Goals as goal
use Rattle.paths.proofs.passed.joins_passed.Goals.{else-passed-ne0-via-then-passed-ne0+else-passed-root, else-passed-ne0-via-else-passed-ne0}

pub returns-then-passed-root-clause-answer : goal.returns-then-passed-root-clause-answer
returns-then-passed-root-clause-answer c = sym (other_root c.requires.passed c.requires.open c.weight-root.ensures c.if-passed-ne0.true c.if-passed-root.true)

pub returns-then-not-parts_from_bucket-clause-answer : goal.returns-then-not-parts_from_bucket-clause-answer
returns-then-not-parts_from_bucket-clause-answer c = sym (bucket_fault c.requires.passed c.requires.open _ (sym c.if-not-parts_from_bucket.ensures))

pub returns : goal.returns
returns c =
    let its_root : (c.args.passed.now.root ≡ 0) ⊎ (c.args.passed.now.root ≡ c.weight-root.result) = elim c.else-passed-ne0.branch [
      | else-passed-ne0-via-then-passed-ne0+else-passed-root w ↦ inr w.if-passed-root.false
      | else-passed-ne0-via-else-passed-ne0 w ↦ inl w.if-passed-ne0.false
    ] in
    record {
      answer = sym (bucket_right c.requires.passed c.requires.open c.weight-root.ensures c.edge.ensures its_root (sym c.if-not-parts_from_bucket.ensures));
      passed = λ joins. open_passed c.requires.passed c.requires.open c.weight-root.ensures c.edge.ensures its_root c.args.line.below_64 c.enter.ensures;
    }
