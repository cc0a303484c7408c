-- What the lookup of a line finds in a record that need not be a tree.
-- Assumes nothing.
use Rattle.std.specs.Prelude.{ℕ, ◌≡◌, true, false, List, Option, None, Some, Result, MatchResult, length, if◌then◌else◌}
use Rattle.tree.specs.declared.line.Line.{Line}
use Rattle.tree.specs.declared.refusal.Refusal.{Refusal}
use Rattle.tree.specs.Refusals.{line_refusal}
use Rattle.tree.specs.Answered.{number_of}
use Rattle.tree.specs.Record.{path_at, no_rows, legal}
use Rattle.paths.specs.Answers.{lookup}
use Rattle.bridge.specs.Rows.{tree_of_rows}

-- what the lookup of line L finds: nothing in a record that is no tree
unfoldable pub line_found : List ℕ → ℕ → Option ℕ
line_found rows L = if legal rows then lookup (path_at rows L) else None

-- line L is open in a record that is a tree
pub record OpenIn (rows : List ℕ) (L : ℕ) : Type 0 where
  pub is_legal : legal rows ≡ true
  pub has_all : length rows ≡ 1408
  pub has_rows : no_rows (path_at rows L) ≡ false

-- (Refusals, 1, 4) line L, where it is open, else the number with which close, show and turns are refused
unfoldable pub LookedUp : List ℕ → ℕ → Result Line Refusal → Type 0
LookedUp rows L found =
    MatchResult found (λ line. (line.number ≡ L) × OpenIn rows L) (λ r. line_refusal L (tree_of_rows rows) ≡ Some (number_of r))
