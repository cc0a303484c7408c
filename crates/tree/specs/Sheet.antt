-- The beamtime sheet (document 02, Ask 5): whose the N rounds are that begin with a. They are whole numbers, so that none is too large.
-- Assumes nothing.
use Rattle.std.specs.Prelude.{ℕ, ◌+◌, not, get_or, if◌then◌else◌}
use Rattle.tree.specs.declared.Sheet.{Sheet}
use Rattle.tree.specs.Search.{each_below, total_below, count_below}
use Rattle.tree.specs.Tree.{Tree, is_open}
use Rattle.tree.specs.Asking.{turns, owned}

-- (Ask 5, 1) The turns of line L, by Ask 1; 0 for a closed line.
unfoldable pub line_turns : ℕ → ℕ → ℕ → Tree → ℕ
line_turns L a N t = if is_open L t then turns L a N t else 0

-- (Ask 5, 1) The idle rounds: how many i below N there are for which the walk for round a + i finds no line.
unfoldable pub idle_rounds : ℕ → ℕ → Tree → ℕ
idle_rounds a N t = count_below N (λ i. not (owned (a + i) t))

-- (Ask 5, 1) What the sheet lists: the turns of the lines 0 to 63, and the idle rounds.
unfoldable pub sheet : ℕ → ℕ → Tree → Sheet
sheet a N t = record { turns = each_below 64 (λ L. line_turns L a N t); idle = idle_rounds a N t }

-- the turns of line L on a sheet
unfoldable pub turns_on : Sheet → ℕ → ℕ
turns_on s L = get_or s.turns L 0

-- (Ask 5, 2, 3) What users get who add the columns: the turns over all lines plus the idle rounds. Closed lines add nothing.
unfoldable pub sheet_total : Sheet → ℕ
sheet_total s = total_below 64 (turns_on s) + s.idle
