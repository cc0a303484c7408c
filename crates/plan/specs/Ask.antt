-- The rules' terms for what owner and show give.
-- Assumes nothing.
use Rattle.tree.specs.Asking.{OwnerOrRest, owned_by, idle_for, Shown}
use Rattle.plan.specs.declared.ask.OwnerAnswer.{OwnerAnswer}
use Rattle.plan.specs.declared.ask.OwnerAnswer.TheVariants.{Line, Idle}
use Rattle.plan.specs.declared.ask.Shown.{Shown as ShownLine}

-- the line that owns the round, or the rest where it is idle
unfoldable pub owner_answer : OwnerAnswer → OwnerOrRest
owner_answer (Line n) = owned_by n
owner_answer (Idle g) = idle_for g

-- the period, the start and the rows that show gave
abbrev pub shown_in : ShownLine → Shown
shown_in s = record { period = s.period.0; start = s.start.0; rows = s.rows }
