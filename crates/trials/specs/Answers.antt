-- What a trial told, in the rules' terms.
-- Assumes nothing.
use Rattle.tree.specs.Trial.{Trial}
use Rattle.trials.specs.declared.Trial.{Trial as Told}

abbrev pub trial_told : Told → Trial
trial_told t = record { start = t.start.0; added = t.added; split = t.split }
