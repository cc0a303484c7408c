-- Which lines an image can hold: their numbers fit the fields. A line's rows in the record can hold them too.
-- Assumes nothing.
use Prim.Native.Nat.{◌<◌, ◌≤◌}
use mathlib.Core.List.{List, [], ◌∷◌}
use Rattle.std.specs.List.{All}
use Rattle.std.proofs.lemmas.List.Elements.{All-head, All-tail}
use lib.ListN.{length}
use Rattle.tree.specs.declared.Row.{Row}
use Rattle.tree.specs.Image.{PlanLine}
use Rattle.bridge.proofs.WrittenPaths.{Weighted, Written}

pub record RowFits (r : Row) : Type 0 where
  pub some_weight : 0 < r.weight
  pub weight_at_most : r.weight ≤ 4095
  pub edge_at_most : r.edge ≤ 4095

abbrev pub RowsFit : List Row → Type 0
RowsFit rs = All RowFits rs

pub record LineFits (x : PlanLine) : Type 0 where
  pub number_below : x.number < 64
  pub some_rows : 0 < length x.path
  pub at_most_11 : length x.path ≤ 11
  pub rows_fit : RowsFit x.path

abbrev pub AllFit : List PlanLine → Type 0
AllFit xs = All LineFits xs

-- The path of such a line

rows_weighted : (rs : List Row) → RowsFit rs → Weighted rs
unfolding Weighted
rows_weighted [] fit = tt
rows_weighted (r ∷ rs) fit = ((All-head RowFits r rs fit).some_weight, rows_weighted rs (All-tail RowFits r rs fit))

pub path_written : (x : PlanLine) → LineFits x → Written x.path
path_written x fits = record { at_most_11 = fits.at_most_11; weighted = rows_weighted x.path fits.rows_fit }
