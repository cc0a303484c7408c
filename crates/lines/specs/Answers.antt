-- Document 01's answer for each case of what open and close give.
-- Assumes nothing.
use Rattle.std.specs.Prelude.{Result, Ok, Err}
use Rattle.tree.specs.declared.Start.{Start}
use Rattle.tree.specs.declared.refusal.Refusal.{Refusal}
use Rattle.tree.specs.Calls.{Answer, booked, done, refused}
use Rattle.tree.specs.Answered.{number_of}

unfoldable pub open_answer : Result Start Refusal → Answer
open_answer (Ok s) = booked s.0
open_answer (Err r) = refused (number_of r)

unfoldable pub close_answer : Result Unit Refusal → Answer
close_answer (Ok u) = done
close_answer (Err r) = refused (number_of r)
