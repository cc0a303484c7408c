-- What the code's answers say in the papers' terms: the number of each refusal, and the outcome of a call.
-- Assumes nothing.
use Rattle.std.specs.Prelude.{ℕ, ◌≡◌, true, false, Option, None, Some, Result, Ok, Err, MatchResult}
use Rattle.tree.specs.declared.line.Line.{Line}
use Rattle.tree.specs.declared.refusal.Refusal.{Refusal}
use Rattle.tree.specs.declared.refusal.Refusal.TheVariants as refusal
use Rattle.tree.specs.Refusals.{line_above_63}
use Rattle.tree.specs.Calls.{Outcome, gives, refuses}

-- (Refusals, 1 to 9; Ask 7, 4, 5; Ask 9, 7; Ask 10, 6)
unfoldable pub number_of : Refusal → ℕ
number_of refusal.LineAbove63 = 1
number_of refusal.PeriodOutOfRange = 2
number_of refusal.LineOpen = 3
number_of refusal.LineNotOpen = 4
number_of refusal.NoRoom = 5
number_of refusal.NoOrder = 6
number_of refusal.ListLength = 7
number_of refusal.BufferTooShort = 8
number_of refusal.WalkerAtEnd = 9
number_of refusal.NoNode = 10
number_of refusal.NoClass = 11
number_of refusal.NoLineInClass = 12
number_of refusal.ImageLength = 13
number_of refusal.ImageField = 14
number_of refusal.OpenInBoth = 15
number_of refusal.DoubledPeriodOutOfRange = 16

-- what a call gave, in the terms of what it was asked for, or the number with which it was refused
unfoldable pub outcome_of : {A B : Type 0} → (A → B) → Result A Refusal → Outcome B
outcome_of told (Ok a) = gives (told a)
outcome_of told (Err r) = refuses (number_of r)

-- the number with which a call was refused, if it was
unfoldable pub refusal_in : {A : Type 0} → Result A Refusal → Option ℕ
refusal_in (Ok a) = None
refusal_in (Err r) = Some (number_of r)

-- a line, as the rules name it
abbrev pub line_number : Line → ℕ
line_number line = line.number

-- (Refusals, 1) A number is a line's, or it is above 63.
unfoldable pub LineOrRefusal : ℕ → Result Line Refusal → Type 0
LineOrRefusal n r =
    MatchResult r (λ line. (line.number ≡ n) × (line_above_63 n ≡ false)) (λ e. (e ≡ refusal.LineAbove63) × (line_above_63 n ≡ true))
