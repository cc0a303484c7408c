-- What the parts of reading and writing promise: the code's terms for those of crate tree (specs/ImageReading.antt), and the record into which lines are read.
-- Assumes nothing.
use Rattle.std.specs.Prelude.{ℕ, ◌+◌, ◌*◌, ◌≡◌, List, [], ◌∷◌, Result, MatchResult}
use Rattle.tree.specs.declared.Row.{Row}
use Rattle.tree.specs.declared.refusal.Refusal.{Refusal}
use Rattle.tree.specs.Calls.{Outcome, gives, refuses}
use Rattle.tree.specs.Answered.{number_of}
use Rattle.tree.specs.Image.{PlanLine}
use Rattle.tree.specs.ImageReading.{Part, read_path, read_line, rising}
use Rattle.paths.specs.Rules.{set_line}
use Rattle.images.specs.declared.part.Part.{Part as PartRead}
use Rattle.images.specs.declared.read.LinesRead.{LinesRead}

-- no line has more bits: 10, and 11 rows of 24 each
abbrev pub most_line_bits : ℕ
most_line_bits = 10 + 11 * 24

-- No image has more bits: 7, and 64 such lines. Reading goes no further, so that no place is too large a number.
abbrev pub most_bits : ℕ
most_bits = 7 + 64 * most_line_bits

-- a part as the code gives it
unfoldable pub part_told : {A : Type 0} → PartRead A → Part A
part_told p = record { value = p.value; next = p.next }

-- a record with lines put in, each in the place of what its rows were
unfoldable pub rows_with : List PlanLine → List ℕ → List ℕ
rows_with [] rows = rows
rows_with (x ∷ xs) rows = rows_with xs (set_line rows x.number x.path)

-- a path was read, into line L's rows
pub record PathGiven (outcome : Outcome (Part (List Row))) (L : ℕ) (before after : List ℕ) (next : ℕ) : Type 0 where
  pub path : List Row
  pub given : outcome ≡ gives (record { value = path; next = next })
  pub rows_are : after ≡ set_line before L path

-- a path of so many rows was read, or was refused
unfoldable pub PathRead : ℕ → List ℕ → ℕ → ℕ → List ℕ → List ℕ → Result ℕ Refusal → Type 0
PathRead count bits at L before after a =
    MatchResult a (PathGiven (read_path count bits at) L before after) (λ r. read_path count bits at ≡ refuses (number_of r))

-- a line was read, into its rows
pub record LineGiven (outcome : Outcome (Part PlanLine)) (before after : List ℕ) (part : PartRead ℕ) : Type 0 where
  pub path : List Row
  pub given : outcome ≡ gives (record { value = record { number = part.value; path = path }; next = part.next })
  pub rows_are : after ≡ set_line before part.value path

-- a line was read, or was refused
unfoldable pub LineRead : List ℕ → ℕ → List ℕ → List ℕ → Result (PartRead ℕ) Refusal → Type 0
LineRead bits at before after a = MatchResult a (LineGiven (read_line bits at) before after) (λ r. read_line bits at ≡ refuses (number_of r))

-- lines were read, each into its rows
pub record LinesGiven (outcome : Outcome (Part (List PlanLine))) (before after : List ℕ) (told : LinesRead) : Type 0 where
  pub lines : List PlanLine
  pub given : outcome ≡ gives (record { value = lines; next = told.next })
  pub rising_is : told.rising ≡ rising 0 lines
  pub rows_are : after ≡ rows_with lines before

-- lines were read, or were refused
unfoldable pub LinesIn : Outcome (Part (List PlanLine)) → List ℕ → List ℕ → Result LinesRead Refusal → Type 0
LinesIn outcome before after a = MatchResult a (LinesGiven outcome before after) (λ r. outcome ≡ refuses (number_of r))
