-- What the parts of writing promise (src/write.rt): which bits each writes, and what it asks of the buffer; and how long the image is.
-- Assumes nothing.
use Rattle.std.specs.Prelude.{ℕ, ◌+◌, ◌*◌, ◌≤◌, ◌≡◌, List, [], ◌∷◌, length}
use Rattle.tree.specs.declared.Row.{Row}
use Rattle.tree.specs.Image.{PlanLine, image_bits}
use Rattle.images.specs.Added.{Adds}
use Rattle.images.specs.Parts.{most_bits}
use Rattle.images.specs.declared.write.Size.{Size}

-- the line with this number and path, where it is open
unfoldable pub line_if_open : ℕ → List Row → List PlanLine
line_if_open L [] = []
line_if_open L (r ∷ rs) = record { number = L; path = r ∷ rs } ∷ []

-- There is room for the bits behind the first `at` in a buffer of so many bytes. They end within the bits of an image, so that no place is too large a number.
pub record Room (at : ℕ) (bits : List ℕ) (room : ℕ) : Type 0 where
  pub in_buffer : at + length bits ≤ 8 * room
  pub in_image : at + length bits ≤ most_bits

-- The bits were written behind the first `at`, and `next` is the place behind them.
pub record BitsWritten (at : ℕ) (bits old new : List ℕ) (next : ℕ) : Type 0 where
  pub added : Adds at bits old new
  pub next_is : next ≡ at + length bits

-- the lines, and the bits of their image, were counted
pub record Counted (xs : List PlanLine) (size : Size) : Type 0 where
  pub lines_are : size.lines ≡ length xs
  pub bits_are : size.bits ≡ length (image_bits xs)
