-- The last word of the line of an order (specs/Writing.antt), for each way that it can be.
-- Assumes nothing.
use Prim.Native.Nat.{ℕ}
use mathlib.Core.Path.{◌≡◌}
use mathlib.Core.List.{[], ◌∷◌}
use borrow.Author.Tests.{eq-eqb, ne_eqb}
use Rattle.book_text.specs.BookText.{decimal}
use Rattle.book_text.specs.Writing.{start_printed}

module _ (kind result start : ℕ) where
  pub start_of_opened : kind ≡ 0 → result ≡ 0 → start_printed kind result start ≡ decimal start
  unfolding start_printed
  start_of_opened opens done = rw (eq-eqb kind 0 opens, eq-eqb result 0 done)

  pub start_of_other_kind : (kind ≡ 0 → ⊥) → start_printed kind result start ≡ 0x2d ∷ []
  unfolding start_printed
  start_of_other_kind closes = rw (ne_eqb kind 0 closes)

  pub start_of_refused : kind ≡ 0 → (result ≡ 0 → ⊥) → start_printed kind result start ≡ 0x2d ∷ []
  unfolding start_printed
  start_of_refused opens refused = rw (eq-eqb kind 0 opens, ne_eqb result 0 refused)
