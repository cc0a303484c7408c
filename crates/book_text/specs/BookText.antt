-- The text that the program `book` prints for the bytes of its input (document 01, Orders, 7 and 8). Its bytes are ASCII.
-- Assumes nothing.
use Rattle.std.specs.Prelude.{ℕ, zero, suc, ◌+◌, ◌/◌, ◌%◌, List, [], ◌∷◌, ◌++◌, ltb, length, if◌then◌else◌}
use Prim.Native.Char.{code}
use Rattle.tree.specs.Tree.{nothing}
use Rattle.tree.specs.Calls.{Answer, booked, done, refused}
use Rattle.orders.specs.Order.{kind, line, period}
use Rattle.lists.specs.Lists.{orders_of, list_answers, result_field, length_refused}
use Rattle.book_text.specs.Ascii.{ascii}

-- Words and lines

-- the decimal digits of a number, the last ones where it has more than so many
unfoldable pub last_digits : ℕ → ℕ → List ℕ
last_digits zero n = []
last_digits (suc k) n =
    if ltb n 10 then ((code "0" + n) ∷ []) else (last_digits k (n / 10) ++ ((code "0" + n % 10) ∷ []))

-- the decimal digits of a number, without zeros in front: a number n has at most n + 1 of them
unfoldable pub decimal : ℕ → List ℕ
decimal n = last_digits (suc n) n

-- a word, and the space after it
abbrev pub spaced : List ℕ → List ℕ
spaced word = word ++ (code " " ∷ [])

-- words parted by one space, and a line feed
unfoldable pub text_line : List (List ℕ) → List ℕ
text_line [] = code "\n" ∷ []
text_line (w ∷ []) = w ++ (code "\n" ∷ [])
text_line (w ∷ v ∷ words) = spaced w ++ text_line (v ∷ words)

-- The lines of book

-- (Orders, 7)
unfoldable pub header : List ℕ
header = ascii "order kind line period result start\n"

-- (Orders, 8)
unfoldable pub list_line : List ℕ
list_line = ascii "list 7\n"

-- (Orders, 7) the start where a line was opened, or `-`
unfoldable pub start_word : Answer → List ℕ
start_word (booked s) = decimal s
start_word done = code "-" ∷ []
start_word (refused n) = code "-" ∷ []

-- (Orders, 7) An order's number, its kind, line and period as the bits say, and what it answered.
unfoldable pub order_line : ℕ → ℕ → Answer → List ℕ
order_line number n a =
    text_line (decimal number ∷ decimal (kind n) ∷ decimal (line n) ∷ decimal (period n) ∷ decimal (result_field a) ∷ start_word a ∷ [])

-- (Orders, 7) a line for each order with its answer; the first has this number
unfoldable pub order_lines : ℕ → List ℕ → List Answer → List ℕ
order_lines number (n ∷ ns) (a ∷ answers) = order_line number n a ++ order_lines (suc number) ns answers
order_lines number [] answers = []
order_lines number (n ∷ ns) [] = []

-- (Orders, 7, 8) What `book` prints for its input, run on an empty plan. A list can only be refused with 7, since there is room for its answers.
unfoldable pub book_text : List ℕ → List ℕ
book_text input =
    header ++ (if length_refused (length input) then list_line else order_lines 1 (orders_of input) (list_answers nothing (orders_of input)))
