-- A list of orders run on a tree (document 01, Orders, and Who brings a refusal about).
-- Assumes nothing.
use Rattle.std.specs.Prelude.{ℕ, ◌*◌, ◌/◌, ◌%◌, Bool, true, false, not, ◌||◌, List, [], ◌∷◌, eqb, ltb, Option}
use Rattle.tree.specs.Tree.{Tree}
use Rattle.tree.specs.Refusals.{refuse, first_refusal}
use Rattle.tree.specs.Calls.{Call, Answer, booked, done, refused, Outcome, gives, refuses, answer, after}
use Rattle.bits.specs.Field.{field, joined}
use Rattle.orders.specs.Order.{order_of}
use Rattle.orders.specs.Reading.{reading}

-- One order

-- (Refusals, sequence) Running an order in a list: 6, then as open or close.
unfoldable pub answer_read : Outcome Call → Tree → Answer
answer_read (gives c) t = answer c t
answer_read (refuses n) t = refused n

unfoldable pub after_read : Outcome Call → Tree → Tree
after_read (gives c) t = after c t
after_read (refuses n) t = t

-- what an order answers on a tree
unfoldable pub order_answer : ℕ → Tree → Answer
order_answer n t = answer_read (reading n) t

-- (Orders, 5) The tree after the order. One that is refused leaves it as it was.
unfoldable pub order_after : ℕ → Tree → Tree
order_after n t = after_read (reading n) t

-- whether it was carried out
unfoldable pub carried : Answer → Bool
carried (booked s) = true
carried done = true
carried (refused n) = false

-- The orders in turn

-- (Orders, 1) the orders of a list of bytes, three bytes each
unfoldable pub orders_of : List ℕ → List ℕ
orders_of [] = []
orders_of (a ∷ []) = []
orders_of (a ∷ b ∷ []) = []
orders_of (a ∷ b ∷ c ∷ bytes) = order_of (record { 0 = a; 1 = b; 2 = c }) ∷ orders_of bytes

-- (Orders, 4, 5) What the orders answer, each on the tree that the one before it left. After a refused one the list goes on.
unfoldable pub list_answers : Tree → List ℕ → List Answer
list_answers t [] = []
list_answers t (n ∷ ns) = order_answer n t ∷ list_answers (order_after n t) ns

-- (Orders, 4, 5) The tree that the list leaves.
unfoldable pub list_after : Tree → List ℕ → Tree
list_after t [] = t
list_after t (n ∷ ns) = list_after (order_after n t) ns

-- The answer bytes

-- (Orders, 4) 0 or the refusal
unfoldable pub result_field : Answer → ℕ
result_field (booked s) = 0
result_field done = 0
result_field (refused n) = n

-- (Orders, 4) 0 unless a line was opened
unfoldable pub start : Answer → ℕ
start (booked s) = s
start done = 0
start (refused n) = 0

-- (Orders, 4) result 4 bits, then start 12 bits
unfoldable pub answer_word : Answer → ℕ
answer_word a = joined 12 (result_field a) (start a)

-- (Orders, 4) its two bytes, the first one highest
unfoldable pub high_byte : Answer → ℕ
high_byte a = field 8 8 (answer_word a)

unfoldable pub low_byte : Answer → ℕ
low_byte a = field 8 0 (answer_word a)

-- (Orders, 4) two bytes for each order
unfoldable pub answer_bytes : List Answer → List ℕ
answer_bytes [] = []
answer_bytes (a ∷ answers) = high_byte a ∷ low_byte a ∷ answer_bytes answers

-- whether any order was carried out
unfoldable pub some_carried : List Answer → Bool
some_carried [] = false
some_carried (a ∷ answers) = carried a || some_carried answers

-- The list's own checks, on the number of its bytes and of those lent for the answers

-- (Refusals, 7) length not a multiple of 3, or above 65,535
unfoldable pub length_refused : ℕ → Bool
length_refused n = not (eqb (n % 3) 0) || ltb 65535 n

-- (Refusals, 8) shorter than 2 bytes per order
unfoldable pub room_refused : ℕ → ℕ → Bool
room_refused n room = ltb room (2 * (n / 3))

-- (Refusals, sequence) List: 7, 8.
unfoldable pub list_refusal : ℕ → ℕ → Option ℕ
list_refusal n room = first_refusal (refuse 7 (length_refused n) ∷ refuse 8 (room_refused n room) ∷ [])
