-- The loop over the orders. Its invariant (`Running`): what is left of the list, run on the rows as they are, completes what the whole list gives on the rows as they were.
-- Assumes nothing.
use Prim.Native.Nat.{ℕ, zero, suc, ◌+◌, ◌*◌, ◌<◌, ◌≤◌}
use native.Mathlib.Omega.{arith}
use mathlib.Core.Path.{◌≡◌, refl, sym, ◌∙◌, ap, ap₂}
use mathlib.Core.Bool.{Bool, true, false, ◌||◌, or-false, or_assoc}
use mathlib.Core.List.{List, [], ◌∷◌, ◌++◌, append_assoc}
use lib.ListN.{length, get_or, take, drop, take-append-drop, drop_of_length-le}
use lib.Seq.{drop-cons, drop-drop}
use Rattle.std.specs.Simd.{first_chunks}
use Rattle.std.proofs.lemmas.List.{take_at, drop_at, length-append, length-take-le}
use Rattle.tree.specs.Tree.{Tree}
use Rattle.tree.specs.Calls.{Answer}
use Rattle.tree.specs.Record.{legal}
use Rattle.bridge.specs.Rows.{tree_of_rows}
use Rattle.orders.specs.declared.Bytes.{Bytes}
use Rattle.orders.specs.Order.{order_of}
use Rattle.lists.specs.Lists.{order_after, orders_of, order_answer, list_answers, list_after, high_byte, low_byte, answer_bytes, carried, some_carried}
use Rattle.lists.specs.Runs.{OrderRan, bytes_after, OrdersRan}

-- The orders of a list

-- order k of the bytes
abbrev order_at : List ℕ → ℕ → ℕ
order_at bytes k = order_of (record { 0 = get_or bytes (3 * k) 0; 1 = get_or bytes (3 * k + 1) 0; 2 = get_or bytes (3 * k + 2) 0 })

-- the orders from k on
abbrev orders_from : List ℕ → ℕ → List ℕ
orders_from bytes k = orders_of (drop (3 * k) bytes)

-- the next order is that of the next three bytes
next_three : (bytes : List ℕ) (k : ℕ) (b : Bytes) → take 3 (drop (3 * k) bytes) ≡ b.0 ∷ b.1 ∷ b.2 ∷ [] → orders_from bytes k ≡ order_of b ∷ orders_from bytes (k + 1)
unfolding orders_of
next_three bytes k b taken =
    ap orders_of
    (sym (take-append-drop 3 (drop (3 * k) bytes)) ∙ ap₂ ◌++◌ taken (drop-drop 3 (3 * k) bytes ∙ ap (λ (n : ℕ). drop n bytes) on))
  where
    on : 3 * k + 3 ≡ 3 * (k + 1)
    on = omega arith

three_bytes : (bytes : List ℕ) (i : ℕ) → i + 2 < length bytes → drop i bytes ≡ get_or bytes i 0 ∷ get_or bytes (i + 1) 0 ∷ get_or bytes (i + 2) 0 ∷ drop (i + 3) bytes
three_bytes bytes i below =
    drop-cons bytes i 0 (omega arith)
    ∙ ap (◌∷◌ (get_or bytes i 0)) (ap (λ (n : ℕ). drop n bytes) (second) ∙ drop-cons bytes (i + 1) 0 (omega arith)
    ∙ ap (◌∷◌ (get_or bytes (i + 1) 0)) (ap (λ (n : ℕ). drop n bytes) third ∙ drop-cons bytes (i + 2) 0 below
    ∙ ap (λ (n : ℕ). get_or bytes (i + 2) 0 ∷ drop n bytes) fourth))
  where
    second : suc i ≡ i + 1
    second = omega arith

    third : suc (i + 1) ≡ i + 2
    third = omega arith

    fourth : suc (i + 2) ≡ i + 3
    fourth = omega arith

pub next_order : (bytes : List ℕ) (k : ℕ) → 3 * k + 2 < length bytes → orders_from bytes k ≡ order_at bytes k ∷ orders_from bytes (k + 1)
next_order bytes k below = next_three bytes k _ (ap (take 3) (three_bytes bytes (3 * k) below))

-- as many orders as three bytes go into the list
pub orders_counted : (count : ℕ) (bytes : List ℕ) → length bytes ≡ 3 * count → length (orders_of bytes) ≡ count
unfolding orders_of
orders_counted zero [] threes = refl
orders_counted (suc count) [] threes = absurd (omega arith)
orders_counted zero (a ∷ bytes) threes = absurd (omega arith)
orders_counted (suc count) (a ∷ []) threes = absurd (omega arith)
orders_counted (suc count) (a ∷ b ∷ []) threes = absurd (omega arith)
orders_counted (suc count) (a ∷ b ∷ c ∷ bytes) threes = ap suc (orders_counted count bytes (omega arith))

-- array k of the bytes taken three by three
three_taken : (count k : ℕ) (bytes : List ℕ) → k < count → get_or (first_chunks 3 count bytes) k [] ≡ take 3 (drop (3 * k) bytes)
three_taken zero k bytes below = absurd (omega arith)
three_taken (suc count) zero bytes below = refl
three_taken (suc count) (suc k) bytes below =
    three_taken count k (drop 3 bytes) (omega arith) ∙ ap (take 3) (drop-drop (3 * k) 3 bytes ∙ ap (λ (n : ℕ). drop n bytes) on)
  where
    on : 3 + 3 * k ≡ 3 * suc k
    on = omega arith

-- the next order is that of the next array of three
pub next_taken : (bytes : List ℕ) (count k : ℕ) (threes : List (List ℕ)) (b : Bytes) → threes ≡ first_chunks 3 count bytes → k < count → get_or threes k [] ≡ b.0 ∷ b.1 ∷ b.2 ∷ []
    → orders_from bytes k ≡ order_of b ∷ orders_from bytes (k + 1)
next_taken bytes count k threes b taken below three =
    next_three bytes k b (sym (ap (λ (xs : List (List ℕ)). get_or xs k []) taken ∙ three_taken count k bytes below) ∙ three)

-- The loop

-- an order's answer takes the first two of the lent bytes
bytes_of_first : (t : Tree) (n : ℕ) (ns lent : List ℕ) → bytes_after t (n ∷ ns) lent ≡ high_byte (order_answer n t) ∷ low_byte (order_answer n t) ∷ bytes_after (order_after n t) ns (drop 2 lent)
unfolding bytes_after list_answers answer_bytes
bytes_of_first t n ns lent =
    ap (λ (xs : List ℕ). answer_bytes (list_answers t (n ∷ ns)) ++ xs) (ap (λ (m : ℕ). drop m lent) on ∙ sym (drop-drop (2 * length ns) 2 lent))
  where
    on : 2 * suc (length ns) ≡ 2 + 2 * length ns
    on = omega arith

pub record Running (rows₀ orders lent₀ rows lent : List ℕ) (any : Bool) (k : ℕ) : Type 0 where
  pub is_legal : legal rows ≡ true
  pub tree_same : list_after (tree_of_rows rows) (orders_from orders k) ≡ list_after (tree_of_rows rows₀) (orders_of orders)
  pub any_same : (any || some_carried (list_answers (tree_of_rows rows) (orders_from orders k))) ≡ some_carried (list_answers (tree_of_rows rows₀) (orders_of orders))
  pub bytes_same : take (2 * k) lent ++ bytes_after (tree_of_rows rows) (orders_from orders k) (drop (2 * k) lent) ≡ bytes_after (tree_of_rows rows₀) (orders_of orders) lent₀

module _ (rows₀ orders lent₀ : List ℕ) where
  pub running_none : legal rows₀ ≡ true → Running rows₀ orders lent₀ rows₀ lent₀ false 0
  running_none is_legal = record { is_legal = is_legal; tree_same = refl; any_same = refl; bytes_same = refl }

  pub running_all : (rows lent : List ℕ) (any : Bool) (k : ℕ) → Running rows₀ orders lent₀ rows lent any k → length orders ≤ 3 * k → OrdersRan (orders_of orders) rows₀ rows lent₀ lent any
  unfolding orders_of list_after list_answers some_carried answer_bytes bytes_after
  running_all rows lent any k run done =
      record {
        rows_are = record { is_legal = run.is_legal; tree_is = rw none_left at run.tree_same };
        bytes_are = sym (take-append-drop (2 * k) lent) ∙ (rw none_left at run.bytes_same);
        any_is = sym (or-false any) ∙ (rw none_left at run.any_same);
      }
    where
      none_left : orders_from orders k ≡ []
      none_left = ap orders_of (drop_of_length-le orders {i = 3 * k} done)

  pub running_more : (rows lent : List ℕ) (any : Bool) (k n : ℕ) (rows' : List ℕ) (a : Answer) → Running rows₀ orders lent₀ rows lent any k → orders_from orders k ≡ n ∷ orders_from orders (k + 1) → OrderRan n rows rows' a → 2 * k + 1 < length lent →
      Running rows₀ orders lent₀ rows' (take (2 * k) lent ++ (high_byte a ∷ low_byte a ∷ []) ++ drop (2 * k + 2) lent) (any || carried a) (k + 1)
  unfolding list_after list_answers some_carried
  running_more rows lent any k n rows' a run next ran inside =
      record {
        is_legal = ran.rows_are.is_legal;
        tree_same = rw ran.rows_are.tree_is (rw next at run.tree_same);
        any_same = rw (ran.rows_are.tree_is, ran.answer_is) (or_assoc any _ _ ∙ (rw next at run.any_same));
        bytes_same =
            rw (take_at written (drop (2 * k + 2) lent) (2 * (k + 1)) long, drop_at written (drop (2 * k + 2) lent) (2 * (k + 1)) long, ran.rows_are.tree_is, ran.answer_is)
            (append_assoc (take (2 * k) lent) _ _ ∙ (rw (next, bytes_of_first (tree_of_rows rows) n (orders_from orders (k + 1)) (drop (2 * k) lent), drop-drop 2 (2 * k) lent) at run.bytes_same));
      }
    where
      written : List ℕ
      written = take (2 * k) lent ++ (high_byte a ∷ low_byte a ∷ [])

      long : length written ≡ 2 * (k + 1)
      long = simp (length-append) (omega (arith, length-take-le (2 * k) lent (omega arith)))
