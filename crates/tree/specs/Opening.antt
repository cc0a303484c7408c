-- Opening a line (document 01, Opening a line; which candidate is chosen by document 02, Ask 6).
-- Assumes nothing.
use Rattle.std.specs.Prelude.{ℕ, zero, suc, ◌+◌, ◌*◌, ◌/◌, ◌%◌, ◌≤◌, ◌≡◌, Bool, true, false, not, ◌&&◌, eqb, ltb, if◌then◌else◌, Option, None, Some, option_map, unwrap_or}
use Rattle.tree.specs.Numbers.{divides, gcd}
use Rattle.tree.specs.Search.{found, smallest, some_below, smaller_by, smallest_by}
use Rattle.tree.specs.Tree.{Tree, nothing, line, node, present, Place, at, step}

-- Candidates

-- (Opening a line, 2) d, for a node of step m and weight w.
unfoldable pub divisor : ℕ → ℕ → ℕ → ℕ
divisor p m w = gcd w (p / m)

-- (Opening a line, 2) Class i modulo d is free: no present edge is congruent to i modulo d.
unfoldable pub free : ℕ → ℕ → (ℕ → Tree) → ℕ → Bool
free d w f i = not (some_below w (λ e. eqb (e % d) i && present (f e)))

-- (Opening a line, 5) The smallest free class of a node of step m.
unfoldable pub free_class : ℕ → ℕ → Tree → Option ℕ
free_class p m nothing = None
free_class p m (line n) = None
free_class p m (node w f) = smallest (divisor p m w) (free (divisor p m w) w f)

-- (Opening a line, 2, 3) A node of step m is a candidate for p: m divides p, and some class is free.
unfoldable pub candidate : ℕ → ℕ → Tree → Bool
candidate p m t = divides m p && found (free_class p m t)

-- the node at this place is a candidate
unfoldable pub candidate_at : ℕ → Tree → Place → Bool
candidate_at p t a = candidate p (step a t) (at a t)

-- no node is a candidate, said of every level and offset
unfoldable pub NoCandidate : ℕ → Tree → Type 0
NoCandidate p t = (a : Place) → candidate_at p t a ≡ false

-- The chosen candidate

-- (Opening a line, 5) The class taken in the node at a place.
unfoldable pub class_at : ℕ → Tree → Place → ℕ
class_at p t a = unwrap_or (free_class p (step a t) (at a t)) 0

-- (Opening a line, 8) The start r + i·m that the candidate at a place offers.
unfoldable pub start_at : ℕ → Tree → Place → ℕ
start_at p t a = a.offset + class_at p t a * step a t

-- (Ask 6, 2) The one chosen, said of every level and offset: it is a candidate, and no candidate's start would be smaller.
pub record IsChosen (p : ℕ) (t : Tree) (a : Place) : Type 0 where
  pub is_candidate : candidate_at p t a ≡ true
  pub smallest_start : (b : Place) → candidate_at p t b ≡ true → start_at p t a ≤ start_at p t b

-- a place that is counted from edge e of a node of weight w, counted from that node
unfoldable pub under : ℕ → ℕ → Place → Place
under w e a = record { level = suc a.level; offset = e + w * a.offset }

-- Of the candidates in a tree whose root has step m, the place with the smallest key. Under an edge a place is counted from there,
-- and its key is that of the place counted from the root.
unfoldable pub best : (Place → ℕ) → ℕ → ℕ → Tree → Option Place
best key p m nothing = None
best key p m (line n) = None
best key p m (node w f) =
    smaller_by key (if candidate p m (node w f) then Some (record { level = 0; offset = 0 }) else None)
    (smallest_by key w (λ e. option_map (under w e) (best (λ a. key (under w e a)) p (m * w) (f e))))

-- (Ask 6, 2) The chosen candidate, as the search finds it: of all levels, the one of smallest start. It is the one of `IsChosen`, by
-- `chosen_is_chosen`.
unfoldable pub chosen : ℕ → Tree → Option Place
chosen p t = best (start_at p t) p 1 t

-- The booking

-- the edges f with t put under edge i
unfoldable pub put : ℕ → Tree → (ℕ → Tree) → ℕ → Tree
put i t f e = if eqb e i then t else f e

-- a node with the one edge 0
unfoldable pub one_edge : ℕ → Tree → Tree
one_edge w t = node w (put 0 t (λ e. nothing))

-- (Opening a line, 6) What a split puts under edge k: a node of weight w/d with the old edges that leave k modulo d, edge e at e div d; nothing where there are none.
unfoldable pub group : ℕ → ℕ → (ℕ → Tree) → ℕ → Tree
group d w f k = if free d w f k then nothing else node (w / d) (λ j. f (k + d * j))

-- (Opening a line, 6) The edges of the node, split where d < w.
unfoldable pub split : ℕ → ℕ → (ℕ → Tree) → ℕ → Tree
split d w f = if ltb d w then group d w f else f

-- (Opening a line, 7) What the class's edge leads to: the line, or a node of weight q with the line under its edge 0.
unfoldable pub newcomer : ℕ → ℕ → Tree
newcomer L q = if eqb q 1 then line L else one_edge q (line L)

-- (Opening a line, 6, 7) A node of step m and weight w, line L of period p booked into its class i.
unfoldable pub booking : ℕ → ℕ → ℕ → ℕ → (ℕ → Tree) → ℕ → Tree
booking L p m w f i =
    let d = divisor p m w in
    node d (put i (newcomer L (p / (m * d))) (split d w f))

-- the booking into class i of the node at a level and an offset, in a tree whose root has step m
unfoldable pub book_by_digits : ℕ → ℕ → ℕ → ℕ → ℕ → ℕ → Tree → Tree
book_by_digits L p i m l r nothing = nothing
book_by_digits L p i m l r (line n) = line n
book_by_digits L p i m zero r (node w f) = booking L p m w f i
book_by_digits L p i m (suc l) r (node w f) =
    node w (put (r % w) (book_by_digits L p i (m * w) l (r / w) (f (r % w))) f)

-- the tree with the line booked into the chosen candidate
unfoldable pub book_into : ℕ → ℕ → Tree → Option Place → Tree
book_into L p t None = t
book_into L p t (Some a) = book_by_digits L p (class_at p t a) 1 a.level a.offset t

-- (Opening a line, 1, 6, 7) The opened tree: the empty plan gets a root of weight p with the line under edge 0, any other the booking.
unfoldable pub opened : ℕ → ℕ → Tree → Tree
opened L p t = if present t then book_into L p t (chosen p t) else one_edge p (line L)

-- (Opening a line, 8) The start in the chosen candidate. Where there is none the open is refused with 5, and the 0 is answered to nobody.
unfoldable pub start_in : ℕ → Tree → Option Place → ℕ
start_in p t None = 0
start_in p t (Some a) = start_at p t a

-- (Opening a line, 1, 8) The start answered: 0 in the empty plan, in any other that of the chosen candidate.
unfoldable pub start_given : ℕ → Tree → ℕ
start_given p t = if present t then start_in p t (chosen p t) else 0
