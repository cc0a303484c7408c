-- Asking the plan (document 01, Asking the plan; turns by document 02, Ask 1, and the rest by Ask 4).
-- Assumes nothing.
use Rattle.std.specs.Prelude.{ℕ, ◌+◌, ◌*◌, ◌/◌, ◌%◌, ◌<◌, ◌≡◌, Bool, true, false, List, [], ◌∷◌, ◌++◌, eqb, take, replicate, if◌then◌else◌, Option, None, Some, unwrap_or}
use Rattle.tree.specs.declared.Row.{Row}
use Rattle.tree.specs.Search.{found, smallest, count_below}
use Rattle.tree.specs.Tree.{Tree, nothing, line, node, present, row, path_of, period_of, start_of, Place, way}

-- (Asking the plan, 1, 2) Owner: at a node of weight w the round selects edge t mod w, and t div w goes on below it. No line found is idle.
unfoldable pub owner : ℕ → Tree → Option ℕ
owner t nothing = None
owner t (line n) = Some n
owner t (node w f) = owner (t / w) (f (t % w))

-- (Asking the plan, 1) The rows of that walk: the weight of each node passed, and the edge selected there.
unfoldable pub walked : ℕ → Tree → List Row
walked t nothing = []
walked t (line n) = []
walked t (node w f) = row w (t % w) ∷ walked (t / w) (f (t % w))

-- The walk for round n passes the node of weight w at place a and takes edge e there: its rows begin with those above the node and then that edge's.
unfoldable pub TakesEdge : Place → ℕ → ℕ → ℕ → Tree → Type 0
TakesEdge a w e n t = (below : List Row) × (walked n t ≡ way a t ++ (row w e ∷ below))

-- (The tree, 12) Edge e of a node of step m, weight w and offset r leads to round t.
unfoldable pub LeadsTo : ℕ → ℕ → ℕ → ℕ → ℕ → Type 0
LeadsTo m w r e t = t % (m * w) ≡ r + e * m

-- (Asking the plan, 3) A path as 11 rows, unused ones 0 and 0.
unfoldable pub rows_11 : List Row → List Row
rows_11 rs = take 11 (rs ++ replicate 11 (row 0 0))

-- (Asking the plan, 3) What show answers of a line.
pub record Shown : Type 0 where
  pub period : ℕ
  pub start : ℕ
  pub rows : List Row

unfoldable pub shown : ℕ → Tree → Shown
shown L t = record { period = period_of L t; start = start_of L t; rows = rows_11 (path_of L t) }

-- the line found is L
unfoldable pub is_line : ℕ → Option ℕ → Bool
is_line L None = false
is_line L (Some M) = eqb M L

-- (Ask 1, 2) Line L owns round n: it is the line that the walk for the round finds.
unfoldable pub owns : ℕ → ℕ → Tree → Bool
owns L n t = is_line L (owner n t)

-- (Ask 1, 2, 3) Turns: how many rounds line L owns among N that begin with a. They are whole numbers, so that none is too large.
unfoldable pub turns : ℕ → ℕ → ℕ → Tree → ℕ
turns L a N t = count_below N (λ i. owns L (a + i) t)

-- (Ask 4, 2) Round n has an owner.
unfoldable pub owned : ℕ → Tree → Bool
owned n t = found (owner n t)

-- (Ask 4, 2, 3) The rest of round n, how many rounds lie from it to the next owned one: 0 in the empty plan, else the smallest g for which round n + g has
-- an owner. Rounds are whole numbers, so that none is too large. A plan with a line has such a g below the longest period (`rest_is_rest`, `rest_at_most`).
-- Of an owned round it is 0, which is answered to nobody.
unfoldable pub rest : ℕ → Tree → ℕ
rest n t = if present t then unwrap_or (smallest 4095 (λ g. owned (n + g) t)) 0 else 0

-- (Ask 4, 2, 3) What the rest g of round n has to be, over every whole number.
pub record IsRest (n : ℕ) (t : Tree) (g : ℕ) : Type 0 where
  -- 0 in the empty plan
  pub empty_plan : present t ≡ false → g ≡ 0
  -- in every other the round after so many has an owner, and no round before that one
  pub next_owned : present t ≡ true → owned (n + g) t ≡ true
  pub none_before : (k : ℕ) → k < g → owned (n + k) t ≡ false

-- (Asking the plan, 1; Ask 4, 2) What owner answers of a round: the line that owns it, or that it is idle, with its rest.
pub data OwnerOrRest : Type 0 where
  owned_by : ℕ → OwnerOrRest
  idle_for : ℕ → OwnerOrRest

unfoldable pub or_rest : Option ℕ → ℕ → OwnerOrRest
or_rest (Some L) g = owned_by L
or_rest None g = idle_for g

unfoldable pub owner_or_rest : ℕ → Tree → OwnerOrRest
owner_or_rest n t = or_rest (owner n t) (rest n t)
