-- Reading an image (document 02, Ask 9): field by field, then what stands behind the last field, then whether the lines make a legal tree.
-- Assumes nothing.
use Rattle.std.specs.Prelude.{ℕ, zero, suc, ◌+◌, ◌*◌, ◌-◌, Bool, true, not, ◌&&◌, ◌||◌, List, [], ◌∷◌, ◌++◌, eqb, ltb, leb, length, Option}
use Rattle.tree.specs.declared.Row.{Row}
use Rattle.tree.specs.Tree.{Tree, nothing, row}
use Rattle.tree.specs.Refusals.{refuse, first_refusal}
use Rattle.tree.specs.Calls.{Outcome, gives, refuses, gives_unless}
use Rattle.tree.specs.Record.{path_in_range, parts, stand}
use Rattle.tree.specs.Bits.{number_at, bytes_for, bits_of}
use Rattle.tree.specs.Image.{PlanLine}

-- Field by field

-- what a part of an image gives: its value, and the place of the bit behind it
pub record Part (A : Type 0) : Type 0 where
  pub value : A
  pub next : ℕ

-- reading goes on behind a part, unless that was refused
unfoldable pub and_then : {A B : Type 0} → Outcome A → (A → Outcome B) → Outcome B
and_then (gives a) go = go a
and_then (refuses n) go = refuses n

-- (Ask 9, 7) The field of so many bits at a place: refused with 13 where bits of it are missing, then with 14 where its number is below
-- `least` or above `most`.
unfoldable pub read_field : ℕ → ℕ → ℕ → List ℕ → ℕ → Outcome (Part ℕ)
read_field width least most bits at =
    let n = number_at width at bits in
    gives_unless
    (first_refusal (refuse 13 (ltb (length bits) (at + width)) ∷ refuse 14 (ltb n least || ltb most n) ∷ []))
    (record { value = n; next = at + width })

-- (Ask 9, 2, 8) A row: a weight that is not 0, and an edge.
unfoldable pub read_row : List ℕ → ℕ → Outcome (Part Row)
read_row bits at =
    and_then (read_field 12 1 4095 bits at) (λ w.
    and_then (read_field 12 0 4095 bits w.next) (λ e.
    gives (record { value = row w.value e.value; next = e.next })))

-- so many rows, one behind the other
unfoldable pub read_path : ℕ → List ℕ → ℕ → Outcome (Part (List Row))
read_path zero bits at = gives (record { value = []; next = at })
read_path (suc n) bits at =
    and_then (read_path n bits at) (λ above.
    and_then (read_row bits above.next) (λ r.
    gives (record { value = above.value ++ (r.value ∷ []); next = r.next })))

-- (Ask 9, 2, 8) A line: its number, the length of its path, which is 1 to 11, and the path.
unfoldable pub read_line : List ℕ → ℕ → Outcome (Part PlanLine)
read_line bits at =
    and_then (read_field 6 0 63 bits at) (λ number.
    and_then (read_field 4 1 11 bits number.next) (λ count.
    and_then (read_path count.value bits count.next) (λ rows.
    gives (record { value = record { number = number.value; path = rows.value }; next = rows.next }))))

-- so many lines, one behind the other
unfoldable pub read_lines : ℕ → List ℕ → ℕ → Outcome (Part (List PlanLine))
read_lines zero bits at = gives (record { value = []; next = at })
read_lines (suc n) bits at =
    and_then (read_lines n bits at) (λ earlier.
    and_then (read_line bits earlier.next) (λ line.
    gives (record { value = earlier.value ++ (line.value ∷ []); next = line.next })))

-- (Ask 9, 2, 8) The number of lines, which is at most 64, and the lines.
unfoldable pub read_plan : List ℕ → Outcome (Part (List PlanLine))
read_plan bits = and_then (read_field 7 0 64 bits 0) (λ count. read_lines count.value bits count.next)

-- A legal tree

-- (Ask 9, 8) The line numbers rise, and the first is at least so large.
unfoldable pub rising : ℕ → List PlanLine → Bool
rising least [] = true
rising least (x ∷ xs) = leb least x.number && rising (suc x.number) xs

-- (Ask 9, 3) The path of each line is in range: its edges below its weights, its weights at least 2 or one weight of 1, its period in range.
unfoldable pub paths_in_range : List PlanLine → Bool
paths_in_range [] = true
paths_in_range (x ∷ xs) = path_in_range x.path && paths_in_range xs

-- the path parts from that of each of these lines
unfoldable pub parts_from : List Row → List PlanLine → Bool
parts_from rs [] = true
parts_from rs (x ∷ xs) = parts rs x.path && parts_from rs xs

-- (Ask 9, 3) Of two paths with equal edges so far the weights are equal, and none begins the other.
unfoldable pub paths_part : List PlanLine → Bool
paths_part [] = true
paths_part (x ∷ xs) = parts_from x.path xs && paths_part xs

-- (Ask 9, 3, 8)
unfoldable pub legal_lines : List PlanLine → Bool
legal_lines xs = rising 0 xs && (paths_in_range xs && paths_part xs)

-- the tree with the lines put in, each at the end of its path
unfoldable pub with_lines : List PlanLine → Tree → Tree
with_lines [] t = t
with_lines (x ∷ xs) t = with_lines xs (stand x.number x.path t)

-- (Ask 9, 6) The tree that the paths of the lines give.
unfoldable pub tree_of_lines : List PlanLine → Tree
tree_of_lines xs = with_lines xs nothing

-- The whole image

-- (Ask 9, 7) The checks behind the last field: 13 for bytes behind the one that holds the last bit, 14 for a set bit that fills it, 14 for an illegal tree.
unfoldable pub behind_refusal : List ℕ → Part (List PlanLine) → Option ℕ
behind_refusal bytes plan =
    let whole = bytes_for plan.next in
    first_refusal (
    refuse 13 (ltb whole (length bytes))
    ∷ refuse 14 (not (eqb (number_at (8 * whole - plan.next) plan.next (bits_of bytes)) 0))
    ∷ refuse 14 (not (legal_lines plan.value))
    ∷ []
    )

-- (Ask 9, 4, 7) What reading bytes gives: the image's tree, or the refusal.
unfoldable pub read_outcome : List ℕ → Outcome Tree
read_outcome bytes = and_then (read_plan (bits_of bytes)) (λ plan. gives_unless (behind_refusal bytes plan) (tree_of_lines plan.value))
