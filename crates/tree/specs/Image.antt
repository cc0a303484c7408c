-- The image of a plan (document 02, Ask 9): its tree as bits, the most significant bit of each field first, and as the bytes that these bits make.
-- Assumes nothing.
use Rattle.std.specs.Prelude.{ℕ, zero, suc, List, [], ◌∷◌, ◌++◌, ltb, length, drop, None, Some}
use Rattle.tree.specs.declared.Row.{Row}
use Rattle.tree.specs.Bits.{field_bits, bytes_of}
use Rattle.tree.specs.Tree.{Tree, path}
use Rattle.tree.specs.Refusals.{refuse, first_refusal}
use Rattle.tree.specs.Calls.{Outcome, gives, refuses, gives_unless}

-- The image

-- an open line with its path
pub record PlanLine : Type 0 where
  pub number : ℕ
  pub path : List Row

-- (Ask 9, 2) The open lines below n, in rising number.
unfoldable pub lines_below : ℕ → Tree → List PlanLine
lines_below zero t = []
lines_below (suc n) t = lines_below n t ++ elim (path n t) [ None ↦ [] | Some rs ↦ record { number = n; path = rs } ∷ [] ]

-- (Ask 9, 2) Per level the weight in 12 bits and the edge in 12.
unfoldable pub path_bits : List Row → List ℕ
path_bits [] = []
path_bits (r ∷ rs) = field_bits 12 r.weight ++ (field_bits 12 r.edge ++ path_bits rs)

-- (Ask 9, 2) Per line its number in 6 bits, the length of its path in 4, and the path.
unfoldable pub lines_bits : List PlanLine → List ℕ
lines_bits [] = []
lines_bits (x ∷ xs) = field_bits 6 x.number ++ (field_bits 4 (length x.path) ++ (path_bits x.path ++ lines_bits xs))

-- (Ask 9, 2) The number of lines in 7 bits, and the lines.
unfoldable pub image_bits : List PlanLine → List ℕ
image_bits xs = field_bits 7 (length xs) ++ lines_bits xs

-- (Ask 9, 2) The image of the plan with this tree.
unfoldable pub image : Tree → List ℕ
image t = bytes_of (image_bits (lines_below 64 t))

-- Writing

-- (Ask 9, 9, 10) What writing into a buffer of so many bytes answers: the image's length, or 8 where that is more.
unfoldable pub write_outcome : ℕ → Tree → Outcome ℕ
write_outcome room t = gives_unless (first_refusal (refuse 8 (ltb room (length (image t))) ∷ [])) (length (image t))

-- (Ask 9, 9) The buffer after it: the image's bytes and then the bytes as found, or all as found where writing is refused.
unfoldable pub buffer_after : Outcome ℕ → List ℕ → List ℕ → List ℕ
buffer_after (gives n) bytes before = bytes ++ drop n before
buffer_after (refuses n) bytes before = before
