-- The joint table: document 01's marked cases A to I, cases C and I as document 02's Asks 6 and 8 have them, without the printing, as calls with the answers that it marks; then fourteen cases of our own.
-- Each case begins at the empty plan. The one proof over the whole table is in proofs/JointTable.antt.
-- Assumes nothing.
use Rattle.std.specs.Prelude.{ℕ, Bool, true, false, List, [], ◌∷◌, ◌++◌, length, take, replicate, Option, None, Some}
use Rattle.tree.specs.declared.Row.{Row}
use Rattle.tree.specs.declared.Sheet.{Sheet}
use Rattle.tree.specs.Tree.{Tree, nothing, row, path_of, nodes}
use Rattle.tree.specs.Asking.{OwnerOrRest, owned_by, idle_for, owner_or_rest, rows_11, Shown}
use Rattle.tree.specs.Sheet.{sheet}
use Rattle.tree.specs.Reason.{Reason, step_does_not_divide, line_stands}
use Rattle.tree.specs.Calls.{open_line, close_line, Answer, booked, done, refused, answer, after, Outcome, gives, refuses, refusal_of, tree_given, show_outcome, turns_outcome, reason_outcome}
use Rattle.tree.specs.Trial.{Trial, trial_outcome}
use Rattle.tree.specs.Image.{image}
use Rattle.tree.specs.ImageReading.{read_outcome}
use Rattle.tree.specs.Weaving.{weave_outcome}

-- a call or a question with its answer
pub data Step : Type 0 where
  opens : ℕ → ℕ → Answer → Step
  closes : ℕ → Answer → Step
  owner_of : ℕ → OwnerOrRest → Step
  show : ℕ → Outcome Shown → Step
  turns_of : ℕ → ℕ → ℕ → Outcome ℕ → Step
  nodes_above : ℕ → ℕ → Step
  nodes_in_all : ℕ → Step
  tries : ℕ → ℕ → Outcome Trial → Step
  sheet_of : ℕ → ℕ → Sheet → Step
  reason_at : ℕ → ℕ → ℕ → ℕ → Outcome Reason → Step
  image_is : List ℕ → Step
  reads : List ℕ → Option ℕ → Step
  weaves : Tree → Option ℕ → Step

-- the same call or question, with the answer that the definitions give in tree t
unfoldable pub answered : Tree → Step → Step
answered t (opens L p a) = opens L p (answer (open_line L p) t)
answered t (closes L a) = closes L (answer (close_line L) t)
answered t (owner_of n a) = owner_of n (owner_or_rest n t)
answered t (show L a) = show L (show_outcome L t)
answered t (turns_of L first N a) = turns_of L first N (turns_outcome L first N t)
answered t (nodes_above L a) = nodes_above L (length (path_of L t))
answered t (nodes_in_all a) = nodes_in_all (nodes t)
answered t (tries L p a) = tries L p (trial_outcome L p t)
answered t (sheet_of first N a) = sheet_of first N (sheet first N t)
answered t (reason_at p l r i a) = reason_at p l r i (reason_outcome p (record { level = l; offset = r }) i t)
answered t (image_is bytes) = image_is (image t)
answered t (reads bytes a) = reads bytes (refusal_of (read_outcome bytes))
answered t (weaves b a) = weaves b (refusal_of (weave_outcome t b))

-- the tree that it leaves
unfoldable pub next : Tree → Step → Tree
next t (opens L p a) = after (open_line L p) t
next t (closes L a) = after (close_line L) t
next t (owner_of n a) = t
next t (show L a) = t
next t (turns_of L first N a) = t
next t (nodes_above L a) = t
next t (nodes_in_all a) = t
next t (tries L p a) = t
next t (sheet_of first N a) = t
next t (reason_at p l r i a) = t
next t (image_is bytes) = t
next t (reads bytes a) = tree_given (read_outcome bytes) t
next t (weaves b a) = tree_given (weave_outcome t b) t

-- a whole case answered by the definitions, from tree t
unfoldable pub replayed : Tree → List Step → List Step
replayed t [] = []
replayed t (s ∷ ss) = answered t s ∷ replayed (next t s) ss

-- the tree that a whole case leaves
unfoldable pub left_by : Tree → List Step → Tree
left_by t [] = t
left_by t (s ∷ ss) = left_by (next t s) ss

-- a line's period, start and path as show answers them
unfoldable pub shows : ℕ → ℕ → List Row → Outcome Shown
shows p s rs = gives (record { period = p; start = s; rows = rows_11 rs })

-- what a trial tells of an open that is not refused
unfoldable pub fits : ℕ → ℕ → Bool → Outcome Trial
fits s n is_split = gives (record { start = s; added = n; split = is_split })

-- a sheet: the turns of the lines from 0 on, of all further lines 0, and the idle rounds
unfoldable pub lists : List ℕ → ℕ → Sheet
lists turns idle = record { turns = take 64 (turns ++ replicate 64 0); idle = idle }

unfoldable pub bookings_A : List Step
bookings_A =
    opens 1 4 (booked 0)
    ∷ opens 2 6 (booked 1)
    ∷ opens 3 8 (booked 2)
    ∷ opens 4 2 (refused 5)
    ∷ opens 4 12 (booked 3)
    ∷ []

unfoldable pub questions_A : List Step
questions_A =
    owner_of 7 (owned_by 2)
    ∷ owner_of 10 (owned_by 3)
    ∷ owner_of 9 (idle_for 1)
    ∷ show 1 (shows 4 0 (row 2 0 ∷ row 2 0 ∷ []))
    ∷ show 4 (shows 12 3 (row 2 1 ∷ row 3 1 ∷ row 2 0 ∷ []))
    ∷ turns_of 4 0 100 (gives 9)
    ∷ []

unfoldable pub case_A : List Step
case_A = bookings_A ++ questions_A

unfoldable pub case_B : List Step
case_B = opens 1 4 (booked 0) ∷ opens 2 4 (booked 1) ∷ opens 3 2 (refused 5) ∷ []

unfoldable pub case_C : List Step
case_C = opens 1 6 (booked 0) ∷ opens 2 12 (booked 1) ∷ opens 3 12 (booked 2) ∷ []

unfoldable pub case_D : List Step
case_D = opens 1 1 (booked 0) ∷ opens 2 1 (refused 5) ∷ opens 2 4095 (refused 5) ∷ []

unfoldable pub case_E : List Step
case_E = opens 1 2 (booked 0) ∷ opens 2 3 (refused 5) ∷ []

unfoldable pub case_F : List Step
case_F =
    opens 0 2 (booked 0)
    ∷ opens 1 4 (booked 1)
    ∷ opens 2 8 (booked 3)
    ∷ opens 3 16 (booked 7)
    ∷ opens 4 32 (booked 15)
    ∷ opens 5 64 (booked 31)
    ∷ opens 6 128 (booked 63)
    ∷ opens 7 256 (booked 127)
    ∷ opens 8 512 (booked 255)
    ∷ opens 9 1024 (booked 511)
    ∷ opens 10 2048 (booked 1023)
    ∷ nodes_above 10 11
    ∷ []

unfoldable pub case_G : List Step
case_G = opens 1 4095 (booked 0) ∷ opens 2 4096 (refused 2) ∷ opens 2 0 (refused 2) ∷ []

unfoldable pub case_H : List Step
case_H = opens 63 5 (booked 0) ∷ opens 64 5 (refused 1) ∷ []

unfoldable pub case_I : List Step
case_I =
    opens 1 6 (booked 0)
    ∷ opens 2 2 (booked 1)
    ∷ opens 3 3 (refused 5)
    ∷ closes 2 done
    ∷ opens 3 3 (booked 1)
    ∷ closes 2 (refused 4)
    ∷ []

-- ours: the smallest start is taken, at any level. With lines 1 and 3 gone, the root offers 3, the node at offset 1 offers 1, and the one at offset 2 offers 6.
unfoldable pub earliest_start : List Step
earliest_start =
    opens 0 4 (booked 0)
    ∷ opens 1 8 (booked 1)
    ∷ opens 2 8 (booked 2)
    ∷ opens 3 8 (booked 3)
    ∷ opens 4 8 (booked 5)
    ∷ closes 1 done
    ∷ closes 3 done
    ∷ opens 5 8 (booked 1)
    ∷ opens 6 8 (booked 3)
    ∷ opens 7 8 (booked 6)
    ∷ []

-- ours: a split moves no start, also where the edge that goes under the new node is not 0
unfoldable pub split_keeps_starts : List Step
split_keeps_starts =
    opens 1 6 (booked 0)
    ∷ opens 2 6 (booked 1)
    ∷ opens 3 3 (booked 2)
    ∷ show 1 (shows 6 0 (row 3 0 ∷ row 2 0 ∷ []))
    ∷ show 2 (shows 6 1 (row 3 1 ∷ row 2 0 ∷ []))
    ∷ owner_of 7 (owned_by 2)
    ∷ owner_of 4 (idle_for 1)
    ∷ owner_of 5 (owned_by 3)
    ∷ []

-- ours: an emptied plan is the fresh one, and an emptied node below a line that stays is gone
unfoldable pub emptied_is_fresh : List Step
emptied_is_fresh =
    opens 1 6 (booked 0)
    ∷ opens 2 12 (booked 1)
    ∷ closes 2 done
    ∷ opens 3 6 (booked 1)
    ∷ closes 1 done
    ∷ closes 3 done
    ∷ owner_of 0 (idle_for 0)
    ∷ opens 4 4 (booked 0)
    ∷ show 4 (shows 4 0 (row 4 0 ∷ []))
    ∷ []

-- ours: of two checks that both refuse, the earlier one gives the number
unfoldable pub checks_in_sequence : List Step
checks_in_sequence =
    closes 64 (refused 1)
    ∷ opens 64 0 (refused 1)
    ∷ opens 5 2 (booked 0)
    ∷ opens 5 0 (refused 2)
    ∷ opens 5 3 (refused 3)
    ∷ show 64 (refuses 1)
    ∷ show 6 (refuses 4)
    ∷ turns_of 64 0 7 (refuses 1)
    ∷ turns_of 6 0 7 (refuses 4)
    ∷ []

-- ours: turns from a round on, in case A's plan. The first round is a turn; it is past the start; the rounds end before the next turn; there are none; they
-- pass 2^64, where line 2 owns the whole number 2^64 + 3.
unfoldable pub turns_from_a_round : List Step
turns_from_a_round =
    bookings_A
    ++ (turns_of 4 3 12 (gives 1)
    ∷ turns_of 4 3 13 (gives 2)
    ∷ turns_of 4 4 12 (gives 1)
    ∷ turns_of 4 4 11 (gives 0)
    ∷ turns_of 4 3 0 (gives 0)
    ∷ turns_of 2 18446744073709551615 4 (gives 0)
    ∷ turns_of 2 18446744073709551615 5 (gives 1)
    ∷ turns_of 2 18446744073709551615 11 (gives 2)
    ∷ [])

-- ours: the largest step that a node can have, 2,047, with a weight of 2. The rounds asked select both its edges, and under edge 1 nothing stands.
unfoldable pub step_2047 : List Step
step_2047 =
    opens 1 4094 (booked 0)
    ∷ opens 2 2047 (booked 1)
    ∷ show 1 (shows 4094 0 (row 2047 0 ∷ row 2 0 ∷ []))
    ∷ owner_of 0 (owned_by 1)
    ∷ owner_of 2047 (idle_for 1)
    ∷ owner_of 2048 (owned_by 2)
    ∷ owner_of 4094 (owned_by 1)
    ∷ []

-- ours: trials. The first line gets the root; later ones stand under the root itself or under a node of their own, without a split and with one, which adds a
-- node for the class that is taken. The opens do what was told. Then each refusal, of two that apply the earlier one.
unfoldable pub tried_then_opened : List Step
tried_then_opened =
    tries 1 6 (fits 0 1 false)
    ∷ opens 1 6 (booked 0)
    ∷ nodes_in_all 1
    ∷ tries 2 6 (fits 1 0 false)
    ∷ tries 2 12 (fits 1 1 false)
    ∷ tries 2 2 (fits 1 1 true)
    ∷ tries 2 4 (fits 1 2 true)
    ∷ opens 2 4 (booked 1)
    ∷ nodes_in_all 3
    ∷ tries 64 0 (refuses 1)
    ∷ tries 1 0 (refuses 2)
    ∷ tries 1 3 (refuses 3)
    ∷ tries 3 3 (refuses 5)
    ∷ []

-- ours: the edges 0 and 3 are of one class modulo 3, so the split adds one node for both
unfoldable pub two_edges_in_a_class : List Step
two_edges_in_a_class =
    opens 1 6 (booked 0)
    ∷ opens 2 6 (booked 1)
    ∷ opens 3 6 (booked 2)
    ∷ opens 4 6 (booked 3)
    ∷ closes 2 done
    ∷ closes 3 done
    ∷ nodes_in_all 1
    ∷ tries 5 3 (fits 1 1 true)
    ∷ opens 5 3 (booked 1)
    ∷ nodes_in_all 2
    ∷ []

-- ours: rests. The empty plan; one line, with the longest rest, the shortest, and one that ends past 2^64; two lines, where the turn that comes first ends it,
-- whichever line's it is.
unfoldable pub rests : List Step
rests =
    owner_of 7 (idle_for 0)
    ∷ opens 1 4095 (booked 0)
    ∷ owner_of 0 (owned_by 1)
    ∷ owner_of 1 (idle_for 4094)
    ∷ owner_of 4094 (idle_for 1)
    ∷ owner_of 18446744073709551615 (idle_for 4080)
    ∷ opens 2 6 (booked 1)
    ∷ owner_of 2 (idle_for 5)
    ∷ owner_of 4094 (idle_for 1)
    ∷ owner_of 4096 (idle_for 3)
    ∷ []

-- ours: sheets. The empty plan; case A's plan, over 24 rounds, over none, over one, and over five, the last four of them from 2^64 on; the same after a close, when
-- that line's turns are idle; a line that owns every round.
unfoldable pub sheets : List Step
sheets =
    sheet_of 7 5 (lists [] 5)
    ∷ (bookings_A
    ++ (sheet_of 0 24 (lists (0 ∷ 6 ∷ 4 ∷ 3 ∷ 2 ∷ []) 9)
    ∷ sheet_of 3 0 (lists [] 0)
    ∷ sheet_of 3 1 (lists (0 ∷ 0 ∷ 0 ∷ 0 ∷ 1 ∷ []) 0)
    ∷ sheet_of 18446744073709551615 5 (lists (0 ∷ 1 ∷ 1 ∷ 1 ∷ 1 ∷ []) 1)
    ∷ closes 1 done
    ∷ sheet_of 0 24 (lists (0 ∷ 0 ∷ 4 ∷ 3 ∷ 2 ∷ []) 15)
    ∷ closes 2 done
    ∷ closes 3 done
    ∷ closes 4 done
    ∷ opens 0 1 (booked 0)
    ∷ sheet_of 18446744073709551615 9 (lists (9 ∷ []) 0)
    ∷ []))

-- ours: reasons. In the empty plan there is no node. Then a root of weight 6 with the edges 0 and 3, which are of one class modulo 3 and of two modulo 2: of two lines
-- the lower is named, and with a reason for each class an open gives 5. Then case A's plan: lines that stand deeper, a step that does not divide, where the class
-- is not looked at, a place where a line stands, offsets and levels of no node, and of two refusals the earlier one.
unfoldable pub reasons : List Step
reasons =
    reason_at 3 0 0 0 (refuses 10)
    ∷ opens 9 6 (booked 0)
    ∷ opens 2 6 (booked 1)
    ∷ opens 3 6 (booked 2)
    ∷ opens 8 6 (booked 3)
    ∷ closes 2 done
    ∷ closes 3 done
    ∷ reason_at 3 0 0 0 (gives (line_stands 8))
    ∷ reason_at 3 0 0 1 (refuses 12)
    ∷ reason_at 3 0 0 3 (refuses 11)
    ∷ reason_at 2 0 0 0 (gives (line_stands 9))
    ∷ reason_at 2 0 0 1 (gives (line_stands 8))
    ∷ opens 5 2 (refused 5)
    ∷ closes 8 done
    ∷ closes 9 done
    ∷ (bookings_A
    ++ (reason_at 2 0 0 0 (gives (line_stands 1))
    ∷ reason_at 2 0 0 1 (gives (line_stands 2))
    ∷ reason_at 2 1 0 0 (gives (line_stands 1))
    ∷ reason_at 4 1 0 1 (gives (line_stands 3))
    ∷ reason_at 6 1 1 1 (gives (line_stands 4))
    ∷ reason_at 6 1 1 2 (refuses 12)
    ∷ reason_at 2 2 3 0 (gives step_does_not_divide)
    ∷ reason_at 3 1 1 7 (gives step_does_not_divide)
    ∷ reason_at 2 2 0 0 (refuses 10)
    ∷ reason_at 2 1 2 0 (refuses 10)
    ∷ reason_at 2 3 0 0 (refuses 10)
    ∷ reason_at 0 3 0 0 (refuses 2)
    ∷ reason_at 4096 0 0 0 (refuses 2)
    ∷ []))

-- ours: nodes joined on the way up. The first close leaves the node at offset 1 a node of weight 4 and one of weight 2, so that it is not joined. The two openings after it
-- split the first of these, and give it a sibling of weight 2. The second close joins the root with the node at offset 1 and then with the three below that one, and stops there,
-- since lines 3, 4 and 5 stand under its edges. The last one takes out a node of weight 3 too, and takes the split of the open before it back.
unfoldable pub nodes_joined : List Step
nodes_joined =
    opens 0 2 (booked 0)
    ∷ opens 1 24 (booked 1)
    ∷ opens 2 6 (booked 3)
    ∷ opens 3 12 (booked 5)
    ∷ closes 2 done
    ∷ show 1 (shows 24 1 (row 2 1 ∷ row 3 0 ∷ row 4 0 ∷ []))
    ∷ show 3 (shows 12 5 (row 2 1 ∷ row 3 2 ∷ row 2 0 ∷ []))
    ∷ opens 4 12 (booked 3)
    ∷ opens 5 12 (booked 7)
    ∷ show 1 (shows 24 1 (row 2 1 ∷ row 3 0 ∷ row 2 0 ∷ row 2 0 ∷ []))
    ∷ closes 0 done
    ∷ show 1 (shows 24 1 (row 12 1 ∷ row 2 0 ∷ []))
    ∷ show 3 (shows 12 5 (row 12 5 ∷ []))
    ∷ show 4 (shows 12 3 (row 12 3 ∷ []))
    ∷ show 5 (shows 12 7 (row 12 7 ∷ []))
    ∷ nodes_in_all 2
    ∷ closes 3 done
    ∷ closes 4 done
    ∷ closes 5 done
    ∷ show 1 (shows 24 1 (row 24 1 ∷ []))
    ∷ opens 2 36 (booked 0)
    ∷ show 1 (shows 24 1 (row 12 1 ∷ row 2 0 ∷ []))
    ∷ show 2 (shows 36 0 (row 12 0 ∷ row 3 0 ∷ []))
    ∷ closes 2 done
    ∷ show 1 (shows 24 1 (row 24 1 ∷ []))
    ∷ []

-- ours: images. That of the empty plan; bits that are missing; a path of no rows, which is told before the bits of the next field are missing, and one of 12; bytes behind the
-- last one, with a bit set that fills that one, and the bit alone; 65 lines, a weight of 0; lines that fall, a line twice, a path that begins another, equal edges with unequal
-- weights, an edge that is its weight, a period of 8,190. Then a line with a root of weight 1 to itself, case A's plan, and a plan that was read and booked on.
unfoldable pub images : List Step
images =
    image_is (0 ∷ [])
    ∷ reads [] (Some 13)
    ∷ reads (2 ∷ 9 ∷ []) (Some 13)
    ∷ reads (2 ∷ 8 ∷ 0 ∷ []) (Some 14)
    ∷ reads (2 ∷ 14 ∷ 0 ∷ []) (Some 14)
    ∷ reads (1 ∷ 0 ∷ []) (Some 13)
    ∷ reads (1 ∷ []) (Some 14)
    ∷ reads (130 ∷ []) (Some 14)
    ∷ reads (2 ∷ 8 ∷ 128 ∷ 0 ∷ 0 ∷ 0 ∷ []) (Some 14)
    ∷ reads (4 ∷ 16 ∷ 128 ∷ 16 ∷ 0 ∷ 2 ∷ 32 ∷ 4 ∷ 0 ∷ 32 ∷ []) (Some 14)
    ∷ reads (4 ∷ 8 ∷ 128 ∷ 16 ∷ 0 ∷ 2 ∷ 32 ∷ 4 ∷ 0 ∷ 32 ∷ []) (Some 14)
    ∷ reads (4 ∷ 8 ∷ 128 ∷ 16 ∷ 0 ∷ 4 ∷ 64 ∷ 4 ∷ 0 ∷ 0 ∷ 4 ∷ 0 ∷ 0 ∷ []) (Some 14)
    ∷ reads (4 ∷ 9 ∷ 0 ∷ 32 ∷ 0 ∷ 0 ∷ 16 ∷ 0 ∷ 4 ∷ 64 ∷ 8 ∷ 0 ∷ 0 ∷ 6 ∷ 0 ∷ 32 ∷ []) (Some 14)
    ∷ reads (2 ∷ 8 ∷ 128 ∷ 16 ∷ 1 ∷ 0 ∷ []) (Some 14)
    ∷ reads (2 ∷ 9 ∷ 127 ∷ 248 ∷ 0 ∷ 0 ∷ 16 ∷ 0 ∷ 0 ∷ []) (Some 14)
    ∷ reads (2 ∷ 40 ∷ 128 ∷ 8 ∷ 0 ∷ 0 ∷ []) None
    ∷ show 5 (shows 1 0 (row 1 0 ∷ []))
    ∷ opens 6 1 (refused 5)
    ∷ reads (0 ∷ []) None
    ∷ (bookings_A
    ++ (image_is (8 ∷ 9 ∷ 0 ∷ 16 ∷ 0 ∷ 0 ∷ 16 ∷ 0 ∷ 4 ∷ 64 ∷ 4 ∷ 0 ∷ 32 ∷ 6 ∷ 0 ∷ 1 ∷ 152 ∷ 1 ∷ 0 ∷ 0 ∷ 1 ∷ 0 ∷ 8 ∷ 1 ∷ 0 ∷ 0 ∷ 134 ∷ 0 ∷ 64 ∷ 2 ∷ 0 ∷ 96 ∷ 2 ∷ 0 ∷ 64 ∷ 0 ∷ [])
    ∷ reads (4 ∷ 8 ∷ 128 ∷ 16 ∷ 0 ∷ 4 ∷ 32 ∷ 4 ∷ 0 ∷ 32 ∷ []) None
    ∷ owner_of 7 (owned_by 2)
    ∷ closes 2 done
    ∷ reads (1 ∷ []) (Some 14)
    ∷ opens 9 4 (booked 1)
    ∷ image_is (4 ∷ 8 ∷ 128 ∷ 16 ∷ 0 ∷ 18 ∷ 64 ∷ 4 ∷ 0 ∷ 32 ∷ 4 ∷ 0 ∷ 0 ∷ [])
    ∷ []))

-- the tree of a plan with one line
unfoldable pub one_line : ℕ → ℕ → Tree
one_line L p = after (open_line L p) nothing

-- ours: weaving, always with the case's plan so far on side A. Two empty plans; a root of weight 1 on side B; an open that is refused and one that is not; a close that joins the root
-- with what is left below it; an empty side B; a line open in both, a doubled period above 4,095, and both of them; an empty side A, with a doubled period of 4,094, which cannot be
-- doubled again; a root of weight 1 on both sides.
unfoldable pub plans_woven : List Step
plans_woven =
    weaves nothing None
    ∷ nodes_in_all 0
    ∷ opens 1 6 (booked 0)
    ∷ opens 2 6 (booked 1)
    ∷ weaves (one_line 3 1) None
    ∷ show 1 (shows 12 0 (row 2 0 ∷ row 6 0 ∷ []))
    ∷ show 2 (shows 12 2 (row 2 0 ∷ row 6 1 ∷ []))
    ∷ show 3 (shows 2 1 (row 2 1 ∷ []))
    ∷ owner_of 14 (owned_by 2)
    ∷ owner_of 15 (owned_by 3)
    ∷ owner_of 16 (idle_for 1)
    ∷ opens 4 4 (refused 5)
    ∷ opens 4 6 (booked 4)
    ∷ closes 3 done
    ∷ show 4 (shows 6 4 (row 6 4 ∷ []))
    ∷ weaves nothing None
    ∷ show 2 (shows 24 4 (row 2 0 ∷ row 6 2 ∷ row 2 0 ∷ []))
    ∷ weaves (one_line 2 1) (Some 15)
    ∷ weaves (one_line 5 2048) (Some 16)
    ∷ weaves (one_line 2 2048) (Some 15)
    ∷ closes 1 done
    ∷ closes 2 done
    ∷ closes 4 done
    ∷ weaves (one_line 5 2047) None
    ∷ show 5 (shows 4094 1 (row 2 1 ∷ row 2047 0 ∷ []))
    ∷ weaves nothing (Some 16)
    ∷ closes 5 done
    ∷ opens 6 1 (booked 0)
    ∷ weaves (one_line 5 1) None
    ∷ show 6 (shows 2 0 (row 2 0 ∷ []))
    ∷ show 5 (shows 2 1 (row 2 1 ∷ []))
    ∷ []

unfoldable pub cases : List (List Step)
cases =
    case_A
    ∷ case_B
    ∷ case_C
    ∷ case_D
    ∷ case_E
    ∷ case_F
    ∷ case_G
    ∷ case_H
    ∷ case_I
    ∷ earliest_start
    ∷ split_keeps_starts
    ∷ emptied_is_fresh
    ∷ checks_in_sequence
    ∷ turns_from_a_round
    ∷ step_2047
    ∷ tried_then_opened
    ∷ two_edges_in_a_class
    ∷ rests
    ∷ sheets
    ∷ reasons
    ∷ nodes_joined
    ∷ images
    ∷ plans_woven
    ∷ []
