-- The nodes that the search has looked at (`Seen`, specs/SearchedTo.antt), and that such a node has nothing better to offer on a later path.
-- Assumes nothing.
use Prim.Native.Nat.{ℕ, ◌+◌, ◌<◌, ◌≤◌}
use native.Mathlib.Omega.{arith}
use native.Mathlib.Decide.{ℕ_discrete, dec_lt}
use native.Mathlib.Numerals.{add-one}
use mathlib.Core.Path.{◌≡◌, refl, sym, ◌∙◌, ap}
use mathlib.Core.Logic.{◌⊎◌, inl, inr}
use mathlib.Core.Bool.{true, not-eq-not}
use mathlib.Core.List.{List}
use Rattle.std.specs.Prelude.{Option}
use lib.ListN.{length, take, get_or, set, replicate}
use lib.Seq.{get_or-set_same, get_or-set_other}
use Rattle.tree.specs.Search.{smaller_by}
use Rattle.tree.specs.Tree.{sum}
use Rattle.tree.specs.Record.{path_at, legal}
use Rattle.paths.specs.Rules.{Family, same_node, Spot, spot_start, spot_at, best_on_path}
use Rattle.paths.proofs.SameNode.{same_node_goes_on}
use Rattle.candidates.specs.Edges.{FirstThrough}
use Rattle.candidates.specs.SearchedTo.{Earlier, SeenNode, Seen, Reached, SearchedTo}
use Rattle.candidates.proofs.Marks.{zero_entry}
use Rattle.candidates.proofs.NothingBetter.{NoBetter, starts_by_better, earlier_no_better}
use Rattle.candidates.proofs.OneNode.{lines_through_one, lines_of_one_offset, met_no_better}

pub nothing_seen : (family : Family) → Seen family 0 0 (replicate 2047 0)
nothing_seen family = record { each = λ r some. absurd (some (zero_entry 2047 r)) }

-- what was seen stays seen
module _ {family : Family} {L l K k : ℕ} (on : (M j : ℕ) → Earlier M j L l → Earlier M j K k) where
  seen_node_later : {r n : ℕ} → SeenNode family L l r n → SeenNode family K k r n
  seen_node_later x = record {
    line = x.line;
    level = x.level;
    earlier = on x.line x.level x.earlier;
    on_path = x.on_path;
    offset_is = x.offset_is;
    level_is = x.level_is;
  }

  seen_later : {seen : List ℕ} → Seen family L l seen → Seen family K k seen
  seen_later nodes = record { each = λ r some. seen_node_later (nodes.each r some) }

earlier_next_level : {L l : ℕ} (M j : ℕ) → Earlier M j L l → Earlier M j L (l + 1)
earlier_next_level M j (inl h) = inl h
earlier_next_level M j (inr h) = inr (h.0, omega (arith, h.1))

earlier_next_line : {L l : ℕ} (M j : ℕ) → Earlier M j L l → Earlier M j (L + 1) 0
earlier_next_line M j (inl h) = inl (omega arith)
earlier_next_line M j (inr h) = inl (omega (arith, h.0))

seen_next_level : {family : Family} {L l : ℕ} {seen : List ℕ} → Seen family L l seen → Seen family L (l + 1) seen
seen_next_level = seen_later earlier_next_level

pub seen_next_line : {family : Family} {L l : ℕ} {seen : List ℕ} → Seen family L l seen → Seen family (L + 1) 0 seen
seen_next_line = seen_later earlier_next_line

pub none_earlier : (M j : ℕ) → Earlier M j 0 0 → ⊥
none_earlier M j (inl h) = omega arith
none_earlier M j (inr h) = omega (arith, h.1)

pub earlier_or_rest : {L l : ℕ} (M j : ℕ) → Earlier M j (L + 1) 0 → Earlier M j L l ⊎ ((M ≡ L) × (l ≤ j))
earlier_or_rest M j (inr h) = absurd (omega (arith, h.1))
earlier_or_rest {L} {l} M j (inl h) =
    elim (ℕ_discrete M L) [
      | yes same ↦ elim (dec_lt j l) [ yes above ↦ inl (inr (same, above)) | no rest ↦ inr (same, omega arith) ]
      | no other ↦ inl (inl (omega arith))
    ]

earlier_or_here : {L l : ℕ} (M j : ℕ) → Earlier M j L (l + 1) → Earlier M j L l ⊎ ((M ≡ L) × (j ≡ l))
earlier_or_here M j (inl h) = inl (inl h)
earlier_or_here {L} {l} M j (inr h) =
    elim (ℕ_discrete j l) [ yes here ↦ inr (h.0, here) | no above ↦ inl (inr (h.0, omega (arith, h.1))) ]

-- one node more is noted
seen_more : {family : Family} {L l r : ℕ} {seen : List ℕ} → Seen family L l seen → l < length (family L) → r ≡ sum (take l (family L)) → r < length seen → {n : ℕ} → n ≡ l + 1 → {after : List ℕ} → after ≡ set seen r n → Seen family L (l + 1) after
seen_more {family} {L} {l} {r} {seen} nodes there offset_is small {n} next written = rw written record {
  each = λ q some.
      elim (ℕ_discrete q r) [
        | yes here ↦
            let entry : get_or (set seen r n) q 0 ≡ n = rw here (get_or-set_same seen r n 0 small) in
            rw entry record {
              line = L;
              level = l;
              earlier = inr (refl, omega arith);
              on_path = there;
              offset_is = here ∙ offset_is;
              level_is = next ∙ add-one l;
            }
        | no other ↦
            let entry : get_or (set seen r n) q 0 ≡ get_or seen q 0 = get_or-set_other seen r q n 0 other in
            rw entry (seen_node_later earlier_next_level (nodes.each q (λ none. some (entry ∙ none))))
      ];
}

-- A node that was looked at has nothing better to offer, and one that was not is first come to here

module _ (rows : List ℕ) (is_legal : legal rows ≡ true) {p L l : ℕ} (below : L < 64) {best : Option Spot} {seen : List ℕ} (searched : SearchedTo (path_at rows) p L l best seen) (there : l < length (path_at rows L)) {r : ℕ} (offset_is : r ≡ sum (take l (path_at rows L))) where
  -- the node of that offset is as deep at least, so it is on an earlier line's path
  earlier_line : {n : ℕ} → l < n → (x : SeenNode (path_at rows) L l r n) → (x.line < L) × (l ≤ x.level)
  earlier_line deep x =
      elim x.earlier [
        | inl h ↦ (h, omega (arith, x.level_is))
        | inr h ↦ absurd (omega (arith, h.1, x.level_is))
      ]

  pub seen_no_better : l < get_or seen r 0 → NoBetter (spot_at (path_at rows) p L l) best
  seen_no_better deep =
      let x = searched.nodes_seen.each r (λ none. omega arith) in
      let y = earlier_line deep x in
      let meet = lines_of_one_offset rows is_legal x.line L below y.0 x.level l y.1 x.on_path there (sym x.offset_is ∙ offset_is) in
      let above : l < length (path_at rows x.line) = omega (arith, y.1, x.on_path) in
      rw searched.best_is (met_no_better rows p x.line L l is_legal below y.0 meet _ (earlier_no_better (path_at rows) p L l x.line l y.0 above))

  -- a node to which the search still comes was noted on the first path through it
  pub first_through : get_or seen r 0 ≤ l → Reached p best (path_at rows L) l → FirstThrough rows L l
  first_through unseen reached = record { on_path = there; first = λ M earlier. not-eq-not.0 (noted M earlier) }
    where
      noted : (M : ℕ) → M < L → same_node l (path_at rows M) (path_at rows L) ≡ true → ⊥
      noted M earlier meet =
          let above = (lines_through_one rows is_legal l M L below earlier meet).rows_above in
          let same_offset : sum (take l (path_at rows M)) ≡ r = ap sum above ∙ sym offset_is in
          let reached_there : Reached p best (path_at rows M) l = record { divided = rw above reached.divided; in_time = rw above reached.in_time } in
          let missed = searched.none_missed M l (inl earlier) (same_node_goes_on l (path_at rows M) (path_at rows L) meet).0 reached_there in
          let here : l < get_or seen r 0 = rw same_offset at missed in
          omega (arith, here, unseen)

-- The next level

module _ (rows : List ℕ) {p L l : ℕ} {best : Option Spot} {seen : List ℕ} (searched : SearchedTo (path_at rows) p L l best seen) (there : l < length (path_at rows L)) {r : ℕ} (offset_is : r ≡ sum (take l (path_at rows L))) where
  -- the node was looked at before
  pub searched_before : NoBetter (spot_at (path_at rows) p L l) best → l < get_or seen r 0 → SearchedTo (path_at rows) p L (l + 1) best seen
  unfolding best_on_path
  searched_before worse deep = record {
    best_is = rw (add-one l, ← searched.best_is) (sym worse);
    nodes_seen = seen_next_level searched.nodes_seen;
    none_missed = λ M j earlier on reached. elim (earlier_or_here M j earlier) [
      | inl before ↦ searched.none_missed M j before on reached
      | inr here ↦ rw (here.0, here.1, ← offset_is) deep
    ];
  }

  -- it is looked at now, and noted
  pub searched_more : {next : Option Spot} → next ≡ smaller_by spot_start best (spot_at (path_at rows) p L l) → get_or seen r 0 ≤ l → r < length seen → {n : ℕ} → n ≡ l + 1 → {after : List ℕ} → after ≡ set seen r n → SearchedTo (path_at rows) p L (l + 1) next after
  unfolding best_on_path
  searched_more {next} better unseen inside {n} more {after} written = record {
    best_is = rw (add-one l, ← searched.best_is) better;
    nodes_seen = seen_more searched.nodes_seen there offset_is inside more written;
    none_missed = λ M j earlier on reached. elim (earlier_or_here M j earlier) [
      | inl before ↦ entry_kept M j (searched.none_missed M j before on (record { divided = reached.divided; in_time = starts_by_better best (spot_at (path_at rows) p L l) _ (rw better at reached.in_time) }))
      | inr here ↦ rw (here.0, here.1, ← offset_is, written, get_or-set_same seen r n 0 inside) (omega arith)
    ];
  }
    where
      entry_kept : (M j : ℕ) → j < get_or seen (sum (take j (path_at rows M))) 0 → j < get_or after (sum (take j (path_at rows M))) 0
      entry_kept M j old =
          elim (ℕ_discrete (sum (take j (path_at rows M))) r) [
            | yes same ↦ (let before : j < get_or seen r 0 = rw same at old in rw (same, written, get_or-set_same seen r n 0 inside) (omega arith))
            | no other ↦ rw (written, get_or-set_other seen r (sum (take j (path_at rows M))) n 0 other) old
          ]
