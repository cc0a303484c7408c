-- The nearest turn of the open lines (specs/Turns.antt) is the rest of a round, in every legal record; and the loop of `rest_of`, line by line.
-- Assumes nothing.
use Prim.Native.Nat.{ℕ, ◌+◌, min, ◌<◌, ◌≤◌}
use native.Mathlib.Omega.{arith}
use native.Mathlib.Nat.{mod-le}
use native.Mathlib.Decide.{dec_lt}
use mathlib.Core.Path.{◌≡◌, refl, sym, ◌∙◌, ap}
use mathlib.Core.Bool.{Bool, true, false, true≢false, not}
use mathlib.Core.List.{List}
use Rattle.std.specs.Prelude.{Option, None, Some, unwrap_or}
use Rattle.std.specs.Option.{IsSomeAnd, option_map_or}
use Rattle.std.proofs.lemmas.Option.{none-some, same_Some}
use borrow.Author.Count.{below_more}
use borrow.Author.Tests.{not-true}
use Rattle.tree.specs.declared.Row.{Row}
use Rattle.tree.specs.Search.{found}
use Rattle.tree.specs.Tree.{Tree, present, product, sum, period_of, start_of}
use Rattle.tree.specs.Standing.{Stands}
use Rattle.tree.specs.Asking.{owner, owned, rest, IsRest}
use Rattle.tree.specs.Record.{path_at, no_rows, legal}
use Rattle.bridge.specs.Rows.{plan_of, tree_of_rows}
use Rattle.tree.proofs.UnderEdge.{stands_present}
use Rattle.tree.proofs.Proper.{legal_proper}
use Rattle.tree.proofs.Standing.{open_stands, stands_open, stands_by_path, start_below_period}
use Rattle.tree.proofs.Numbering.{stands_number}
use Rattle.tree.proofs.Ownership.{walk_owns, stands_walk}
use Rattle.tree.proofs.Resting.{one_rest, rest_is_rest}
use Rattle.bridge.proofs.TreeOfRecord.{legal_on_record, paths_on_record, open_on_record}
use Rattle.bridge.proofs.FirstRecord.{AllClosed, all_closed_nothing}
use Rattle.asking.specs.Turns.{until_turn, nearer_turn}
use Rattle.asking.proofs.TurnsByDivision.{until_fits, fits_until}

-- One line more

pub nearer_closed : (ps : List Row) (n : ℕ) (least : Option ℕ) → no_rows ps ≡ true → nearer_turn ps n least ≡ least
unfolding nearer_turn
nearer_closed ps n least closed = rw closed

-- u was computed from the times of an open line
pub nearer_open : (ps : List Row) (n : ℕ) (least : Option ℕ) → no_rows ps ≡ false → {p s u : ℕ} → p ≡ product ps → s ≡ sum ps → u ≡ until_turn p s n →
    nearer_turn ps n least ≡ Some (option_map_or (min u) least u)
unfolding nearer_turn
nearer_open ps n least there period_is start_is turn_is = rw (there, turn_is, period_is, start_is)

-- the rounds from n to the next turn of line M
abbrev until : List ℕ → ℕ → ℕ → ℕ
until rows n M = until_turn (product (path_at rows M)) (sum (path_at rows M)) n

-- an open line below k whose next turn is so many rounds away
pub record TurnOf (rows : List ℕ) (n least k : ℕ) : Type 0 where
  pub number : ℕ
  pub number_below : number < k
  pub is_there : no_rows (path_at rows number) ≡ false
  pub turn_is : least ≡ until rows n number

-- of the lines below k the nearest turn is so many rounds away; where no number is there all of them are closed
pub record Nearest (rows : List ℕ) (n : ℕ) (least : Option ℕ) (k : ℕ) : Type 0 where
  pub within : k ≤ 64
  pub none_nearer : (M : ℕ) → M < k → no_rows (path_at rows M) ≡ false → IsSomeAnd least (λ rounds. rounds ≤ until rows n M)
  pub reached : (rounds : ℕ) → least ≡ Some rounds → TurnOf rows n rounds k

pub nearest_of_none : (rows : List ℕ) (n : ℕ) → Nearest rows n None 0
nearest_of_none rows n = record { within = omega arith; none_nearer = λ M less. absurd (omega arith); reached = λ rounds e. absurd (none-some rounds e) }

module _ {rows : List ℕ} {n k : ℕ} (below : k < 64) where
  one_line_later : {least : ℕ} → TurnOf rows n least k → TurnOf rows n least (k + 1)
  one_line_later x =
      let earlier = x.number_below in
      record { number = x.number; number_below = omega arith; is_there = x.is_there; turn_is = x.turn_is }

  with_closed : {least : Option ℕ} → Nearest rows n least k → no_rows (path_at rows k) ≡ true → Nearest rows n least (k + 1)
  with_closed {least} so_far closed =
      record {
        within = omega arith;
        none_nearer = below_more (λ (M : ℕ). no_rows (path_at rows M) ≡ false → IsSomeAnd least (λ rounds. rounds ≤ until rows n M)) k so_far.none_nearer (λ there. absurd (true≢false (sym closed ∙ there)));
        reached = λ rounds e. one_line_later (so_far.reached rounds e);
      }

  with_open : (least : Option ℕ) → Nearest rows n least k → no_rows (path_at rows k) ≡ false → Nearest rows n (Some (option_map_or (min (until rows n k)) least (until rows n k))) (k + 1)
  with_open None so_far there =
      record {
        within = omega arith;
        none_nearer = below_more (λ (M : ℕ). no_rows (path_at rows M) ≡ false → until rows n k ≤ until rows n M) k (λ M less is_there. absurd (so_far.none_nearer M less is_there)) (λ is_there. omega arith);
        reached = λ rounds e. record { number = k; number_below = omega arith; is_there = there; turn_is = sym (same_Some _ _ e) };
      }
  with_open (Some least) so_far there =
      record {
        within = omega arith;
        none_nearer = below_more (λ (M : ℕ). no_rows (path_at rows M) ≡ false → min (until rows n k) least ≤ until rows n M) k (λ M less is_there. omega (arith, so_far.none_nearer M less is_there)) (λ is_there. omega arith);
        reached = λ rounds e.
            let turn = same_Some _ _ e in
            elim (dec_lt (until rows n k) least) [
              | yes nearer ↦ record { number = k; number_below = omega arith; is_there = there; turn_is = omega arith }
              | no farther ↦ let same : least ≡ rounds = omega arith in one_line_later (so_far.reached rounds (ap Some same))
            ];
      }

  pub nearest_of_one_more : {least next : Option ℕ} → Nearest rows n least k → next ≡ nearer_turn (path_at rows k) n least → Nearest rows n next (k + 1)
  nearest_of_one_more {least} so_far is = rw is (by_rows (no_rows (path_at rows k)) refl)
    where
      by_rows : (b : Bool) → no_rows (path_at rows k) ≡ b → Nearest rows n (nearer_turn (path_at rows k) n least) (k + 1)
      by_rows true closed = rw (nearer_closed (path_at rows k) n least closed) (with_closed so_far closed)
      by_rows false there = rw (nearer_open (path_at rows k) n least there refl refl refl) (with_open least so_far there)

-- The lines of a legal record

module _ (rows : List ℕ) (is_legal : legal rows ≡ true) (n : ℕ) where
  abbrev t : Tree
  t = tree_of_rows rows

  -- an open line stands in the tree with the period and the start of its path
  stands_there : (M : ℕ) → M < 64 → no_rows (path_at rows M) ≡ false → Stands M t (product (path_at rows M)) (sum (path_at rows M))
  unfolding period_of start_of
  stands_there M below there =
      rw (paths_on_record rows is_legal M below) (open_stands M t (open_on_record rows is_legal M below ∙ ap not there))

  -- its next turn is a round that it owns
  owned_at_turn : (M : ℕ) → M < 64 → no_rows (path_at rows M) ≡ false → owner (n + until rows n M) t ≡ Some M
  owned_at_turn M below there =
      let stands = stands_there M below there in
      stands_walk M _ t _ _ stands (until_fits _ _ (start_below_period M t _ _ stands) n)

  -- and it owns no round before
  no_turn_before : (M k : ℕ) → owner (n + k) t ≡ Some M → (M < 64) × (no_rows (path_at rows M) ≡ false) × (until rows n M ≤ k)
  unfolding period_of start_of
  no_turn_before M k owned_now =
      let proper = legal_proper t (legal_on_record rows) in
      let x = walk_owns M (n + k) t proper owned_now in
      let number = stands_number M t x.period x.start (legal_on_record rows) x.stands in
      let below : M < 64 = omega arith in
      let there = not-true _ (sym (open_on_record rows is_legal M below) ∙ stands_open M t _ _ x.stands) in
      let times = stands_by_path M t _ _ proper x.stands in
      let fits = rw (times.0, times.1, ← paths_on_record rows is_legal M below) at x.fits in
      let start_below = start_below_period M t _ _ (stands_there M below there) in
      (below, there, omega (arith, fits_until _ _ start_below n k fits, mod-le k (product (path_at rows M))))

  -- after all lines
  module _ {least : Option ℕ} {k : ℕ} (all : Nearest rows n least k) (past : 64 ≤ k) where
    closed_where_none : least ≡ None → AllClosed rows
    unfolding AllClosed
    closed_where_none none_found M below = by_rows (no_rows (path_at rows M)) refl
      where
        by_rows : (b : Bool) → no_rows (path_at rows M) ≡ b → b ≡ true
        by_rows true closed = refl
        by_rows false there = absurd (rw none_found at (all.none_nearer M (omega arith) there))

    -- no line is open: the rest is 0
    pub no_turn_rest : least ≡ None → 0 ≡ rest n t
    unfolding tree_of_rows rest present
    no_turn_rest none_found = sym (ap (rest n) (all_closed_nothing (plan_of rows) is_legal (closed_where_none none_found)))

    -- some line is: the nearest turn is the rest
    pub nearest_turn_rest : (rounds : ℕ) → least ≡ Some rounds → rounds ≡ rest n t
    unfolding owned found
    nearest_turn_rest rounds some_found = one_rest n t rounds (rest n t) is_rest (rest_is_rest t (legal_on_record rows) n)
      where
        next : TurnOf rows n rounds k
        next = all.reached rounds some_found

        number_below : next.number < 64
        number_below = omega (arith, next.number_below, all.within)

        idle_before : (i : ℕ) → i < rounds → (o : Option ℕ) → owner (n + i) t ≡ o → o ≡ None
        idle_before i less None e = refl
        idle_before i less (Some M) e =
            let x = no_turn_before M i e in
            let no_nearer : rounds ≤ until rows n M = rw some_found at (all.none_nearer M (omega (arith, x.0)) x.1) in
            absurd (omega (arith, x.2))

        is_rest : IsRest n t rounds
        is_rest =
            record {
              empty_plan = λ empty. absurd (true≢false (sym (stands_present _ t _ _ (stands_there next.number number_below next.is_there)) ∙ empty));
              next_owned = λ here. rw next.turn_is (ap found (owned_at_turn next.number number_below next.is_there));
              none_before = λ i less. ap found (idle_before i less (owner (n + i) t) refl);
            }

    -- in either case
    pub rest_found : unwrap_or least 0 ≡ rest n t
    rest_found = by_number least refl
      where
        by_number : (o : Option ℕ) → least ≡ o → unwrap_or o 0 ≡ rest n t
        by_number None e = no_turn_rest e
        by_number (Some rounds) e = nearest_turn_rest rounds e
