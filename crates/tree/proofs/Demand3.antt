-- Demand 3 over the definitions (specs/Demand3.antt): it holds of every list of opens and closes, with any arguments, that the rules answer.
-- Assumes nothing.
use Rattle.std.specs.Prelude.{if◌then◌else◌, Option, None, Some}
use Prim.Native.Nat.{ℕ, ◌<◌, ◌≤◌}
use native.Mathlib.Omega.{arith}
use mathlib.Core.Path.{◌≡◌, refl, sym, ◌∙◌, ap}
use mathlib.Core.Logic.{◌↔◌}
use mathlib.Core.Bool.{Bool, true, false, not, and-eq-true_iff}
use mathlib.Core.List.{List}
use lib.ListN.{length}
use borrow.Author.Tests.{not-true}
use Rattle.tree.specs.Search.{found}
use Rattle.tree.specs.Tree.{Tree, nothing, present, is_open, path, path_of, Place}
use Rattle.tree.specs.Shape.{Legal}
use Rattle.tree.specs.Opening.{chosen, NoCandidate, start_given}
use Rattle.tree.specs.Asking.{owner}
use Rattle.tree.specs.Refusals.{first_refusal, line_above_63, no_room, earlier_checks}
use Rattle.tree.specs.Calls.{Call, open_line, close_line, Answer, booked, done, refused, refusal, reply, answer_unless, answer}
use Rattle.tree.specs.Lists.{Booking, Ledger, ledger_of_tree, calls_of, ledger_after, reference_from, reference, answered_from, RoundFits}
use Rattle.tree.specs.Demand3.{SomeOpen, Refused, OpenAnswered, CloseAnswered, Demand3From, Demand3}
use Rattle.tree.proofs.Searching.{found_some, found_none}
use Rattle.tree.proofs.Proper.{legal_proper}
use Rattle.tree.proofs.UnderEdge.{stands_present}
use Rattle.tree.proofs.Ownership.{walk_owns, stands_walk}
use Rattle.tree.proofs.ChosenCandidate.{chosen_none, no_candidate_chosen_none}
use Rattle.tree.proofs.Clearing.{proper_present_line}
use Rattle.tree.proofs.Checks.{refused_earlier, refused_by_5, close_allowed, close_refused}
use Rattle.tree.proofs.Numbering.{stands_number}
use Rattle.tree.proofs.Standing.{stands_open}
use Rattle.tree.proofs.Depth.{at_most_11_above}
use Rattle.tree.proofs.Agreement.{Agree, ledger_open, agree_of_tree, point, agree_along, calls_answered, agree_with_one}

-- What a call answers

pub answer_refused : (c : Call) (t : Tree) (n : ℕ) → refusal c t ≡ Some n → answer c t ≡ refused n
unfolding answer answer_unless
answer_refused c t n h = rw h

answer_given : (c : Call) (t : Tree) → refusal c t ≡ None → answer c t ≡ reply c t
unfolding answer answer_unless
answer_given c t h = rw h

booked_not_refused : (a : Answer) (s : ℕ) → a ≡ booked s → Refused a → ⊥
unfolding Refused
booked_not_refused a s h r = let e = r.1 in let z : ◌≡◌ {A = ℕ} 0 1 = cc in omega arith

done_not_refused : (a : Answer) → a ≡ done → Refused a → ⊥
unfolding Refused
done_not_refused a h r = let e = r.1 in let z : ◌≡◌ {A = ℕ} 0 1 = cc in omega arith

-- a call that was not refused was answered as the rules say
given_unless_refused : (c : Call) (t : Tree) → (Refused (answer c t) → ⊥) → answer c t ≡ reply c t
unfolding Refused
given_unless_refused c t not_refused = go (refusal c t) refl
  where
    go : (o : Option ℕ) → refusal c t ≡ o → answer c t ≡ reply c t
    go None e = answer_given c t e
    go (Some n) e = absurd (not_refused (n, answer_refused c t n e))

-- An open, and a close, at a point of the list

module _ (ledger : Ledger) (t : Tree) (agree : Agree ledger t) where
  -- check 5 refuses exactly when some line is open and no node is a candidate
  no_room_exactly : (p : ℕ) → (no_room p t ≡ true) ↔ (SomeOpen ledger × NoCandidate p t)
  unfolding no_room SomeOpen
  no_room_exactly p = (refuses, refused_so)
    where
      refuses : no_room p t ≡ true → SomeOpen ledger × NoCandidate p t
      refuses h =
          let both = (and-eq-true_iff (present t) (not (found (chosen p t)))).0 h in
          let x = proper_present_line t (legal_proper t agree.legal) both.0 in (
            (x.0, record { period = x.1; start = x.2 }, agree.entered x.0 x.1 x.2 x.3),
            chosen_none p t (legal_proper t agree.legal) (found_none (chosen p t) (not-true (found (chosen p t)) both.1)),
          )

      refused_so : SomeOpen ledger × NoCandidate p t → no_room p t ≡ true
      refused_so h =
          let open_line_there = h.0 in
          let b = open_line_there.1 in
          let none_chosen = no_candidate_chosen_none p t (legal_proper t agree.legal) h.1 in
          (and-eq-true_iff (present t) (not (found (chosen p t)))).1 (
            stands_present open_line_there.0 t b.period b.start (agree.stands open_line_there.0 b open_line_there.2),
            ap (λ (o : Option Place). not (found o)) none_chosen ∙ (unfold found in refl),
          )

  module _ (L p : ℕ) where
    -- the earlier checks, with a line open when the ledger has it so
    abbrev earlier : Option ℕ
    earlier = first_refusal (earlier_checks L p (found (ledger L)))

    earlier_on_tree : (o : Option ℕ) → earlier ≡ o → first_refusal (earlier_checks L p (is_open L t)) ≡ o
    earlier_on_tree o h = ap (λ (b : Bool). first_refusal (earlier_checks L p b)) (sym (ledger_open ledger t agree L)) ∙ h

    refused_full : earlier ≡ None → no_room p t ≡ true → answer (open_line L p) t ≡ refused 5
    unfolding refusal
    refused_full passed full = answer_refused (open_line L p) t 5 (rw (refused_by_5 L p t (earlier_on_tree None passed), full))

    booked_free : earlier ≡ None → no_room p t ≡ false → answer (open_line L p) t ≡ booked (start_given p t)
    unfolding refusal reply
    booked_free passed free = answer_given (open_line L p) t (rw (refused_by_5 L p t (earlier_on_tree None passed), free))

    full_if_refused : earlier ≡ None → Refused (answer (open_line L p) t) → no_room p t ≡ true
    full_if_refused passed was_refused = go (no_room p t) refl
      where
        go : (b : Bool) → no_room p t ≡ b → no_room p t ≡ true
        go true e = e
        go false e = absurd (booked_not_refused _ (start_given p t) (booked_free passed e) was_refused)

    open_answered : OpenAnswered ledger t L p (answer (open_line L p) t)
    unfolding Refused refusal reply
    open_answered =
        record {
          failed_earlier = λ n failed. answer_refused (open_line L p) t n (refused_earlier L p t n (earlier_on_tree (Some n) failed));
          refused_exactly =
              λ passed. (
                λ was_refused. (no_room_exactly p).0 (full_if_refused passed was_refused),
                λ reason. (5, refused_full passed ((no_room_exactly p).1 reason)),
              );
          refused_with_5 = λ passed was_refused. refused_full passed (full_if_refused passed was_refused);
          booked_by_the_rules = given_unless_refused (open_line L p) t;
        }

  module _ (L : ℕ) where
    close_not_open : ledger L ≡ None → answer (close_line L) t ≡ refused (if line_above_63 L then 1 else 4)
    unfolding refusal found
    close_not_open e =
        answer_refused (close_line L) t _ (close_refused L t (sym (ledger_open ledger t agree L) ∙ ap found e))

    not_open_if_refused : Refused (answer (close_line L) t) → ledger L ≡ None
    unfolding refusal reply
    not_open_if_refused was_refused = go (ledger L) refl
      where
        go : (o : Option Booking) → ledger L ≡ o → ledger L ≡ None
        go None e = e
        go (Some b) e =
            let stands = agree.stands L b e in
            let allowed = close_allowed L t (stands_number L t b.period b.start agree.legal stands) (stands_open L t b.period b.start stands) in
            absurd (done_not_refused _ (answer_given (close_line L) t allowed) was_refused)

    close_answered : CloseAnswered ledger L (answer (close_line L) t)
    unfolding Refused reply
    close_answered =
        record {
          refused_exactly = (not_open_if_refused, λ e. (_, close_not_open e));
          refused_with = λ was_refused. close_not_open (not_open_if_refused was_refused);
          done_else = given_unless_refused (close_line L) t;
        }

-- The ledger and the tree that agree, after the list

module _ (ledger : Ledger) (t : Tree) (agree : Agree ledger t) where
  owned_exactly : (n L : ℕ) → (owner n t ≡ Some L) ↔ ((b : Booking) × (ledger L ≡ Some b) × RoundFits n b)
  unfolding RoundFits
  owned_exactly n L = (
    λ h. (let x = walk_owns L n t (legal_proper t agree.legal) h in
        (record { period = x.period; start = x.start }, agree.entered L x.period x.start x.stands, x.fits)),
    λ h. stands_walk L n t h.0.period h.0.start (agree.stands L h.0 h.1) h.2,
  )

  fits_one : (n L M : ℕ) (b c : Booking) → ledger L ≡ Some b → ledger M ≡ Some c → RoundFits n b → RoundFits n c → L ≡ M
  fits_one n L M b c at_L at_M fits_b fits_c =
      let by_L = (owned_exactly n L).1 (b, at_L, fits_b) in
      let by_M = (owned_exactly n M).1 (c, at_M, fits_c) in
      cc

  eleven_above : (L : ℕ) (b : Booking) → ledger L ≡ Some b → length (path_of L t) ≤ 11
  unfolding is_open path_of
  eleven_above L b e =
      let x = found_some (path L t) (stands_open L t b.period b.start (agree.stands L b e)) in
      rw x.1 (at_most_11_above t L x.0 agree.legal x.1)

  none_above_63 : (L : ℕ) → 63 < L → ledger L ≡ None
  none_above_63 L above = go (ledger L) refl
    where
      go : (o : Option Booking) → ledger L ≡ o → ledger L ≡ None
      go None e = e
      go (Some b) e =
          let most = stands_number L t b.period b.start agree.legal (agree.stands L b e) in
          absurd (omega arith)

-- The theorem, of every legal first tree

pub demand_3_from : (first : Tree) → Legal first → (calls : List Call) → Demand3From first (answered_from first calls) (reference_from first calls)
unfolding ledger_after
demand_3_from first legal calls =
    let entries = answered_from first calls in
    let ledger = ledger_after first entries in
    let t = reference_from first calls in
    let at_first = agree_of_tree first legal in
    let agree = agree_along calls (ledger_of_tree first) first at_first in
    record {
      tree = ap (reference_from first) (sym (calls_answered calls first));
      open_lines = λ L. sym (ledger_open ledger t agree L);
      ownership = owned_exactly ledger t agree;
      one_line_a_round = fits_one ledger t agree;
      nodes_above = λ L b e. rw (calls_answered calls first) (eleven_above ledger t agree L b e);
      line_range = none_above_63 ledger t agree;
      opens = λ before L p a later e. (let x = point calls (ledger_of_tree first) first at_first before _ later e in
          rw x.by_the_rules (open_answered (ledger_after first before) (reference_from first (calls_of before)) x.agree L p));
      closes = λ before L a later e. (let x = point calls (ledger_of_tree first) first at_first before _ later e in
          rw x.by_the_rules (close_answered (ledger_after first before) (reference_from first (calls_of before)) x.agree L));
    }

-- the ledger after the list is that with which another list begins at the tree that was left
pub ledger_left : (first : Tree) → Legal first → (calls : List Call) (L : ℕ) → ledger_after first (answered_from first calls) L ≡ ledger_of_tree (reference_from first calls) L
unfolding ledger_after
ledger_left first legal calls =
    let agree = agree_along calls (ledger_of_tree first) first (agree_of_tree first legal) in
    agree_with_one _ _ (reference_from first calls) agree (agree_of_tree _ agree.legal)

-- and so of the empty plan
pub demand_3 : (calls : List Call) → Demand3 (answered_from nothing calls) (reference calls)
unfolding Demand3 reference Legal
demand_3 calls = demand_3_from nothing tt calls
