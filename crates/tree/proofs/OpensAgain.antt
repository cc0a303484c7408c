-- An open that is not refused is not refused either after another line was opened and closed (specs/Closing.antt).
-- Assumes nothing.
use Rattle.std.specs.Prelude.{Option, None, Some, if◌then◌else◌}
use Prim.Native.Nat.{ℕ}
use mathlib.Core.Path.{◌≡◌, refl, sym, ◌∙◌, ap}
use mathlib.Core.Logic.{inl, inr}
use mathlib.Core.Bool.{Bool, true, false, not, ◌&&◌, false≢true, true≢false, and-false}
use Rattle.tree.specs.Search.{found}
use Rattle.tree.specs.Tree.{Tree, nothing, present, is_open, Place}
use Rattle.tree.specs.Shape.{Legal}
use Rattle.tree.specs.Opening.{NoCandidate, chosen, opened}
use Rattle.tree.specs.Closing.{closed}
use Rattle.tree.specs.Refusals.{no_room, open_refusal}
use Rattle.tree.proofs.UnderEdge.{absent_nothing}
use Rattle.tree.proofs.Put.{stands_one_edge}
use Rattle.tree.proofs.Proper.{legal_proper}
use Rattle.tree.proofs.Standing.{open_stands, stands_open}
use Rattle.tree.proofs.ChosenCandidate.{chosen_is_chosen, chosen_none}
use Rattle.tree.proofs.Opening.{MayOpen, room_chosen, opened_empty, opened_legal, opened_only}
use Rattle.tree.proofs.Closing.{closed_stands, last_line_closed, closed_legal}
use Rattle.tree.proofs.FitGivenBack.{fit_given_back}
use Rattle.tree.proofs.Checks.{range_inside, open_may, open_last_check}

module _ (L p : ℕ) (t : Tree) (may : MayOpen L p t) where
  -- the tree after line L was opened and closed
  abbrev left : Tree
  left = closed L (opened L p t)

  left_legal : Legal left
  left_legal = closed_legal L (opened L p t) (opened_legal L p t may)

  -- a line that does not stand before does not stand in it
  not_open_left : (M : ℕ) → is_open M t ≡ false → is_open M left ≡ false
  not_open_left M absent = go (is_open M left) refl
    where
      go : (b : Bool) → is_open M left ≡ b → is_open M left ≡ false
      go false e = e
      go true e =
          let x = closed_stands L M (opened L p t) _ _ (open_stands M left e) in
          elim (opened_only L p t M _ _ may x.0) [
            | inl old ↦ absurd (false≢true (sym absent ∙ stands_open M t _ _ old))
            | inr new ↦ absurd (x.1 new.0)
          ]

  -- a first line leaves the empty plan
  nothing_left : present t ≡ false → left ≡ nothing
  nothing_left gone =
      last_line_closed L (opened L p t) λ M q u h.
      (stands_one_edge M L p q u (rw (absent_nothing t gone, opened_empty L p) at h)).0

  room_left : (x : ℕ) → no_room x t ≡ false → no_room x left ≡ false
  unfolding no_room found NoCandidate present
  room_left x room = by_root (present t) refl
    where
      by_search : (a : Place) → chosen x t ≡ Some a → (o : Option Place) → chosen x left ≡ o → no_room x left ≡ false
      by_search a e None none =
          let is_candidate = (chosen_is_chosen x t a (legal_proper t may.legal) e).is_candidate in
          let b = fit_given_back L p t may x a is_candidate in
          absurd (true≢false (sym b.1 ∙ chosen_none x left (legal_proper left left_legal) none b.0))
      by_search a e (Some b) some = ap (λ (o : Option Place). present left && not (found o)) some ∙ and-false (present left)

      by_root : (b : Bool) → present t ≡ b → no_room x left ≡ false
      by_root true here = let a = room_chosen x t here room in by_search a.0 a.1 (chosen x left) refl
      by_root false gone = ap (no_room x) (nothing_left gone)

pub opens_again : (L p : ℕ) (t : Tree) → Legal t → open_refusal L p t ≡ None → (M x : ℕ) → open_refusal M x t ≡ None → open_refusal M x (closed L (opened L p t)) ≡ None
opens_again L p t legal h M x k =
    let may = open_may L p t legal h in
    let other = open_may M x t legal k in
    open_last_check M x (closed L (opened L p t)) other.number_in_range (range_inside x other.period_positive other.period_in_range) (not_open_left L p t may M other.not_open)
    ∙ ap (λ (b : Bool). if b then Some 5 else None) (room_left L p t may x other.has_room)
