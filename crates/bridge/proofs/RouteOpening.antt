-- Paths after opening a line: the new line's path, and what becomes of the others.
-- Assumes nothing.
use Rattle.std.specs.Prelude.{if◌then◌else◌, None, Some}
use Prim.Native.Nat.{ℕ, ◌*◌, ◌/◌, ◌<◌}
use native.Mathlib.Nat.{one-mul}
use mathlib.Core.Path.{◌≡◌, refl}
use mathlib.Core.Logic.{inl, inr}
use mathlib.Core.List.{List, [], ◌∷◌}
use lib.Dec.{ltb}
use lib.ListN.{length, take}
use Rattle.tree.specs.declared.Row.{Row}
use Rattle.tree.specs.Tree.{Tree, nothing, line, node, row, present, path, Place, at, way, step}
use Rattle.tree.specs.Opening.{divisor, book_by_digits, class_at, book_into, chosen, opened}
use Rattle.paths.specs.Rules.{split_path, booked_path}
use Rattle.tree.proofs.Put.{stands_one_edge}
use Rattle.tree.proofs.Proper.{Proper, one_edge_proper, legal_proper}
use Rattle.tree.proofs.Standing.{path_found}
use Rattle.tree.proofs.BookingAt.{Fit, FitIn}
use Rattle.tree.proofs.Opening.{MayOpen, chosen_fits, opened_empty, opened_legal, opened_only}
use Rattle.bridge.proofs.Route.{Route, route_stands, path_route, route_path, no_route_path_none}
use Rattle.bridge.proofs.RouteBooking.{one_edge_route, Reached, reached, reached_present, booked_route_beside, booked_route_new, booked_route_through}

-- Line L is opened with period p. Place a is chosen, and there stands a node of weight w and edges f.
module _ (L p : ℕ) (t : Tree) (a : Place) (w : ℕ) (f : ℕ → Tree) (may : MayOpen L p t) (chosen_is : chosen p t ≡ Some a) (at_is : at a t ≡ node w f) where
  place_reached : Reached (step a t) w f 1 a.level a.offset t
  unfolding at step way
  place_reached = reached (step a t) w f 1 a.level a.offset t at_is (one-mul (step a t))

  place_fits : Fit p (step a t) w f (class_at p t a)
  unfolding at step way FitIn
  place_fits = rw (one-mul, at_is) at (chosen_fits p t a may.period_positive (legal_proper t may.legal) chosen_is)

  opened_booked : opened L p t ≡ book_by_digits L p (class_at p t a) 1 a.level a.offset t
  unfolding opened book_into
  opened_booked = rw (reached_present place_reached, chosen_is)

  route_path_opened : (M : ℕ) (rs : List Row) → Route M (book_by_digits L p (class_at p t a) 1 a.level a.offset t) rs → path M (opened L p t) ≡ Some rs
  route_path_opened M rs h =
      route_path M (opened L p t) rs (legal_proper (opened L p t) (opened_legal L p t may)) (rw opened_booked h)

  pub opened_path_new : path L (opened L p t) ≡ Some (booked_path (way a t) (divisor p (step a t) w) (class_at p t a) (p / (step a t * divisor p (step a t) w)))
  unfolding way
  opened_path_new =
      route_path_opened L _ (booked_route_new L p (class_at p t a) (step a t) w f place_fits (legal_proper t may.legal) place_reached)

  -- a line that goes through the node
  pub opened_path_through : (M : ℕ) (rs : List Row) → path M t ≡ Some rs → take a.level rs ≡ way a t → a.level < length rs →
      path M (opened L p t) ≡ Some (if ltb (divisor p (step a t) w) w then split_path a.level (divisor p (step a t) w) rs else rs)
  unfolding way
  opened_path_through M rs e above long =
      route_path_opened M _ (booked_route_through L p (class_at p t a) (step a t) w f place_fits M rs place_reached (path_route M t rs e) above long)

  -- a line that does not
  pub opened_path_beside : (M : ℕ) (rs : List Row) → path M t ≡ Some rs → (take a.level rs ≡ way a t → a.level < length rs → ⊥) →
      path M (opened L p t) ≡ Some rs
  unfolding way
  opened_path_beside M rs e beside =
      route_path_opened M rs (booked_route_beside L p (class_at p t a) (step a t) w f M rs place_reached (path_route M t rs e) beside)

-- a line that is not open
pub opened_path_none : (L p : ℕ) (t : Tree) → MayOpen L p t → (M : ℕ) → (M ≡ L → ⊥) → path M t ≡ None → path M (opened L p t) ≡ None
opened_path_none L p t may M other e =
    no_route_path_none M (opened L p t) λ rs h.
    elim (opened_only L p t M _ _ may (route_stands M (opened L p t) rs h)) [
      | inl old ↦ path_found M t _ _ old e
      | inr new ↦ other new.0
    ]

-- The empty plan

pub opened_path_empty : (L p : ℕ) → 0 < p → path L (opened L p nothing) ≡ Some (row p 0 ∷ [])
unfolding present Proper
opened_path_empty L p positive =
    rw (opened_empty L p) (route_path L _ _ (one_edge_proper p (line L) positive refl tt) (one_edge_route L p positive))

pub opened_path_empty_other : (L p M : ℕ) → (M ≡ L → ⊥) → path M (opened L p nothing) ≡ None
opened_path_empty_other L p M other =
    rw (opened_empty L p) (no_route_path_none M _ λ rs h. other (stands_one_edge M L p _ _ (route_stands M _ rs h)).0)
