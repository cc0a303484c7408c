-- The lines of a woven tree (specs/Weaving.antt): the open lines of both trees, with their periods doubled, and no round fits a line of each.
-- Assumes nothing.
use Rattle.std.specs.Prelude.{if◌then◌else◌, Option, None, Some, option_map}
use Prim.Native.Nat.{ℕ, ◌*◌}
use native.Mathlib.Nat.{add_comm}
use mathlib.Core.Path.{◌≡◌, refl, sym, ◌∙◌, ap}
use mathlib.Core.Bool.{Bool, true, false, ◌||◌}
use mathlib.Core.List.{List, [], ◌∷◌}
use Rattle.tree.specs.declared.Row.{Row}
use Rattle.tree.specs.Search.{found, or_else}
use Rattle.tree.specs.Tree.{Tree, row, product, sum_from, sum, path, is_open}
use Rattle.tree.specs.Shape.{Legal}
use Rattle.tree.specs.Record.{alone}
use Rattle.tree.specs.Lists.{Booking, ledger_of_tree, RoundFits}
use Rattle.tree.specs.Weaving.{woven, weave_refusal, woven_path, doubled, woven_booking}
use Rattle.tree.proofs.AlonePaths.{alone_row}
use Rattle.tree.proofs.Standing.{sum_row}
use Rattle.tree.proofs.Ownership.{RoundFitsLine, no_two_owners}
use Rattle.tree.proofs.Agreement.{agree_of_tree}
use Rattle.tree.proofs.WovenPaths.{woven_path_is}
use Rattle.tree.proofs.WovenLegal.{woven_legal, no_line_in_both}

-- Periods and starts

abbrev booking : List Row → Booking
booking rs = record { period = product rs; start = sum rs }

-- the path (1, 0) has the period 1 and the start 0, as a path without rows
alone_booking : (rs : List Row) → alone rs ≡ true → booking rs ≡ booking []
unfolding product sum sum_from
alone_booking rs h = ap booking (alone_row rs h)

-- so where that path is left out, period and start below the root are the same
moved_booking : (rs : List Row) → booking (if alone rs then [] else rs) ≡ booking rs
moved_booking rs = go (alone rs) refl
  where
    go : (b : Bool) → alone rs ≡ b → booking (if b then [] else rs) ≡ booking rs
    go true h = sym (alone_booking rs h)
    go false h = refl

-- under the root the period is doubled, and the start too, with the side's number added
under_root : (e : ℕ) (rs : List Row) → booking (row 2 e ∷ rs) ≡ doubled e (booking rs)
unfolding doubled product
under_root e rs = ap (λ (s : ℕ). record { period = 2 * product rs; start = s }) (sum_row (row 2 e) rs ∙ add_comm _ _)

path_booking : (e : ℕ) (rs : List Row) → booking (woven_path e rs) ≡ doubled e (booking rs)
unfolding woven_path
path_booking e rs = under_root e _ ∙ ap (doubled e) (moved_booking rs)

pub woven_bookings : (a b : Tree) (L : ℕ) → Legal a → Legal b → ledger_of_tree (woven a b) L ≡ woven_booking (ledger_of_tree a L) (ledger_of_tree b L)
unfolding woven_booking ledger_of_tree or_else
woven_bookings a b L legal_a legal_b =
    ap (option_map booking) (woven_path_is a b L legal_a legal_b) ∙ by_paths (path L a) (path L b)
  where
    by_paths : (o q : Option (List Row)) →
        option_map booking (or_else (option_map (woven_path 0) o) (option_map (woven_path 1) q))
        ≡ or_else (option_map (doubled 0) (option_map booking o)) (option_map (doubled 1) (option_map booking q))
    by_paths (Some rs) q = ap Some (path_booking 0 rs)
    by_paths None (Some rs) = ap Some (path_booking 1 rs)
    by_paths None None = refl

-- Open lines

pub woven_open : (a b : Tree) (L : ℕ) → Legal a → Legal b → is_open L (woven a b) ≡ (is_open L a || is_open L b)
unfolding is_open found or_else
woven_open a b L legal_a legal_b =
    ap found (woven_path_is a b L legal_a legal_b) ∙ by_paths (path L a) (path L b)
  where
    by_paths : (o q : Option (List Row)) → found (or_else (option_map (woven_path 0) o) (option_map (woven_path 1) q)) ≡ (found o || found q)
    by_paths (Some rs) q = refl
    by_paths None (Some rs) = refl
    by_paths None None = refl

-- No line of one tree meets a line of the other

-- both would own the round in the woven tree, and so be one line, which is open in one of the two trees at most
pub woven_never_meet : (a b : Tree) → Legal a → Legal b → weave_refusal a b ≡ None → (L M n : ℕ) (x y : Booking) → is_open L a ≡ true → is_open M b ≡ true →
    ledger_of_tree (woven a b) L ≡ Some x → ledger_of_tree (woven a b) M ≡ Some y → RoundFits n x → RoundFits n y → ⊥
unfolding RoundFits
woven_never_meet a b legal_a legal_b none_refuses L M n x y open_a open_b booked_x booked_y fits_x fits_y =
    let agree = agree_of_tree (woven a b) (woven_legal a b legal_a legal_b none_refuses) in
    let by_L : RoundFitsLine L n (woven a b) = record { period = x.period; start = x.start; stands = agree.stands L x booked_x; fits = fits_x } in
    let by_M : RoundFitsLine M n (woven a b) = record { period = y.period; start = y.start; stands = agree.stands M y booked_y; fits = fits_y } in
    no_line_in_both a b legal_a legal_b none_refuses L open_a (rw (no_two_owners L M n (woven a b) by_L by_M) open_b)
