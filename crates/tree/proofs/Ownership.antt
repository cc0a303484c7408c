-- Ownership: the walk for a round finds line L exactly when L stands in the tree with a period and a start that the round fits.
-- Assumes nothing.
use Prim.Native.Nat.{ℕ, ◌+◌, ◌*◌, ◌/◌, ◌%◌, ◌≤◌}
use native.Mathlib.Nat.{mod-lt, mod-one}
use mathlib.Core.Path.{◌≡◌, refl, sym, ◌∙◌, ap}
use mathlib.Core.Logic.{◌↔◌}
use mathlib.Core.Bool.{Bool, true, false, false≢true}
use Rattle.std.specs.Prelude.{Option, None, Some}
use Rattle.std.proofs.lemmas.Option.{none-some}
use lib.Dec.{eqb}
use borrow.Author.Tests.{eqb-true, eqb-false, eq-eqb}
use Rattle.tree.specs.Tree.{Tree, nothing, line, node}
use Rattle.tree.specs.Standing.{Stands}
use Rattle.tree.specs.Asking.{owner, is_line, owns, turns}
use Rattle.tree.proofs.Digits.{digit}
use Rattle.tree.proofs.Totals.{count_at_most}
use Rattle.tree.proofs.Proper.{Proper}
use Rattle.tree.proofs.Standing.{start_below_period, stands_once}

-- line L stands in the tree with a period and a start that round n fits
pub record RoundFitsLine (L n : ℕ) (t : Tree) : Type 0 where
  pub period : ℕ
  pub start : ℕ
  pub stands : Stands L t period start
  pub fits : n % period ≡ start

pub walk_owns : (L n : ℕ) (t : Tree) → Proper t → owner n t ≡ Some L → RoundFitsLine L n t
unfolding owner Proper Stands
walk_owns L n nothing proper h = absurd (none-some L h)
walk_owns L n (line k) proper h = record { period = 1; start = 0; stands = ((cc), refl, refl); fits = mod-one n }
walk_owns L n (node w f) proper h =
    let below = walk_owns L (n / w) (f (n % w)) (proper.2 (n % w)) h in
    let edge_below = mod-lt n proper.0 in
    let start_below = start_below_period L (f (n % w)) below.period below.start below.stands in
    record {
      period = w * below.period;
      start = n % w + w * below.start;
      stands =
          record {
            edge = n % w;
            period = below.period;
            start = below.start;
            edge_below = edge_below;
            stands = below.stands;
            period_is = refl;
            start_is = refl;
          };
      fits = (digit n w below.period (n % w) below.start edge_below start_below).1 (refl, below.fits);
    }

pub stands_walk : (L n : ℕ) (t : Tree) (q u : ℕ) → Stands L t q u → n % q ≡ u → owner n t ≡ Some L
unfolding owner Stands
stands_walk L n nothing q u h fits = absurd h
stands_walk L n (line k) q u h fits = ap Some h.0
stands_walk L n (node w f) q u h fits =
    let start_below = start_below_period L (f h.edge) h.period h.start h.stands in
    let fits_sum : n % (w * h.period) ≡ h.edge + w * h.start = rw (h.period_is, h.start_is) at fits in
    let digits = (digit n w h.period h.edge h.start h.edge_below start_below).0 fits_sum in
    rw digits.0 (stands_walk L (n / w) (f h.edge) h.period h.start h.stands digits.1)

-- for every whole number n
pub owner_exactly : (L n : ℕ) (t : Tree) → Proper t → (owner n t ≡ Some L) ↔ RoundFitsLine L n t
owner_exactly L n t proper =
    (walk_owns L n t proper, λ h. stands_walk L n t h.period h.start h.stands h.fits)

pub no_two_owners : (L M n : ℕ) (t : Tree) → RoundFitsLine L n t → RoundFitsLine M n t → L ≡ M
no_two_owners L M n t a b =
    let by_L = stands_walk L n t a.period a.start a.stands a.fits in
    let by_M = stands_walk M n t b.period b.start b.stands b.fits in
    cc

-- Turns, and the test that they are counted by

-- a line has at most as many turns as there are rounds
pub turns_at_most : (L a N : ℕ) (t : Tree) → turns L a N t ≤ N
unfolding turns
turns_at_most L a N t = count_at_most N (λ i. owns L (a + i) t)

pub owns_exactly : (L n : ℕ) (t : Tree) → (owns L n t ≡ true) ↔ (owner n t ≡ Some L)
unfolding owns is_line
owns_exactly L n t = by_owner (owner n t)
  where
    by_owner : (o : Option ℕ) → (is_line L o ≡ true) ↔ (o ≡ Some L)
    by_owner None = (λ h. absurd (false≢true h), λ h. absurd (none-some L h))
    by_owner (Some M) = (λ h. ap Some (eqb-true M L h), λ h. eq-eqb M L cc)

-- a line that stands in the tree owns the rounds that fit its period and start
pub owns_by_times : (L n : ℕ) (t : Tree) (q u : ℕ) → Proper t → Stands L t q u → owns L n t ≡ eqb (n % q) u
owns_by_times L n t q u proper stands = by_test (eqb (n % q) u) refl (owns L n t) refl
  where
    by_test : (fits : Bool) → eqb (n % q) u ≡ fits → (found : Bool) → owns L n t ≡ found → found ≡ fits
    by_test true e found f = sym f ∙ (owns_exactly L n t).1 (stands_walk L n t q u stands (eqb-true _ _ e))
    by_test false e false f = refl
    by_test false e true f =
        let owner = walk_owns L n t proper ((owns_exactly L n t).0 f) in
        let same = stands_once L t owner.period owner.start q u proper owner.stands stands in
        absurd (eqb-false _ _ e (rw (same.0, same.1) at owner.fits))
