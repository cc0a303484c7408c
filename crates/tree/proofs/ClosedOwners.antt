-- A close takes no round from another line: the owners of other lines' rounds stay (`closed`, specs/Closing.antt; `owner`, specs/Asking.antt).
-- Assumes nothing.
use Prim.Native.Nat.{ℕ}
use mathlib.Core.Path.{◌≡◌}
use mathlib.Core.Logic.{◌↔◌}
use Rattle.std.specs.Prelude.{Some}
use Rattle.tree.specs.Tree.{Tree}
use Rattle.tree.specs.Asking.{owner}
use Rattle.tree.specs.Shape.{Legal}
use Rattle.tree.specs.Closing.{closed}
use Rattle.tree.proofs.Proper.{legal_proper}
use Rattle.tree.proofs.Ownership.{walk_owns, stands_walk}
use Rattle.tree.proofs.Closing.{stands_closed, closed_stands, closed_legal}

-- for every whole number n
pub closed_keeps_owners : (L M n : ℕ) (t : Tree) → Legal t → (M ≡ L → ⊥) → (owner n t ≡ Some M) ↔ (owner n (closed L t) ≡ Some M)
closed_keeps_owners L M n t legal other = (
  λ h.
      let x = walk_owns M n t (legal_proper t legal) h in
      stands_walk M n (closed L t) x.period x.start (stands_closed L M t x.period x.start x.stands other) x.fits,
  λ h.
      let x = walk_owns M n (closed L t) (legal_proper (closed L t) (closed_legal L t legal)) h in
      stands_walk M n t x.period x.start (closed_stands L M t x.period x.start x.stands).0 x.fits,
)
