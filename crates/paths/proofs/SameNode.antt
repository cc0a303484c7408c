-- Laws of `same_node`, and the invariant of `same_node`'s loop: the two paths go through the same node exactly where what is left of them does.
-- Assumes nothing.
use Prim.Native.Nat.{ℕ, zero, suc, ◌+◌, ◌-◌, ◌<◌, ◌≤◌, zero-le}
use native.Mathlib.Omega.{arith}
use native.Mathlib.Nat.{sub-zero, zero-lt-suc}
use mathlib.Core.Path.{◌≡◌, refl, sym, ◌∙◌, ap, subst}
use mathlib.Core.Logic.{◌⊎◌, inl, inr}
use mathlib.Core.Bool.{Bool, true, false, ◌&&◌, false≢true, and-eq-true_iff}
use mathlib.Core.List.{List, [], ◌∷◌}
use lib.Dec.{eqb}
use lib.ListN.{length}
use borrow.Author.Tests.{eqb-true, eqb-false, eq-eqb, ne_eqb}
use Rattle.tree.specs.declared.Row.{Row}
use Rattle.tree.specs.Record.{row_at, path_at}
use Rattle.paths.specs.Rules.{row_of, same_node}
use Rattle.paths.proofs.PathRest.{zero_or_not, path_rest, path_rest_start, path_rest_row, path_rest_end}
use Rattle.paths.proofs.PathRows.{row_in_path, weight_in_path}

pub record SameWay (rows : List ℕ) (a b l k : ℕ) : Type 0 where
  pub within : k ≤ l
  pub same : same_node l (path_at rows a) (path_at rows b) ≡ same_node (l - k) (path_rest rows a k) (path_rest rows b k)

-- a path without rows goes through no node
pub same_node_none : (l : ℕ) (ps : List Row) → same_node l ps [] ≡ false
unfolding same_node
same_node_none l [] = refl
same_node_none l (p ∷ ps) = refl

eqb_comm : (m n : ℕ) → eqb m n ≡ eqb n m
eqb_comm m n = go (eqb m n) refl
  where
    go : (b : Bool) → eqb m n ≡ b → eqb m n ≡ eqb n m
    go true e = e ∙ sym (eq-eqb n m (sym (eqb-true m n e)))
    go false e = e ∙ sym (ne_eqb n m (λ same. eqb-false m n e (sym same)))

pub same_node_comm : (l : ℕ) (ps qs : List Row) → same_node l ps qs ≡ same_node l qs ps
unfolding same_node
same_node_comm l [] [] = refl
same_node_comm l [] (q ∷ qs) = refl
same_node_comm l (p ∷ ps) [] = refl
same_node_comm zero (p ∷ ps) (q ∷ qs) = refl
same_node_comm (suc l) (p ∷ ps) (q ∷ qs) = rw (eqb_comm p.edge q.edge, same_node_comm l ps qs)

-- two paths through a node go on there
pub same_node_goes_on : (l : ℕ) (ps qs : List Row) → same_node l ps qs ≡ true → (l < length ps) × (l < length qs)
unfolding same_node
same_node_goes_on l [] qs h = absurd (false≢true h)
same_node_goes_on l (p ∷ ps) [] h = absurd (false≢true h)
same_node_goes_on zero (p ∷ ps) (q ∷ qs) h = (zero-lt-suc (length ps), zero-lt-suc (length qs))
same_node_goes_on (suc l) (p ∷ ps) (q ∷ qs) h =
    let later = same_node_goes_on l ps qs ((and-eq-true_iff (eqb p.edge q.edge) (same_node l ps qs)).0 h).1 in
    omega arith

-- where the edges above the level are the same and both paths go on, the node is the same
pub same_node_by_edges : (l : ℕ) (ps qs : List Row) → l < length ps → l < length qs → ((k : ℕ) → k < l → (row_of k ps).edge ≡ (row_of k qs).edge) → same_node l ps qs ≡ true
unfolding same_node row_of
same_node_by_edges l [] qs h t same = absurd (omega arith)
same_node_by_edges l (p ∷ ps) [] h t same = absurd (omega arith)
same_node_by_edges zero (p ∷ ps) (q ∷ qs) h t same = refl
same_node_by_edges (suc l) (p ∷ ps) (q ∷ qs) h t same =
    rw (eq-eqb _ _ (same 0 (omega arith))) (same_node_by_edges l ps qs (omega arith) (omega arith) (λ k below. same (suc k) (omega arith)))

-- of two paths through one node, a further path goes through that of the one exactly where it goes through that of the other
pub same_node_either : (l : ℕ) (ps qs : List Row) → same_node l ps qs ≡ true → (rs : List Row) → same_node l ps rs ≡ same_node l qs rs
unfolding same_node
same_node_either l [] qs h rs = absurd (false≢true h)
same_node_either l (p ∷ ps) [] h rs = absurd (false≢true h)
same_node_either l (p ∷ ps) (q ∷ qs) h [] = refl
same_node_either zero (p ∷ ps) (q ∷ qs) h (r ∷ rs) = refl
same_node_either (suc l) (p ∷ ps) (q ∷ qs) h (r ∷ rs) =
    let both = (and-eq-true_iff (eqb p.edge q.edge) (same_node l ps qs)).0 h in
    rw (eqb-true p.edge q.edge both.0, same_node_either l ps qs both.1 rs)

-- d was read as line N's edge in row l: a test of the edge that N takes at the node is one of d
pub edge_read : (rows : List ℕ) (ps : List Row) (l N : ℕ) {d : ℕ} → d ≡ (row_at rows N l).edge → (test : ℕ → Bool) →
    (same_node l ps (path_at rows N) && test (row_of l (path_at rows N)).edge) ≡ (same_node l ps (path_at rows N) && test d)
edge_read rows ps l N {d} read test = go (same_node l ps (path_at rows N)) refl
  where
    go : (b : Bool) → same_node l ps (path_at rows N) ≡ b → (b && test (row_of l (path_at rows N)).edge) ≡ (b && test d)
    go false apart = refl
    go true through = ap (λ (r : Row). test r.edge) (row_in_path rows N (same_node_goes_on l ps (path_at rows N) through).1) ∙ ap test (sym read)

-- w was read as the weight in row l of a line: where it is 0, no path goes through a node with that line's there
module _ (rows : List ℕ) (l : ℕ) (ps : List Row) (N : ℕ) {w : ℕ} (read : w ≡ (row_at rows N l).weight) (zero_weight : w ≡ 0) where
  pub second_ends_above : same_node l ps (path_at rows N) ≡ false
  second_ends_above = go (same_node l ps (path_at rows N)) refl
    where
      go : (b : Bool) → same_node l ps (path_at rows N) ≡ b → same_node l ps (path_at rows N) ≡ false
      go false apart = apart
      go true through = absurd (weight_in_path rows N (same_node_goes_on l ps (path_at rows N) through).1 (sym read ∙ zero_weight))

  pub first_ends_above : same_node l (path_at rows N) ps ≡ false
  first_ends_above = same_node_comm l (path_at rows N) ps ∙ second_ends_above

-- the loop has come to the level
pub level_reached : {rows : List ℕ} {a b l k : ℕ} → SameWay rows a b l k → l ≤ k → SameWay rows a b l l
level_reached {rows} {a} {b} {l} {k} way past = subst (λ (n : ℕ). SameWay rows a b l n) (omega arith) way

pub same_way_start : (rows : List ℕ) (a b l : ℕ) → SameWay rows a b l 0
same_way_start rows a b l = record { within = zero-le; same = rw (path_rest_start rows a, path_rest_start rows b, sub-zero) }

module _ {rows : List ℕ} {a b l k : ℕ} (way : SameWay rows a b l k) (below : k < 11) where
  -- w was read as the first path's weight
  module _ {w : ℕ} (read : w ≡ (row_at rows a k).weight) where
    pub first_path_ended : w ≡ 0 → same_node l (path_at rows a) (path_at rows b) ≡ false
    unfolding same_node
    first_path_ended zero_weight = way.same ∙ rw (path_rest_end rows a k below read zero_weight)

  -- v was read as the second one's
  module _ {v : ℕ} (read : v ≡ (row_at rows b k).weight) where
    pub second_path_ended : v ≡ 0 → same_node l (path_at rows a) (path_at rows b) ≡ false
    second_path_ended zero_weight = way.same ∙ rw (path_rest_end rows b k below read zero_weight) (same_node_none (l - k) (path_rest rows a k))

  -- both have a weight there
  module _ {w v : ℕ} (read : w ≡ (row_at rows a k).weight) (read_second : v ≡ (row_at rows b k).weight) (some_weight : w ≡ 0 → ⊥) (second_weight : v ≡ 0 → ⊥) where
    pub both_go_on : l ≤ k → same_node l (path_at rows a) (path_at rows b) ≡ true
    unfolding same_node
    both_go_on past =
        let none_left : l - k ≡ 0 = omega arith in
        way.same ∙ rw (none_left, path_rest_row rows a k below read some_weight, path_rest_row rows b k below read_second second_weight)

    -- above the level, the edges in row k decide
    edges_decide : k < l → same_node l (path_at rows a) (path_at rows b)
        ≡ (eqb (row_at rows a k).edge (row_at rows b k).edge && same_node (l - (k + 1)) (path_rest rows a (k + 1)) (path_rest rows b (k + 1)))
    unfolding same_node
    edges_decide above =
        let one_more : l - k ≡ suc (l - (k + 1)) = omega arith in
        way.same ∙ rw (one_more, path_rest_row rows a k below read some_weight, path_rest_row rows b k below read_second second_weight)

  -- above the level, e and d were read as their edges
  module _ (above : k < l) {e d : ℕ} (read_edge : e ≡ (row_at rows a k).edge) (read_other : d ≡ (row_at rows b k).edge) where
    pub ways_differ : (e ≡ d → ⊥) → same_node l (path_at rows a) (path_at rows b) ≡ false
    ways_differ differ = go (zero_or_not (row_at rows a k).weight) (zero_or_not (row_at rows b k).weight)
      where
        go : ((row_at rows a k).weight ≡ 0) ⊎ ((row_at rows a k).weight ≡ 0 → ⊥) → ((row_at rows b k).weight ≡ 0) ⊎ ((row_at rows b k).weight ≡ 0 → ⊥) →
            same_node l (path_at rows a) (path_at rows b) ≡ false
        go (inl z) second = first_path_ended refl z
        go (inr n) (inl z) = second_path_ended refl z
        go (inr n) (inr m) = edges_decide refl refl n m above ∙ rw (ne_eqb _ _ (λ s. differ (read_edge ∙ s ∙ sym read_other)))

    pub same_way_more : {w v : ℕ} → w ≡ (row_at rows a k).weight → v ≡ (row_at rows b k).weight → (w ≡ 0 → ⊥) → (v ≡ 0 → ⊥) → e ≡ d → SameWay rows a b l (k + 1)
    same_way_more read read_second some_weight second_weight one_edge = record {
      within = omega arith;
      same = edges_decide read read_second some_weight second_weight above ∙ rw (eq-eqb _ _ (sym read_edge ∙ one_edge ∙ read_other));
    }
