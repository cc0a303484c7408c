-- Nodes joined level by level on the way along a path (`at_level`, specs/Joining.antt), from the deepest level up, are the nodes joined up (`joined_up` of crate tree).
-- Assumes nothing.
use Prim.Native.Nat.{ℕ, zero, suc}
use mathlib.Core.Path.{◌≡◌, refl, sym, ◌∙◌, ap}
use mathlib.Core.List.{List, [], ◌∷◌}
use lib.ListN.{length}
use Rattle.std.specs.Prelude.{None}
use Rattle.tree.specs.declared.Row.{Row}
use Rattle.tree.specs.Tree.{Tree, nothing, line, node}
use Rattle.tree.specs.Opening.{put}
use Rattle.tree.specs.Closing.{join, join_times, join_fully, joined_up}
use Rattle.tree.proofs.Put.{put_same, put_twice, put_itself}
use Rattle.tree.proofs.JoinedUp.{OfJoins}
use Rattle.tree.proofs.Joining.{join_none}
use Rattle.tree.proofs.JoinsEnd.{joins_no_more}
use Rattle.bridge.specs.Joining.{along, at_level, joined_below, weight_to_join}

-- what holds of each join holds of a change at a level of the way that it holds of
module _ (R : Tree → Tree → Type 0) (holds : OfJoins R) (change : Tree → Tree) (each : (t : Tree) → R t (change t)) where
  pub at_level_has : (l : ℕ) (ps : List Row) (t : Tree) → R t (at_level change l ps t)
  unfolding at_level
  at_level_has l [] t = holds.itself t
  at_level_has zero (r ∷ rs) t = each t
  at_level_has (suc l) (r ∷ rs) nothing = holds.itself nothing
  at_level_has (suc l) (r ∷ rs) (line n) = holds.itself (line n)
  at_level_has (suc l) (r ∷ rs) (node w f) = holds.under_an_edge w r.edge f (at_level change l rs (f r.edge)) (at_level_has l rs (f r.edge))

-- Two changes at one level are one

pub at_level_twice : (g h : Tree → Tree) (l : ℕ) (ps : List Row) (t : Tree) → at_level g l ps (at_level h l ps t) ≡ at_level (λ x. g (h x)) l ps t
unfolding at_level
at_level_twice g h l [] t = refl
at_level_twice g h zero (r ∷ rs) t = refl
at_level_twice g h (suc l) (r ∷ rs) nothing = refl
at_level_twice g h (suc l) (r ∷ rs) (line n) = refl
at_level_twice g h (suc l) (r ∷ rs) (node w f) =
    let below = at_level h l rs (f r.edge) in
    ap (node w) (put_twice r.edge _ below f ∙ ap (λ x. put r.edge x f) (ap (at_level g l rs) (put_same r.edge r.edge below f refl) ∙ at_level_twice g h l rs (f r.edge)))

-- A change that leaves what stands at the level as it is changes nothing

level_same : (change : Tree → Tree) (l : ℕ) (ps : List Row) (t : Tree) → change (along l ps t) ≡ along l ps t → at_level change l ps t ≡ t
unfolding at_level along
level_same change l [] t h = refl
level_same change zero (r ∷ rs) t h = h
level_same change (suc l) (r ∷ rs) nothing h = refl
level_same change (suc l) (r ∷ rs) (line k) h = refl
level_same change (suc l) (r ∷ rs) (node w f) h =
    ap (node w) (ap (λ x. put r.edge x f) (level_same change l rs (f r.edge) h) ∙ put_itself r.edge f)

pub joined_no_times : (l : ℕ) (ps : List Row) (t : Tree) → at_level (join_times 0) l ps t ≡ t
unfolding join_times
joined_no_times l ps t = level_same (join_times 0) l ps t refl

none_joined : (t : Tree) (n : ℕ) → weight_to_join t ≡ None → join_times n t ≡ t
unfolding weight_to_join
none_joined nothing n h = joins_no_more nothing (unfold join in refl) n
none_joined (line k) n h = joins_no_more (line k) (unfold join in refl) n
none_joined (node w f) n h = joins_no_more (node w f) (join_none w f h) n

-- where no node can be joined at the level, joining there changes nothing
pub level_still : (n l : ℕ) (ps : List Row) (t : Tree) → weight_to_join (along l ps t) ≡ None → at_level (join_times n) l ps t ≡ t
level_still n l ps t h = level_same (join_times n) l ps t (none_joined (along l ps t) n h)

-- All levels, from the deepest one up

-- where there is no node, there is nothing to join
nothing_below : (k : ℕ) (ps : List Row) → joined_below k ps nothing ≡ nothing
unfolding joined_below
nothing_below zero ps = refl
nothing_below (suc k) ps = ap (joined_below k ps) (at_any k ps) ∙ nothing_below k ps
  where
    at_any : (l : ℕ) (ps : List Row) → at_level join_fully l ps nothing ≡ nothing
    at_any l [] = unfold at_level in refl
    at_any zero (r ∷ rs) = unfold at_level in (unfold join_fully in none_joined nothing 10 (unfold weight_to_join in refl))
    at_any (suc l) (r ∷ rs) = unfold at_level in refl

line_below : (n k : ℕ) (ps : List Row) → joined_below k ps (line n) ≡ line n
unfolding joined_below
line_below n zero ps = refl
line_below n (suc k) ps = ap (joined_below k ps) (at_any k ps) ∙ line_below n k ps
  where
    at_any : (l : ℕ) (ps : List Row) → at_level join_fully l ps (line n) ≡ line n
    at_any l [] = unfold at_level in refl
    at_any zero (r ∷ rs) = unfold at_level in (unfold join_fully in none_joined (line n) 10 (unfold weight_to_join in refl))
    at_any (suc l) (r ∷ rs) = unfold at_level in refl

root_last : (k : ℕ) (r : Row) (rs : List Row) (w : ℕ) (f : ℕ → Tree) → joined_below (suc k) (r ∷ rs) (node w f) ≡ join_fully (node w (put r.edge (joined_below k rs (f r.edge)) f))
unfolding joined_below at_level
root_last zero r rs w f = ap join_fully (ap (node w) (sym (put_itself r.edge f)))
root_last (suc k) r rs w f =
    let below = at_level join_fully k rs (f r.edge) in
    let g = put r.edge below f in
    root_last k r rs w g
    ∙ ap (λ h. join_fully (node w h)) (put_twice r.edge _ below f ∙ ap (λ x. put r.edge (joined_below k rs x) f) (put_same r.edge r.edge below f refl))

pub joined_up_by_levels : (ps : List Row) (t : Tree) → joined_below (length ps) ps t ≡ joined_up ps t
unfolding joined_up joined_below
joined_up_by_levels [] t = refl
joined_up_by_levels (r ∷ rs) nothing = nothing_below (suc (length rs)) (r ∷ rs)
joined_up_by_levels (r ∷ rs) (line n) = line_below n (suc (length rs)) (r ∷ rs)
joined_up_by_levels (r ∷ rs) (node w f) = root_last (length rs) r rs w f ∙ ap (λ x. join_fully (node w (put r.edge x f))) (joined_up_by_levels rs (f r.edge))
