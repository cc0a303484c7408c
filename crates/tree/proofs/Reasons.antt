-- Why an open is refused with 5 (specs/Explained.antt, document 02, Ask 7): what a reason says is true of the tree, and the open is refused with 5
-- exactly when each class of each node has a reason.
-- Assumes nothing.
use Rattle.std.specs.Prelude.{if◌then◌else◌, Option, None, Some, unwrap_or}
use Prim.Native.Nat.{ℕ, zero, suc, ◌/◌, ◌%◌, ◌<◌, ◌≤◌}
use native.Mathlib.Omega.{arith}
use native.Mathlib.Nat.{mod-lt}
use native.Mathlib.Decide.{dec_lt}
use mathlib.Core.Path.{◌≡◌, refl, sym, ◌∙◌, ap, subst}
use mathlib.Core.Logic.{◌↔◌}
use mathlib.Core.Bool.{Bool, true, false, not, ◌&&◌, true≢false, false≢true, and-false, not-eq-not, and-eq-true_iff}
use lib.Dec.{eqb}
use borrow.Author.Tests.{eqb-true, eq-eqb, ltb-true, lt-ltb, not-true, not-false}
use Rattle.tree.specs.Numbers.{divides}
use Rattle.tree.specs.Search.{found, smallest, some_below}
use Rattle.tree.specs.Tree.{Tree, nothing, line, node, present, is_open, Place, at_digits, at, step}
use Rattle.tree.specs.Opening.{divisor, free, free_class, candidate, candidate_at, NoCandidate}
use Rattle.tree.specs.Shape.{Legal}
use Rattle.tree.specs.Reason.{Reason, line_stands, is_node, has_class, stands_in_class, line_in_class, reason}
use Rattle.tree.specs.Refusals.{first_refusal, period_out_of_range, no_room, earlier_checks, open_refusal, reason_refusal}
use Rattle.tree.specs.Calls.{Outcome, gives, refuses, gives_unless, reason_outcome}
use Rattle.tree.specs.Explained.{StandsInTheWay, TrueOf, ClassOfNode, EachHasReason, NoneRefusedWith12}
use Rattle.std.proofs.lemmas.Option.{none-some}
use Rattle.tree.proofs.Searching.{found_some, found_none, Smallest, smallest_some, smallest_none, some_below_true, some_below_at}
use Rattle.tree.proofs.Classes.{present_taken, taken_present}
use Rattle.tree.proofs.UnderEdge.{stands_under, stands_present}
use Rattle.tree.proofs.Proper.{Proper, nothing_open, legal_proper}
use Rattle.tree.proofs.Standing.{open_stands, stands_open}
use Rattle.tree.proofs.Numbering.{stands_number}
use Rattle.tree.proofs.Clearing.{proper_present_line}
use Rattle.tree.proofs.Opening.{at_proper}
use Rattle.tree.proofs.ChosenCandidate.{chosen_none, no_candidate_chosen_none}
use Rattle.tree.proofs.Checks.{refused_by_5, none_strikes, unless_given, refused_by}

-- A node at a place

pub node_there : (t : Tree) → is_node t ≡ true → (w : ℕ) × (f : ℕ → Tree) × (t ≡ node w f)
unfolding is_node
node_there nothing h = absurd (false≢true h)
node_there (line n) h = absurd (false≢true h)
node_there (node w f) h = (w, f, refl)

no_node_no_candidate : (p m : ℕ) (t : Tree) → is_node t ≡ false → candidate p m t ≡ false
unfolding is_node candidate free_class found
no_node_no_candidate p m nothing h = and-false (divides m p)
no_node_no_candidate p m (line n) h = and-false (divides m p)
no_node_no_candidate p m (node w f) h = absurd (true≢false h)

module _ (p m i : ℕ) (t : Tree) (w : ℕ) (f : ℕ → Tree) (here : t ≡ node w f) where
  pub class_at_node : has_class p m t i ≡ true → i < divisor p m w
  unfolding has_class
  class_at_node h = ltb-true _ _ (rw here at h)

  node_has_class : i < divisor p m w → has_class p m t i ≡ true
  unfolding has_class
  node_has_class below = rw here (lt-ltb _ _ below)

  lines_at_node : line_in_class p m t i ≡ smallest 64 (stands_in_class (divisor p m w) w f i)
  unfolding line_in_class
  lines_at_node = rw here

-- a line that is open under a place is open in the tree
open_under_place : (L l r : ℕ) (t : Tree) → Proper t → is_open L (at_digits l r t) ≡ true → is_open L t ≡ true
unfolding at_digits Proper
open_under_place L zero zero t proper h = h
open_under_place L zero (suc r) t proper h = absurd (nothing_open L nothing refl h)
open_under_place L (suc l) r nothing proper h = absurd (nothing_open L nothing refl h)
open_under_place L (suc l) r (line n) proper h = absurd (nothing_open L nothing refl h)
open_under_place L (suc l) r (node w f) proper h =
    let e = r % w in
    let below = open_under_place L l (r / w) (f e) (proper.2 e) h in
    stands_open L (node w f) _ _ (stands_under L w f e _ _ (mod-lt r proper.0) (open_stands L (f e) below))

-- The lines of a class

module _ (t : Tree) (legal : Legal t) (a : Place) (w : ℕ) (f : ℕ → Tree) (here : at a t ≡ node w f) where
  open_in_tree : (L e : ℕ) → e < w → is_open L (f e) ≡ true → is_open L t ≡ true
  unfolding at
  open_in_tree L e below h =
      let in_node = stands_open L (node w f) _ _ (stands_under L w f e _ _ below (open_stands L (f e) h)) in
      open_under_place L a.level a.offset t (legal_proper t legal) (rw here in_node)

  -- a class that is not free has a line, one of the 64
  taken_has_line : (d i : ℕ) → free d w f i ≡ false → some_below 64 (stands_in_class d w f i) ≡ true
  unfolding Proper stands_in_class at
  taken_has_line d i h =
      let e = taken_present d w f i h in
      let proper = (subst Proper here (at_proper a.level a.offset t (legal_proper t legal))).2 e.0 in
      let x = proper_present_line (f e.0) proper e.3 in
      let open_there = stands_open x.0 (f e.0) _ _ x.3 in
      let number = stands_number x.0 t _ _ legal (open_stands x.0 t (open_in_tree x.0 e.0 e.1 open_there)) in
      some_below_at 64 _ x.0 (omega arith) (some_below_at w _ e.0 e.1 (rw (eq-eqb _ _ e.2) open_there))

  -- a line that stands in a class: the edge, of that class
  in_class_edge : (d i L : ℕ) → stands_in_class d w f i L ≡ true → (e : ℕ) × (e < w) × (e % d ≡ i) × (is_open L (f e) ≡ true)
  unfolding stands_in_class
  in_class_edge d i L h =
      let x = some_below_true w _ h in
      let both = (and-eq-true_iff (eqb (x.0 % d) i) (is_open L (f x.0))).0 x.2 in
      (x.0, x.1, eqb-true _ _ both.0, both.1)

  -- a class with a line is not free
  line_takes_class : (d i : ℕ) → some_below 64 (stands_in_class d w f i) ≡ true → free d w f i ≡ false
  line_takes_class d i h =
      let x = some_below_true 64 _ h in
      let e = in_class_edge d i x.0 x.2 in
      subst (λ (k : ℕ). free d w f k ≡ false) e.2 (present_taken d w f e.0 e.1 (stands_present x.0 (f e.0) _ _ (open_stands x.0 (f e.0) e.3)))

  -- lines stand in a class exactly where it is not free
  pub class_stands : (d i : ℕ) → some_below 64 (stands_in_class d w f i) ≡ not (free d w f i)
  class_stands d i = by_test (free d w f i) refl
    where
      by_test : (b : Bool) → free d w f i ≡ b → some_below 64 (stands_in_class d w f i) ≡ not b
      by_test false taken = taken_has_line d i taken
      by_test true is_free = not-eq-not.0 (λ h. true≢false (sym is_free ∙ line_takes_class d i h))

-- The checks of the call

and_not_false : (a b : Bool) → (a && not b) ≡ false → a ≡ true → b ≡ true
and_not_false true b h here = not-false b h
and_not_false false b h here = absurd (false≢true here)

false_and_not : (a b : Bool) → (a ≡ true → b ≡ true) → (a && not b) ≡ false
false_and_not true b h = ap not (h refl)
false_and_not false b h = refl

-- a check that refused with another number did not strike
other_strikes : (b : Bool) (n m : ℕ) (o : Option ℕ) → (n ≡ m → ⊥) → (if b then Some n else o) ≡ Some m → (b ≡ false) × (o ≡ Some m)
other_strikes true n m o other h = absurd (other (cc))
other_strikes false n m o other h = (refl, h)

pub given_not_refused : (r : Reason) (n : ℕ) → gives r ≡ refuses n → ⊥
given_not_refused r n h = let z : ◌≡◌ {A = ℕ} 0 1 = cc in omega arith

-- the last check of an open
strikes_5 : (b : Bool) → ◌≡◌ {A = Option ℕ} (if b then Some 5 else None) (Some 5) → b ≡ true
strikes_5 true h = refl
strikes_5 false h = absurd (none-some 5 h)

pub period_inside : (L p : ℕ) (b : Bool) → first_refusal (earlier_checks L p b) ≡ None → period_out_of_range p ≡ false
unfolding first_refusal earlier_checks
period_inside L p b passed = (none_strikes _ 2 _ (none_strikes _ 1 _ passed).1).0

module _ (p : ℕ) (a : Place) (i : ℕ) (t : Tree) where
  abbrev m : ℕ
  m = step a t

  abbrev line_found : Bool
  line_found = found (line_in_class p m (at a t) i)

  -- of a class of a node only check 12 can strike
  class_refusal : period_out_of_range p ≡ false → ClassOfNode p a i t → reason_refusal p a i t ≡ (if divides m p && not line_found then Some 12 else None)
  unfolding reason_refusal first_refusal
  class_refusal inside class = rw (inside, class.node_there, false_and_not _ _ class.class_below)

  -- what passed all checks is a class of a node, and a line was found where the step divides
  passed_checks : reason_refusal p a i t ≡ None → ClassOfNode p a i t × (divides m p ≡ true → line_found ≡ true)
  unfolding reason_refusal first_refusal
  passed_checks h =
      let two = none_strikes _ 2 _ h in
      let ten = none_strikes _ 10 _ two.1 in
      let eleven = none_strikes _ 11 _ ten.1 in
      let twelve = none_strikes _ 12 _ eleven.1 in
      (record { node_there = not-false _ ten.0; class_below = and_not_false _ _ eleven.0 }, and_not_false _ _ twelve.0)

  -- and so is what is refused with 12
  pub refused_12_class : reason_refusal p a i t ≡ Some 12 → ClassOfNode p a i t
  unfolding reason_refusal first_refusal
  refused_12_class h =
      let two = other_strikes _ 2 12 _ (λ e. omega arith) h in
      let ten = other_strikes _ 10 12 _ (λ e. omega arith) two.1 in
      let eleven = other_strikes _ 11 12 _ (λ e. omega arith) ten.1 in
      record { node_there = not-false _ ten.0; class_below = and_not_false _ _ eleven.0 }

  -- a class of a node has a reason, or the call is refused with 12
  pub reason_given : period_out_of_range p ≡ false → ClassOfNode p a i t → (divides m p ≡ true → line_found ≡ true) → reason_outcome p a i t ≡ gives (reason p a i t)
  unfolding reason_outcome gives_unless
  reason_given inside class there = rw (class_refusal inside class, false_and_not _ _ there)

  pub refused_12 : period_out_of_range p ≡ false → ClassOfNode p a i t → divides m p ≡ true → line_found ≡ false → reason_outcome p a i t ≡ refuses 12
  unfolding reason_outcome gives_unless
  refused_12 inside class divided missing = rw (class_refusal inside class, divided, missing)

-- What a reason says is true of the tree

module _ (p : ℕ) (a : Place) (i : ℕ) (t : Tree) (legal : Legal t) where
  -- the line of lowest number that was found in a class of the node
  stands_in_the_way : (w : ℕ) (f : ℕ → Tree) → at a t ≡ node w f → divides (step a t) p ≡ true → i < divisor p (step a t) w →
      (L : ℕ) → Smallest 64 (stands_in_class (divisor p (step a t) w) w f i) L → StandsInTheWay p a i L t
  unfolding stands_in_class
  stands_in_the_way w f here divided below L found_line =
      let d = divisor p (step a t) w in
      let e = in_class_edge t legal a w f here d i L found_line.passes in
      record {
        weight = w;
        edges = f;
        edge = e.0;
        node_is = here;
        divided = divided;
        class_below = below;
        is_open_line = open_in_tree t legal a w f here L e.0 e.1 e.3;
        edge_below = e.1;
        of_class = e.2;
        under_edge = e.3;
        lowest = at_least;
      }
    where
      at_least : (M k : ℕ) → k < w → k % divisor p (step a t) w ≡ i → is_open M (f k) ≡ true → L ≤ M
      at_least M k k_below of_class open_there =
          elim (dec_lt M L) [
            | yes lower ↦ absurd (true≢false (sym (some_below_at w _ k k_below (rw (eq-eqb _ _ of_class) open_there)) ∙ found_line.none_smaller M lower))
            | no higher ↦ omega arith
          ]

  line_is_true : (w : ℕ) (f : ℕ → Tree) → at a t ≡ node w f → divides (step a t) p ≡ true → i < divisor p (step a t) w → line_found p a i t ≡ true →
      TrueOf p a i t (line_stands (unwrap_or (line_in_class p (step a t) (at a t) i) 0))
  unfolding TrueOf
  line_is_true w f here divided below there =
      let one = found_some (line_in_class p (step a t) (at a t) i) there in
      rw one.1 (stands_in_the_way w f here divided below one.0 (smallest_some 64 _ one.0 (sym (lines_at_node p (step a t) i (at a t) w f here) ∙ one.1)))

  passed_is_true : (b : Bool) → divides (step a t) p ≡ b → ClassOfNode p a i t → (divides (step a t) p ≡ true → line_found p a i t ≡ true) → TrueOf p a i t (reason p a i t)
  unfolding TrueOf reason
  passed_is_true true divided class there =
      let x = node_there (at a t) class.node_there in
      rw divided (line_is_true x.0 x.1 x.2 divided (class_at_node p (step a t) i (at a t) x.0 x.1 x.2 (class.class_below divided)) (there divided))
  passed_is_true false other class there = rw other (class.node_there, other)

  pub reason_is_true : (r : Reason) → reason_outcome p a i t ≡ gives r → TrueOf p a i t r
  unfolding reason_outcome
  reason_is_true r h =
      let given = unless_given (reason_refusal p a i t) (reason p a i t) r h in
      let passed = passed_checks p a i t given.0 in
      subst (TrueOf p a i t) given.1 (passed_is_true (divides (step a t) p) refl passed.0 passed.1)

-- A 5, and the reasons

module _ (p : ℕ) (t : Tree) (legal : Legal t) (a : Place) (w : ℕ) (f : ℕ → Tree) (here : at a t ≡ node w f) where
  abbrev d : ℕ
  d = divisor p (step a t) w

  pub lines_found : (i : ℕ) → line_found p a i t ≡ not (free d w f i)
  unfolding some_below
  lines_found i = ap found (lines_at_node p (step a t) i (at a t) w f here) ∙ class_stands t legal a w f here d i

  -- a node that is no candidate has no free class
  no_candidate_lines : candidate_at p t a ≡ false → divides (step a t) p ≡ true → (i : ℕ) → i < d → line_found p a i t ≡ true
  unfolding candidate_at candidate free_class
  no_candidate_lines none divided i below =
      let all_taken = found_none (smallest d (free d w f)) (rw (divided, here) at none) in
      lines_found i ∙ ap not (smallest_none d _ all_taken i below)

  -- and a node in whose classes lines were found is no candidate
  lines_no_candidate : (divides (step a t) p ≡ true → (i : ℕ) → i < d → line_found p a i t ≡ true) → candidate_at p t a ≡ false
  unfolding candidate_at candidate free_class found
  lines_no_candidate there = rw here (by_step (divides (step a t) p) refl (smallest d (free d w f)) refl)
    where
      by_step : (b : Bool) → divides (step a t) p ≡ b → (o : Option ℕ) → smallest d (free d w f) ≡ o → (b && found o) ≡ false
      by_step false other o e = refl
      by_step true divided None e = refl
      by_step true divided (Some i) e =
          let x = smallest_some d _ i e in
          absurd (true≢false (sym (there divided i x.in_range) ∙ lines_found i ∙ ap not x.passes))

module _ (p : ℕ) (t : Tree) (legal : Legal t) (inside : period_out_of_range p ≡ false) where
  abbrev told : Place → ℕ → Outcome Reason
  told a i = reason_outcome p a i t

  reasons_of_no_candidate : NoCandidate p t → EachHasReason p t told
  unfolding NoCandidate EachHasReason
  reasons_of_no_candidate none a i class =
      let x = node_there (at a t) class.node_there in
      let below = λ (divided : divides (step a t) p ≡ true). class_at_node p (step a t) i (at a t) x.0 x.1 x.2 (class.class_below divided) in
      (reason p a i t, reason_given p a i t inside class (λ divided. no_candidate_lines p t legal a x.0 x.1 x.2 (none a) divided i (below divided)))

  no_candidate_of_reasons : EachHasReason p t told → NoCandidate p t
  unfolding NoCandidate EachHasReason candidate_at reason_outcome
  no_candidate_of_reasons reasons a = by_node (is_node (at a t)) refl
    where
      by_node : (b : Bool) → is_node (at a t) ≡ b → candidate_at p t a ≡ false
      by_node false none = no_node_no_candidate p (step a t) (at a t) none
      by_node true there =
          let x = node_there (at a t) there in
          lines_no_candidate p t legal a x.0 x.1 x.2 λ divided i below.
          let class : ClassOfNode p a i t = record { node_there = there; class_below = λ _. node_has_class p (step a t) i (at a t) x.0 x.1 x.2 below } in
          (passed_checks p a i t (unless_given (reason_refusal p a i t) _ _ (reasons a i class).1).0).1 divided

  -- what has no reason is refused with 12
  pub reasons_exactly : EachHasReason p t told ↔ NoneRefusedWith12 told
  unfolding EachHasReason NoneRefusedWith12 reason_outcome
  reasons_exactly = (none_refused, each_given)
    where
      none_refused : EachHasReason p t told → NoneRefusedWith12 told
      none_refused reasons a i refused =
          let x = reasons a i (refused_12_class p a i t (refused_by (reason_refusal p a i t) 12 (reason p a i t) refused)) in
          given_not_refused x.0 12 (sym x.1 ∙ refused)

      each_given : NoneRefusedWith12 told → EachHasReason p t told
      each_given none a i class = (reason p a i t, reason_given p a i t inside class (λ divided. not-eq-not.0 (λ missing. none a i (refused_12 p a i t inside class divided missing))))

-- An open that passes checks 1, 2 and 3 on a plan that is not empty is refused with 5 exactly when each class of each node has a reason.
pub refused_5_explained : (L p : ℕ) (t : Tree) → Legal t → present t ≡ true → first_refusal (earlier_checks L p (is_open L t)) ≡ None →
    (open_refusal L p t ≡ Some 5) ↔ EachHasReason p t (λ a i. reason_outcome p a i t)
unfolding no_room found
refused_5_explained L p t legal here passed =
    let inside = period_inside L p (is_open L t) passed in
    let proper = legal_proper t legal in (
      λ refused. reasons_of_no_candidate p t legal inside (chosen_none p t proper (found_none _ (not-true _ (rw here at (strikes_5 _ (sym (refused_by_5 L p t passed) ∙ refused)))))),
      λ reasons. refused_by_5 L p t passed ∙ rw (here, no_candidate_chosen_none p t proper (no_candidate_of_reasons p t legal inside reasons)) refl,
    )
