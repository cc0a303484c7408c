-- Ledger and reference tree agree, call after call (specs/Lists.antt).
-- Assumes nothing.
use Prim.Native.Nat.{ℕ}
use native.Mathlib.Decide.{ℕ_discrete}
use mathlib.Core.Path.{◌≡◌, refl, sym, ◌∙◌, ap, subst}
use mathlib.Core.Logic.{◌⊎◌, inl, inr}
use mathlib.Core.Bool.{Bool, true, false, true≢false}
use mathlib.Core.List.{List, [], ◌∷◌, ◌++◌, nil≢cons, head-eq_of_cons-eq, tail-eq_of_cons-eq}
use Rattle.std.specs.Prelude.{Option, None, Some}
use Rattle.std.proofs.lemmas.Option.{none-some, same_Some}
use borrow.Author.Tests.{eq-eqb, ne_eqb}
use Rattle.tree.specs.Search.{found}
use Rattle.tree.specs.Tree.{Tree, nothing, product, sum, path, is_open, period_of, start_of}
use Rattle.tree.specs.Standing.{Stands}
use Rattle.tree.specs.Shape.{Legal}
use Rattle.tree.specs.Opening.{start_given, opened}
use Rattle.tree.specs.Closing.{closed}
use Rattle.tree.specs.Refusals.{open_refusal}
use Rattle.tree.specs.Calls.{Call, open_line, close_line, refusal, reply, carried_out, answer_unless, tree_unless, answer, after}
use Rattle.tree.specs.Lists.{Booking, Ledger, ledger_of_tree, with_line, enter, Entry, calls_of, ledger_from, reference_from, answered_from}
use Rattle.tree.proofs.Closing.{closed_stands, stands_closed, closed_legal}
use Rattle.tree.proofs.Options.{mapped_some, same_option}
use Rattle.tree.proofs.Searching.{found_some}
use Rattle.tree.proofs.Proper.{legal_proper}
use Rattle.tree.proofs.Standing.{stands_open, open_stands, path_stands, stands_once}
use Rattle.tree.proofs.Opening.{MayOpen, opened_legal, opened_new, opened_others, opened_only}
use Rattle.tree.proofs.Checks.{open_may}

-- The tree is legal, and a line has a booking in the ledger exactly when it stands in the tree with that period and start.
pub record Agree (ledger : Ledger) (t : Tree) : Type 0 where
  pub legal : Legal t
  pub stands : (L : ℕ) (b : Booking) → ledger L ≡ Some b → Stands L t b.period b.start
  pub entered : (L q u : ℕ) → Stands L t q u → ledger L ≡ Some (record { period = q; start = u })

-- One entry of the ledger changed

with_line_same : (L M : ℕ) (b : Option Booking) (ledger : Ledger) → M ≡ L → with_line L b ledger M ≡ b
unfolding with_line
with_line_same L M b ledger same = rw (eq-eqb M L same)

with_line_other : (L M : ℕ) (b : Option Booking) (ledger : Ledger) → (M ≡ L → ⊥) → with_line L b ledger M ≡ ledger M
unfolding with_line
with_line_other L M b ledger other = rw (ne_eqb M L other)

-- The calls

module _ (ledger : Ledger) (t : Tree) (agree : Agree ledger t) where
  pub ledger_open : (L : ℕ) → found (ledger L) ≡ is_open L t
  unfolding found
  ledger_open L = go (ledger L) refl (is_open L t) refl
    where
      go : (o : Option Booking) → ledger L ≡ o → (b : Bool) → is_open L t ≡ b → found (ledger L) ≡ is_open L t
      go None e true h = absurd (none-some _ (sym e ∙ agree.entered L (period_of L t) (start_of L t) (open_stands L t h)))
      go None e false h = ap found e ∙ sym h
      go (Some b) e x h = ap found e ∙ sym (stands_open L t b.period b.start (agree.stands L b e))

  module _ (L p : ℕ) (none_refuses : open_refusal L p t ≡ None) where
    abbrev new : Booking
    new = record { period = p; start = start_given p t }

    may : MayOpen L p t
    may = open_may L p t agree.legal none_refuses

    opened_books : (M : ℕ) (b : Booking) → with_line L (Some new) ledger M ≡ Some b → Stands M (opened L p t) b.period b.start
    opened_books M b e =
        elim (ℕ_discrete M L) [
          | yes same ↦
              let is_new : new ≡ b = same_Some new b (sym (with_line_same L M (Some new) ledger same) ∙ e) in
              subst (λ (x : Booking). Stands M (opened L p t) x.period x.start) is_new (rw same (opened_new L p t may))
          | no other ↦
              opened_others L p t M b.period b.start may (agree.stands M b (sym (with_line_other L M (Some new) ledger other) ∙ e))
        ]

    opened_entered : (M q u : ℕ) → Stands M (opened L p t) q u → with_line L (Some new) ledger M ≡ Some (record { period = q; start = u })
    opened_entered M q u h = go (opened_only L p t M q u may h)
      where
        go : Stands M t q u ⊎ ((M ≡ L) × (q ≡ p) × (u ≡ start_given p t)) → with_line L (Some new) ledger M ≡ Some (record { period = q; start = u })
        go (inl old) =
            with_line_other L M (Some new) ledger (λ same. true≢false (sym (stands_open M t q u old) ∙ ap (λ (K : ℕ). is_open K t) same ∙ may.not_open))
            ∙ agree.entered M q u old
        go (inr x) =
            with_line_same L M (Some new) ledger x.0 ∙ (λ i. Some (record { period = sym x.1 i; start = sym x.2 i }))

    agree_opened : Agree (with_line L (Some new) ledger) (opened L p t)
    agree_opened = record { legal = opened_legal L p t may; stands = opened_books; entered = opened_entered }

  module _ (L : ℕ) where
    closed_books : (M : ℕ) (b : Booking) → with_line L None ledger M ≡ Some b → Stands M (closed L t) b.period b.start
    closed_books M b e =
        elim (ℕ_discrete M L) [
          | yes same ↦ absurd (none-some b (sym (with_line_same L M None ledger same) ∙ e))
          | no other ↦ stands_closed L M t b.period b.start (agree.stands M b (sym (with_line_other L M None ledger other) ∙ e)) other
        ]

    closed_entered : (M q u : ℕ) → Stands M (closed L t) q u → with_line L None ledger M ≡ Some (record { period = q; start = u })
    closed_entered M q u h =
        let x = closed_stands L M t q u h in
        with_line_other L M None ledger x.1 ∙ agree.entered M q u x.0

    agree_closed : Agree (with_line L None ledger) (closed L t)
    agree_closed = record { legal = closed_legal L t agree.legal; stands = closed_books; entered = closed_entered }

  agree_answered : (c : Call) (o : Option ℕ) → refusal c t ≡ o → Agree (enter c (answer_unless o (reply c t)) ledger) (tree_unless o t (carried_out c t))
  unfolding refusal reply carried_out answer_unless tree_unless enter
  agree_answered (open_line L p) (Some n) e = agree
  agree_answered (open_line L p) None e = agree_opened L p e
  agree_answered (close_line L) (Some n) e = agree
  agree_answered (close_line L) None e = agree_closed L

  -- after each call, refused or carried out, ledger and tree agree again
  pub agree_after : (c : Call) → Agree (enter c (answer c t) ledger) (after c t)
  unfolding answer after
  agree_after c = agree_answered c (refusal c t) refl

-- At first

-- a legal tree agrees with the ledger that begins at it
pub agree_of_tree : (t : Tree) → Legal t → Agree (ledger_of_tree t) t
unfolding ledger_of_tree is_open
agree_of_tree t legal =
    record {
      legal = legal;
      stands = λ L b e. (let x = mapped_some _ (path L t) b e in
          subst (λ (c : Booking). Stands L t c.period c.start) x.2 (path_stands L t x.0 x.1));
      entered = λ L q u h. (let x = found_some (path L t) (stands_open L t q u h) in
          let place = stands_once L t (product x.0) (sum x.0) q u (legal_proper t legal) (path_stands L t x.0 x.1) h in
          rw x.1 (λ i. Some (record { period = place.0 i; start = place.1 i })));
    }

-- and with no other
pub agree_with_one : (a b : Ledger) (t : Tree) → Agree a t → Agree b t → (L : ℕ) → a L ≡ b L
agree_with_one a b t x y L =
    same_option (a L) (b L)
    (λ c e. y.entered L c.period c.start (x.stands L c e))
    (λ c e. x.entered L c.period c.start (y.stands L c e))

-- in the empty plan all lines are closed
pub all_closed_at_first : (L : ℕ) → ledger_of_tree nothing L ≡ None
unfolding ledger_of_tree path
all_closed_at_first L = refl

-- Along a list

-- an entry of a list, its answer given by the rules, on a tree that agrees with the ledger there
pub record Point (ledger : Ledger) (t : Tree) (x : Entry) : Type 0 where
  pub agree : Agree ledger t
  pub by_the_rules : x.answer ≡ answer x.call t

pub point : (cs : List Call) (ledger : Ledger) (t : Tree) → Agree ledger t →
    (before : List Entry) (x : Entry) (later : List Entry) → answered_from t cs ≡ before ++ (x ∷ later) →
    Point (ledger_from ledger before) (reference_from t (calls_of before)) x
unfolding answered_from ledger_from reference_from calls_of
point [] ledger t agree [] x later e = absurd (nil≢cons e)
point [] ledger t agree (y ∷ ys) x later e = absurd (nil≢cons e)
point (c ∷ cs) ledger t agree [] x later e =
    let head = head-eq_of_cons-eq e in
    record { agree = agree; by_the_rules = subst (λ (y : Entry). y.answer ≡ answer y.call t) head refl }
point (c ∷ cs) ledger t agree (y ∷ ys) x later e =
    let head = head-eq_of_cons-eq e in
    subst (λ (z : Entry). Point (ledger_from (enter z.call z.answer ledger) ys) (reference_from (after z.call t) (calls_of ys)) x) head
    (point cs (enter c (answer c t) ledger) (after c t) (agree_after ledger t agree c) ys x later (tail-eq_of_cons-eq e))

pub agree_along : (cs : List Call) (ledger : Ledger) (t : Tree) → Agree ledger t → Agree (ledger_from ledger (answered_from t cs)) (reference_from t cs)
unfolding answered_from ledger_from reference_from
agree_along [] ledger t agree = agree
agree_along (c ∷ cs) ledger t agree = agree_along cs (enter c (answer c t) ledger) (after c t) (agree_after ledger t agree c)

pub calls_answered : (cs : List Call) (t : Tree) → calls_of (answered_from t cs) ≡ cs
unfolding calls_of answered_from
calls_answered [] t = refl
calls_answered (c ∷ cs) t = ap (◌∷◌ c) (calls_answered cs (after c t))
