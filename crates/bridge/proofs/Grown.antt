-- The tree that grows line by line out of a legal record (`grown` of crate tree, specs/Record.antt): each line has the path held for it, and the tree is legal.
-- Assumes nothing.
use Rattle.std.specs.Prelude.{if◌then◌else◌, Option, None, Some}
use Prim.Native.Nat.{ℕ, zero, suc, ◌<◌, ◌≤◌}
use native.Mathlib.Omega.{arith}
use native.Mathlib.Decide.{ℕ_discrete, dec_lt}
use mathlib.Core.Path.{◌≡◌, refl, sym, ◌∙◌, ap, subst}
use mathlib.Core.Bool.{Bool, true, false}
use mathlib.Core.List.{List}
use Rattle.std.proofs.lemmas.Option.{none-some}
use lib.Dec.{ltb}
use borrow.Author.Tests.{ltb-true, lt-ltb, le-ltb}
use Rattle.tree.specs.declared.Row.{Row}
use Rattle.tree.specs.Search.{found}
use Rattle.tree.specs.Tree.{path, is_open}
use Rattle.tree.specs.Shape.{Legal}
use Rattle.tree.specs.Record.{path_at, parts, no_rows, legal, stand, grown}
use Rattle.tree.proofs.Proper.{Proper}
use Rattle.bridge.proofs.Parting.{Parted}
use Rattle.bridge.proofs.Stand.{stand_proper, stand_path_new, stand_path_other}
use Rattle.paths.proofs.RangeLaws.{path_edges_below}
use Rattle.paths.proofs.LegalLines.{legal_in_range, legal_together, open_together}
use Rattle.bridge.proofs.StandLegal.{stand_keeps_legal}

-- The path that a line has for the rows that the record holds for it, and the same for the lines below n

abbrev pub path_held : List Row → Option (List Row)
path_held ps = if no_rows ps then None else Some ps

abbrev held_below : List ℕ → ℕ → ℕ → Option (List Row)
held_below rows n M = if ltb M n then path_held (path_at rows M) else None

held_some : (ps qs : List Row) → path_held ps ≡ Some qs → (no_rows ps ≡ false) × (ps ≡ qs)
held_some ps qs h = go (no_rows ps) refl h
  where
    go : (b : Bool) → no_rows ps ≡ b → (if b then None else Some ps) ≡ Some qs → (no_rows ps ≡ false) × (ps ≡ qs)
    go true e k = absurd (none-some qs k)
    go false e k = (e, (cc))

held_below_some : (rows : List ℕ) (n M : ℕ) (qs : List Row) → held_below rows n M ≡ Some qs → (M < n) × (path_held (path_at rows M) ≡ Some qs)
held_below_some rows n M qs h = go (ltb M n) refl h
  where
    go : (b : Bool) → ltb M n ≡ b → (if b then path_held (path_at rows M) else None) ≡ Some qs → (M < n) × (path_held (path_at rows M) ≡ Some qs)
    go true e k = (ltb-true M n e, k)
    go false e k = absurd (none-some qs k)

held_not_yet : (rows : List ℕ) (n M : ℕ) → n ≤ M → held_below rows n M ≡ None
held_not_yet rows n M beyond = rw (le-ltb M n beyond)

held_already : (rows : List ℕ) (n M : ℕ) → M < n → held_below rows n M ≡ path_held (path_at rows M)
held_already rows n M below = rw (lt-ltb M n below)

held_before : (rows : List ℕ) (n M : ℕ) → (M ≡ n → ⊥) → held_below rows n M ≡ held_below rows (suc n) M
held_before rows n M other =
    elim (dec_lt M n) [
      | yes below ↦ held_already rows n M below ∙ sym (held_already rows (suc n) M (omega arith))
      | no beyond ↦ held_not_yet rows n M (omega arith) ∙ sym (held_not_yet rows (suc n) M (omega arith))
    ]

-- what holds of n, and of every other number, holds of each
at_or_other : (P : ℕ → Type 0) (n : ℕ) → P n → ((M : ℕ) → (M ≡ n → ⊥) → P M) → (M : ℕ) → P M
at_or_other P n here others M =
    elim (ℕ_discrete M n) [ yes same ↦ subst P (sym same) here | no other ↦ others M other ]

-- The tree of the lines below n

record Grown (rows : List ℕ) (n : ℕ) : Type 0 where
  proper : Proper (grown rows n)
  paths : (M : ℕ) → path M (grown rows n) ≡ held_below rows n M

grown_same : (rows : List ℕ) (n : ℕ) → no_rows (path_at rows n) ≡ true → grown rows (suc n) ≡ grown rows n
unfolding grown
grown_same rows n h = rw h

grown_more : (rows : List ℕ) (n : ℕ) → no_rows (path_at rows n) ≡ false → grown rows (suc n) ≡ stand n (path_at rows n) (grown rows n)
unfolding grown
grown_more rows n h = rw h

module _ (rows : List ℕ) (is_legal : legal rows ≡ true) where
  grown_parted : (n : ℕ) → n < 64 → no_rows (path_at rows n) ≡ false → Grown rows n → Parted n (path_at rows n) (grown rows n)
  unfolding is_open found
  grown_parted n below some_rows g =
      record {
        proper = g.proper;
        edges_below = path_edges_below (path_at rows n) (legal_in_range rows is_legal n below);
        not_open = ap found (g.paths n ∙ held_not_yet rows n n (omega arith));
        parting = λ M qs h. parting M qs (held_below_some rows n M qs (sym (g.paths M) ∙ h));
      }
    where
      parting : (M : ℕ) (qs : List Row) → (M < n) × (path_held (path_at rows M) ≡ Some qs) → parts qs (path_at rows n) ≡ true
      parting M qs earlier =
          let held = held_some (path_at rows M) qs earlier.1 in
          subst (λ (ps : List Row). parts ps (path_at rows n) ≡ true) held.1
          (sym (open_together (path_at rows M) (path_at rows n) held.0 some_rows) ∙ legal_together rows is_legal n below M earlier.0)

  grown_closed_line : (n : ℕ) → no_rows (path_at rows n) ≡ true → Grown rows n → Grown rows (suc n)
  grown_closed_line n no_row g =
      record {
        proper = rw (grown_same rows n no_row) g.proper;
        paths = λ M. rw (grown_same rows n no_row) (g.paths M ∙ held_same M);
      }
    where
      held_same : (M : ℕ) → held_below rows n M ≡ held_below rows (suc n) M
      held_same = at_or_other (λ M. held_below rows n M ≡ held_below rows (suc n) M) n
          (held_not_yet rows n n (omega arith) ∙ sym (held_already rows (suc n) n (omega arith) ∙ rw no_row))
          (held_before rows n)

  grown_open_line : (n : ℕ) → n < 64 → no_rows (path_at rows n) ≡ false → Grown rows n → Grown rows (suc n)
  grown_open_line n below some_rows g =
      record {
        proper = rw (grown_more rows n some_rows) (stand_proper n rs (grown rows n) p);
        paths = λ M. rw (grown_more rows n some_rows) (stand_paths M);
      }
    where
      rs : List Row
      rs = path_at rows n

      p : Parted n rs (grown rows n)
      p = grown_parted n below some_rows g

      stand_paths : (M : ℕ) → path M (stand n rs (grown rows n)) ≡ held_below rows (suc n) M
      stand_paths = at_or_other (λ M. path M (stand n rs (grown rows n)) ≡ held_below rows (suc n) M) n
          (stand_path_new n rs (grown rows n) p ∙ sym (held_already rows (suc n) n (omega arith) ∙ rw some_rows))
          (λ M other. stand_path_other n M rs (grown rows n) p other ∙ g.paths M ∙ held_before rows n M other)

  each_grown : (n : ℕ) → n ≤ 64 → Grown rows n
  unfolding grown Proper path
  each_grown zero within = record { proper = tt; paths = λ M. sym (held_not_yet rows 0 M (omega arith)) }
  each_grown (suc n) within = go (no_rows (path_at rows n)) refl (each_grown n (omega arith))
    where
      go : (b : Bool) → no_rows (path_at rows n) ≡ b → Grown rows n → Grown rows (suc n)
      go true e g = grown_closed_line n e g
      go false e g = grown_open_line n (omega arith) e g

pub grown_path : (rows : List ℕ) → legal rows ≡ true → (n : ℕ) → n ≤ 64 → (M : ℕ) → path M (grown rows n) ≡ (if ltb M n then path_held (path_at rows M) else None)
grown_path rows is_legal n within M = (each_grown rows is_legal n within).paths M

pub grown_legal : (rows : List ℕ) → legal rows ≡ true → (n : ℕ) → n ≤ 64 → Legal (grown rows n)
unfolding grown Legal
grown_legal rows is_legal zero within = tt
grown_legal rows is_legal (suc n) within = go (no_rows (path_at rows n)) refl (grown_legal rows is_legal n (omega arith))
  where
    go : (b : Bool) → no_rows (path_at rows n) ≡ b → Legal (grown rows n) → Legal (if b then grown rows n else stand n (path_at rows n) (grown rows n))
    go true e h = h
    go false e h =
        let p = grown_parted rows is_legal n within e (each_grown rows is_legal n (omega arith)) in
        stand_keeps_legal n (path_at rows n) (grown rows n) (omega arith) e (legal_in_range rows is_legal n within) p h
