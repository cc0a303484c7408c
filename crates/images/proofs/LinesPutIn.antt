-- Lines put into a legal tree one by one (`with_lines` of crate tree, specs/ImageReading.antt), in rising number, behind those that stand there.
-- Assumes nothing.
use Prim.Native.Nat.{ℕ, zero, suc, ◌<◌, ◌≤◌}
use native.Mathlib.Omega.{arith}
use native.Mathlib.Decide.{ℕ_discrete}
use mathlib.Core.Path.{◌≡◌, refl, sym, ◌∙◌, ap, ap₂, subst}
use mathlib.Core.Bool.{true, and-eq-true_iff}
use mathlib.Core.Logic.{inl, inr}
use mathlib.Core.List.{List, [], ◌∷◌, ◌++◌, append-nil, append_assoc}
use Rattle.std.specs.Prelude.{Option, None, Some, unwrap_or}
use Rattle.std.proofs.lemmas.List.Elements.{All-head, All-tail}
use Rattle.std.proofs.lemmas.Option.{none-some, same_Some}
use Rattle.tree.specs.declared.Row.{Row}
use Rattle.tree.specs.Search.{found}
use Rattle.tree.specs.Tree.{Tree, nothing, path, is_open, path_of}
use Rattle.tree.specs.Shape.{Legal}
use Rattle.tree.specs.Asking.{rows_11}
use Rattle.tree.specs.Record.{path_in_range, parts, stand, numbers, record_of}
use Rattle.tree.specs.Image.{PlanLine, lines_below}
use Rattle.tree.specs.ImageReading.{rising, paths_in_range, parts_from, paths_part, legal_lines, with_lines}
use Rattle.tree.proofs.Searching.{last_or_below}
use Rattle.tree.proofs.Proper.{legal_proper}
use Rattle.paths.specs.Rules.{set_line}
use Rattle.paths.proofs.RangeLaws.{path_edges_below}
use Rattle.bridge.proofs.Parting.{Parted}
use Rattle.bridge.proofs.Stand.{stand_path_new, stand_path_other}
use Rattle.bridge.proofs.StandLegal.{stand_keeps_legal}
use Rattle.bridge.proofs.WalkOnPaths.{long_has_rows}
use Rattle.bridge.proofs.RecordBlocks.{record_length, block_of_record, set_line_record}
use Rattle.images.specs.Parts.{rows_with}
use Rattle.images.proofs.LineFits.{LineFits, AllFit}
use Rattle.images.proofs.LinesInTree.{rising_line, line_with}

-- The lines of a tree into which one was put behind all others

module _ (x : PlanLine) (t s : Tree) (new : path x.number s ≡ Some x.path) (others : (M : ℕ) → (M ≡ x.number → ⊥) → path M s ≡ path M t)
    (none_behind : (M : ℕ) → x.number ≤ M → path M t ≡ None) where
  same_before : (n : ℕ) → n ≤ x.number → lines_below n s ≡ lines_below n t
  unfolding lines_below
  same_before zero before = refl
  same_before (suc n) before = ap₂ ◌++◌ (same_before n (omega arith)) (ap (line_with n) (others n (λ same. omega arith)))

  none_more : (n : ℕ) → x.number ≤ n → lines_below (suc n) t ≡ lines_below n t
  unfolding lines_below
  none_more n behind = ap (λ (o : Option (List Row)). lines_below n t ++ line_with n o) (none_behind n behind) ∙ append-nil (lines_below n t)

  line_here : (n : ℕ) → x.number ≡ n → line_with n (path n s) ≡ x ∷ []
  line_here n same = ap (λ (k : ℕ). line_with k (path k s)) (sym same) ∙ ap (line_with x.number) new

  no_line_here : (n : ℕ) → x.number < n → line_with n (path n s) ≡ []
  no_line_here n behind = ap (line_with n) (others n (λ same. omega arith) ∙ none_behind n (omega arith))

  one_line_more : (n : ℕ) → x.number < n → lines_below n s ≡ lines_below n t ++ (x ∷ [])
  unfolding lines_below
  one_line_more zero behind = absurd (omega arith)
  one_line_more (suc n) behind =
      elim (last_or_below x.number n behind) [
        | inl same ↦
            ap₂ ◌++◌ (same_before n (omega arith)) (line_here n same)
            ∙ ap (λ (ys : List PlanLine). ys ++ (x ∷ [])) (sym (none_more n (omega arith)))
        | inr k ↦
            ap₂ ◌++◌ (one_line_more n k) (no_line_here n k)
            ∙ append-nil (lines_below n t ++ (x ∷ []))
            ∙ ap (λ (ys : List PlanLine). ys ++ (x ∷ [])) (sym (none_more n (omega arith)))
      ]

-- The lines may be put into the tree: each line in it has a smaller number, and all paths part
pub record Fitting (least : ℕ) (xs : List PlanLine) (t : Tree) : Type 0 where
  is_legal : Legal t
  none_yet : (M : ℕ) → least ≤ M → path M t ≡ None
  parting : (M : ℕ) (qs : List Row) → path M t ≡ Some qs → parts_from qs xs ≡ true
  fit : AllFit xs
  rise : rising least xs ≡ true
  in_range : paths_in_range xs ≡ true
  part : paths_part xs ≡ true

-- The first of them

module _ (least : ℕ) (x : PlanLine) (xs : List PlanLine) (t : Tree) (fitting : Fitting least (x ∷ xs) t) where
  -- the tree with it put in
  abbrev with_first : Tree
  with_first = stand x.number x.path t

  first_fits : LineFits x
  first_fits = All-head LineFits x xs fitting.fit

  first_rises : (least ≤ x.number) × (rising (suc x.number) xs ≡ true)
  first_rises = rising_line least x xs fitting.rise

  first_in_range : (path_in_range x.path ≡ true) × (paths_in_range xs ≡ true)
  unfolding paths_in_range
  first_in_range = (and-eq-true_iff (path_in_range x.path) (paths_in_range xs)).0 fitting.in_range

  first_parts : (parts_from x.path xs ≡ true) × (paths_part xs ≡ true)
  unfolding paths_part
  first_parts = (and-eq-true_iff (parts_from x.path xs) (paths_part xs)).0 fitting.part

  earlier_part : (M : ℕ) (qs : List Row) → path M t ≡ Some qs → (parts qs x.path ≡ true) × (parts_from qs xs ≡ true)
  unfolding parts_from
  earlier_part M qs h = (and-eq-true_iff (parts qs x.path) (parts_from qs xs)).0 (fitting.parting M qs h)

  none_behind : (M : ℕ) → x.number ≤ M → path M t ≡ None
  none_behind M behind = let from = first_rises.0 in fitting.none_yet M (omega arith)

  first_parted : Parted x.number x.path t
  unfolding is_open found
  first_parted = record {
    proper = legal_proper t fitting.is_legal;
    edges_below = path_edges_below x.path first_in_range.0;
    not_open = ap found (none_behind x.number (omega arith));
    parting = λ M qs h. (earlier_part M qs h).0;
  }

  first_path : path x.number with_first ≡ Some x.path
  first_path = stand_path_new x.number x.path t first_parted

  other_path : (M : ℕ) → (M ≡ x.number → ⊥) → path M with_first ≡ path M t
  other_path M other = stand_path_other x.number M x.path t first_parted other

  rest_fitting : Fitting (suc x.number) xs with_first
  rest_fitting = record {
    is_legal = stand_keeps_legal x.number x.path t (omega (arith, first_fits.number_below)) (long_has_rows x.path first_fits.some_rows) first_in_range.0 first_parted fitting.is_legal;
    none_yet = λ M behind. other_path M (λ same. omega arith) ∙ none_behind M (omega arith);
    parting = parting;
    fit = All-tail LineFits x xs fitting.fit;
    rise = first_rises.1;
    in_range = first_in_range.1;
    part = first_parts.1;
  }
    where
      parting : (M : ℕ) (qs : List Row) → path M with_first ≡ Some qs → parts_from qs xs ≡ true
      parting M qs h = elim (ℕ_discrete M x.number) [
        | yes same ↦ subst (λ (rs : List Row). parts_from rs xs ≡ true) (same_Some x.path qs (sym first_path ∙ ap (λ (N : ℕ). path N with_first) (sym same) ∙ h)) first_parts.0
        | no other ↦ (earlier_part M qs (sym (other_path M other) ∙ h)).1
      ]

  first_listed : lines_below 64 with_first ≡ lines_below 64 t ++ (x ∷ [])
  first_listed = one_line_more x t with_first first_path other_path none_behind 64 first_fits.number_below

  first_recorded : set_line (record_of t).rows x.number x.path ≡ (record_of with_first).rows
  unfolding path_of
  first_recorded =
      set_line_record (record_of t).rows x.number x.path with_first first_fits.number_below (record_length t) (ap (λ (o : Option (List Row)). unwrap_or o []) (sym first_path)) λ M below other.
      block_of_record t M below ∙ ap (λ (o : Option (List Row)). numbers (rows_11 (unwrap_or o []))) (sym (other_path M other))

-- All of them

pub put_in_legal : (least : ℕ) (xs : List PlanLine) (t : Tree) → Fitting least xs t → Legal (with_lines xs t)
unfolding with_lines
put_in_legal least [] t fitting = fitting.is_legal
put_in_legal least (x ∷ xs) t fitting = put_in_legal (suc x.number) xs (stand x.number x.path t) (rest_fitting least x xs t fitting)

-- they are listed behind the tree's
pub put_in_listed : (least : ℕ) (xs : List PlanLine) (t : Tree) → Fitting least xs t → lines_below 64 (with_lines xs t) ≡ lines_below 64 t ++ xs
unfolding with_lines
put_in_listed least [] t fitting = sym (append-nil (lines_below 64 t))
put_in_listed least (x ∷ xs) t fitting =
    put_in_listed (suc x.number) xs (stand x.number x.path t) (rest_fitting least x xs t fitting)
    ∙ ap (λ (ys : List PlanLine). ys ++ xs) (first_listed least x xs t fitting)
    ∙ append_assoc (lines_below 64 t) (x ∷ []) xs

-- the record of the tree into which they were put is that into which they were written
pub put_in_recorded : (least : ℕ) (xs : List PlanLine) (t : Tree) → Fitting least xs t → rows_with xs (record_of t).rows ≡ (record_of (with_lines xs t)).rows
unfolding with_lines rows_with
put_in_recorded least [] t fitting = refl
put_in_recorded least (x ∷ xs) t fitting =
    ap (rows_with xs) (first_recorded least x xs t fitting) ∙ put_in_recorded (suc x.number) xs (stand x.number x.path t) (rest_fitting least x xs t fitting)

-- legal lines may be put into the empty plan
pub legal_fitting : (xs : List PlanLine) → AllFit xs → legal_lines xs ≡ true → Fitting 0 xs nothing
unfolding legal_lines path Legal
legal_fitting xs fit are_legal =
    let rises = (and-eq-true_iff (rising 0 xs) _).0 are_legal in
    let paths = (and-eq-true_iff (paths_in_range xs) (paths_part xs)).0 rises.1 in
    record {
      is_legal = tt;
      none_yet = λ M behind. refl;
      parting = λ M qs h. absurd (none-some qs h);
      fit = fit;
      rise = rises.0;
      in_range = paths.0;
      part = paths.1;
    }
