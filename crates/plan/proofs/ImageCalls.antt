-- Writing and reading an image, on a record that is a tree or is none, and the two one after the other.
-- Assumes nothing.
use Prim.Native.Nat.{ℕ, ◌≤◌}
use native.Mathlib.Omega.{arith}
use mathlib.Core.Path.{◌≡◌, refl, sym, ◌∙◌, ap}
use mathlib.Core.Bool.{Bool, true, false}
use mathlib.Core.List.{List, ◌++◌}
use lib.Dec.{ltb}
use lib.ListN.{length, take, drop, length-append}
use lib.Seq.{take-append_seam}
use Rattle.std.specs.Prelude.{if◌then◌else◌, None, Some, Result, Ok, Err}
use Rattle.std.proofs.lemmas.Option.{none-some, same_Some}
use borrow.Author.Tests.{ltb-false}
use Rattle.tree.specs.declared.Plan.{Plan}
use Rattle.tree.specs.declared.refusal.Refusal.{Refusal}
use Rattle.tree.specs.Tree.{Tree}
use Rattle.tree.specs.Shape.{Legal}
use Rattle.tree.specs.Refusals.{first_refusal}
use Rattle.tree.specs.Calls.{Outcome, gives, refuses, gives_unless, refusal_of}
use Rattle.tree.specs.Answered.{number_of, outcome_of, refusal_in}
use Rattle.tree.specs.Record.{legal, record_of}
use Rattle.tree.specs.Image.{image, write_outcome, buffer_after}
use Rattle.tree.specs.ImageReading.{and_then, read_outcome}
use Rattle.bridge.specs.Rows.{tree_of_rows, plan_given, rows_given}
use Rattle.bridge.proofs.PlanGiven.{tree_given_by, refused_with}
use Rattle.bridge.proofs.RecordRoundTrip.{record_has_tree}
use Rattle.images.specs.Images.{ImageWritten, ImageRead}
use Rattle.images.proofs.BitsOfBytes.{EachBelow}
use Rattle.images.proofs.ReadsExactly.{image_read_back, tree_read_legal, read_is_image}
use Rattle.plan.specs.Meets.{empty_plan}
use Rattle.plan.specs.RoundTrip.{ReadBack, written_again as again, WrittenAgain}
use Rattle.plan.proofs.Changes.{asked_in_empty}

-- Writing

-- the image of the empty plan is written for a record that is no tree
pub written_in_empty : (rows : List ℕ) → legal rows ≡ false → {e : Plan} {before after : List ℕ} {a : Result ℕ Refusal} → e ≡ empty_plan → ImageWritten (tree_of_rows e.rows) before after a → ImageWritten (tree_of_rows rows) before after a
written_in_empty rows illegal {e} {before} {after} {a} empty written =
    record {
      answer_is = asked_in_empty rows illegal (write_outcome (length before)) empty written.answer_is;
      buffer_is = asked_in_empty rows illegal (λ t. buffer_after (write_outcome (length before) t) (image t) before) empty written.buffer_is;
    }

-- Reading

module _ (bytes before : List ℕ) where
  pub reading_refused : (e : Refusal) → refuses (number_of e) ≡ plan_given (read_outcome bytes) → ImageRead bytes before before (Err e)
  unfolding rows_given refusal_of refusal_in
  reading_refused e told = let is = refused_with _ _ told in record { answer_is = rw is; rows_are = rw is }

  pub reading_given : (plan : Plan) → gives plan ≡ plan_given (read_outcome bytes) → ImageRead bytes before plan.rows (Ok tt)
  unfolding rows_given refusal_of refusal_in
  reading_given plan told =
      let x = tree_given_by _ _ told in
      record { answer_is = rw x.given; rows_are = rw x.given (ap (λ (p : Plan). p.rows) x.plan_is) }

-- What was written, and what was read

-- an image was written whole
record Written (t : Tree) (before after : List ℕ) (n : ℕ) : Type 0 where
  pub length_is : n ≡ length (image t)
  pub has_room : n ≤ length before
  pub buffer_is : after ≡ image t ++ drop n before

module _ (t : Tree) (before after : List ℕ) where
  written_whole : (n : ℕ) → ImageWritten t before after (Ok n) → Written t before after n
  unfolding write_outcome buffer_after first_refusal gives_unless outcome_of
  written_whole n written = by_test (ltb (length before) (length (image t))) refl written.answer_is written.buffer_is
    where
      by_test : (b : Bool) → ltb (length before) (length (image t)) ≡ b →
          gives n ≡ gives_unless (if b then Some 8 else None) (length (image t)) →
          after ≡ buffer_after (gives_unless (if b then Some 8 else None) (length (image t))) (image t) before → Written t before after n
      by_test true short told left = let z : ◌≡◌ {A = ℕ} 0 1 = cc in absurd (omega arith)
      by_test false enough told left =
          let same : n ≡ length (image t) = cc in
          record { length_is = same; has_room = omega (arith, ltb-false _ _ enough); buffer_is = rw same left }

-- an image that was read gave the tree of the record left
pub record TreeRead (bytes after : List ℕ) : Type 0 where
  pub tree : Tree
  pub read_is : read_outcome bytes ≡ gives tree
  pub rows_are : after ≡ (record_of tree).rows

module _ (bytes before after : List ℕ) where
  pub image_read : (u : Unit {0}) → ImageRead bytes before after (Ok u) → TreeRead bytes after
  unfolding rows_given refusal_of refusal_in
  image_read u read = by_outcome (read_outcome bytes) refl read.answer_is read.rows_are
    where
      by_outcome : (o : Outcome Tree) → read_outcome bytes ≡ o → None ≡ refusal_of o → after ≡ rows_given o before → TreeRead bytes after
      by_outcome (gives t) is told left = record { tree = t; read_is = is; rows_are = left }
      by_outcome (refuses n) is told left = absurd (none-some n told)

  pub image_refused : (e : Refusal) → ImageRead bytes before after (Err e) → read_outcome bytes ≡ refuses (number_of e)
  unfolding refusal_of refusal_in
  image_refused e read = by_outcome (read_outcome bytes) refl read.answer_is
    where
      by_outcome : (o : Outcome Tree) → read_outcome bytes ≡ o → Some (number_of e) ≡ refusal_of o → read_outcome bytes ≡ refuses (number_of e)
      by_outcome (gives t) is told = absurd (none-some (number_of e) (sym told))
      by_outcome (refuses n) is told = is ∙ ap refuses (sym (same_Some _ _ told))

-- Read and written again

module _ (bytes lent : List ℕ) where
  pub read_refused : (before after : List ℕ) (e : Refusal) → ImageRead bytes before after (Err e) → WrittenAgain bytes lent lent (Err e)
  unfolding again buffer_after and_then outcome_of
  read_refused before after e read =
      let refused = image_refused bytes before after e read in
      record { answer_is = rw refused; buffer_is = rw refused }

  pub written_again : (before rows left : List ℕ) (u : Unit {0}) (a : Result ℕ Refusal) → EachBelow 256 bytes →
      ImageRead bytes before rows (Ok u) → ImageWritten (tree_of_rows rows) lent left a → WrittenAgain bytes lent left a
  unfolding tree_of_rows write_outcome again and_then
  written_again before rows left u a are_bytes read written =
      let x = image_read bytes before rows u read in
      let legal_tree = tree_read_legal bytes x.tree x.read_is in
      let has_tree : tree_of_rows rows ≡ x.tree = ap tree_of_rows x.rows_are ∙ record_has_tree x.tree legal_tree in
      let same = read_is_image bytes x.tree are_bytes x.read_is in
      let here = rw has_tree at written in
      record {
        answer_is = rw x.read_is (rw same at here.answer_is);
        buffer_is = rw x.read_is (rw same at here.buffer_is);
      }

-- Written and read back

module _ (t : Tree) (lent left : List ℕ) where
  pub writing_refused : (e : Refusal) → ImageWritten t lent left (Err e) → ReadBack t lent left (Err e)
  unfolding outcome_of gives_unless refusal_of
  writing_refused e written = record { answer_is = rw (sym written.answer_is); buffer_is = written.buffer_is }

  module _ (n : ℕ) (written : ImageWritten t lent left (Ok n)) where
    abbrev whole : Written t lent left n
    whole = written_whole t lent left n written

    pub written_inside : n ≤ length left
    written_inside =
        rw whole.buffer_is (omega (arith, whole.length_is, length-append (image t) (drop n lent)))

    -- the bytes that were written are the image
    written_bytes : take n left ≡ image t
    written_bytes = rw (whole.buffer_is, whole.length_is) (take-append_seam (image t) _)

    module _ (is_legal : Legal t) (before rows : List ℕ) where
      image_taken : read_outcome (take n left) ≡ gives t
      image_taken = ap read_outcome written_bytes ∙ image_read_back t is_legal

      pub never_refused : (e : Refusal) → ImageRead (take n left) before rows (Err e) → ⊥
      never_refused e read =
          let told : gives t ≡ refuses (number_of e) = sym image_taken ∙ image_refused (take n left) before rows e read in
          let z : ◌≡◌ {A = ℕ} 0 1 = cc in omega arith

      pub read_back : (u : Unit {0}) → ImageRead (take n left) before rows (Ok u) → ReadBack t lent left (Ok (record { rows = rows }))
      unfolding outcome_of gives_unless refusal_of
      read_back u read =
          let x = image_read (take n left) before rows u read in
          let told : gives x.tree ≡ gives t = sym x.read_is ∙ image_taken in
          let same : x.tree ≡ t = cc in
          record {
            answer_is = rw (sym written.answer_is) (λ i. gives (record { rows = (x.rows_are ∙ ap (λ (s : Tree). (record_of s).rows) same) i }));
            buffer_is = written.buffer_is;
          }
