-- Bytes written one after the other (specs/Writing.antt): none, and some and then further ones.
-- Assumes nothing.
use Prim.Native.Nat.{ℕ}
use native.Mathlib.Omega.{arith}
use mathlib.Core.Path.{refl, sym, ◌∙◌, ap}
use mathlib.Core.List.{List, [], ◌++◌, append-nil, append_assoc}
use lib.ListN.{length, drop, length-append}
use lib.Seq.{drop-drop}
use Rattle.book_text.specs.declared.text.Text.{Text}
use Rattle.book_text.specs.Writing.{so_far, beyond, Appended}

pub appended_nothing : (text : Text) → Appended text [] text
appended_nothing text =
    record { written = sym (append-nil (so_far text)); beyond_same = refl; place_is = omega arith; length_same = refl; same_lent = refl }

pub appended_both : {text between after : Text} (xs ys : List ℕ) → Appended text xs between → Appended between ys after → Appended text (xs ++ ys) after
appended_both {text} xs ys first second =
    record {
      written = second.written ∙ ap (λ (bytes : List ℕ). bytes ++ ys) first.written ∙ append_assoc (so_far text) xs ys;
      beyond_same =
          second.beyond_same ∙ ap (drop (length ys)) first.beyond_same ∙ drop-drop (length ys) (length xs) (beyond text)
          ∙ ap (λ (n : ℕ). drop n (beyond text)) (sym (length-append xs ys));
      place_is = omega (arith, first.place_is, second.place_is, length-append xs ys);
      length_same = second.length_same ∙ first.length_same;
      same_lent = second.same_lent ∙ first.same_lent;
    }

-- Words one after the other are as long as all of them together: by this the check sees in `append_line` that each word has room.
pub ruleset lengths = (length-append)
