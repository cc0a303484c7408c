-- The reader takes exactly the images of legal trees and gives their trees (document 02, Ask 9).
-- Assumes nothing.
use Prim.Native.Nat.{ℕ}
use mathlib.Core.Path.{◌≡◌, sym, ap, ◌∙◌}
use mathlib.Core.Logic.{◌↔◌}
use mathlib.Core.List.{List}
use Rattle.tree.specs.declared.Plan.{Plan}
use Rattle.tree.specs.Tree.{Tree}
use Rattle.tree.specs.Shape.{Legal}
use Rattle.tree.specs.Calls.{gives}
use Rattle.tree.specs.Record.{tree_of}
use Rattle.tree.specs.Image.{lines_below, image}
use Rattle.tree.specs.ImageReading.{read_outcome}
use Rattle.bridge.proofs.TreeOfRecord.{tree_of_legal}
use Rattle.images.proofs.BitsOfBytes.{EachBelow}
use Rattle.images.proofs.LinesOfTree.{lines_at_most, lines_fit, lines_legal, tree_of_its_lines}
use Rattle.images.proofs.OutcomeOfLines.{lines_outcome, legal_lines_of, tree_is_legal, bytes_are_image}

-- (Ask 9, 4) an image is read as its tree
pub image_read_back : (t : Tree) → Legal t → read_outcome (image t) ≡ gives t
unfolding image
image_read_back t is_legal =
    lines_outcome (lines_below 64 t) (lines_fit t is_legal) (lines_at_most t 64) (lines_legal t is_legal) ∙ ap gives (tree_of_its_lines t is_legal)

-- (Ask 9, 4) and nothing else is read
pub reads_exactly : (bytes : List ℕ) (t : Tree) → EachBelow 256 bytes → (read_outcome bytes ≡ gives t) ↔ (Legal t × (bytes ≡ image t))
reads_exactly bytes t are_bytes = (
  λ h. let lines = legal_lines_of bytes t h in (tree_is_legal bytes t lines, bytes_are_image bytes t lines are_bytes),
  λ x. ap read_outcome x.1 ∙ image_read_back t x.0,
)

-- the tree that is read is legal, whatever the numbers are
pub tree_read_legal : (bytes : List ℕ) (t : Tree) → read_outcome bytes ≡ gives t → Legal t
tree_read_legal bytes t h = tree_is_legal bytes t (legal_lines_of bytes t h)

-- writing what was read gives the same bytes
pub read_is_image : (bytes : List ℕ) (t : Tree) → EachBelow 256 bytes → read_outcome bytes ≡ gives t → image t ≡ bytes
read_is_image bytes t are_bytes h = sym ((reads_exactly bytes t are_bytes).0 h).1

-- (Ask 9, 5) Equal trees have equal images, and only they.
pub same_image_same_tree : (t s : Tree) → Legal t → Legal s → (image t ≡ image s) ↔ (t ≡ s)
same_image_same_tree t s legal_t legal_s = (
  λ same. let one : gives t ≡ gives s = sym (image_read_back t legal_t) ∙ ap read_outcome same ∙ image_read_back s legal_s in cc,
  λ same. ap image same,
)

-- (Ask 9, 5) Two plans have equal images exactly where their trees are equal, whatever their records are.
pub same_image_same_plan : (plan other : Plan) → (image (tree_of plan) ≡ image (tree_of other)) ↔ (tree_of plan ≡ tree_of other)
same_image_same_plan plan other = same_image_same_tree (tree_of plan) (tree_of other) (tree_of_legal plan) (tree_of_legal other)
