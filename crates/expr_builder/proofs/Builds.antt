-- A buildable tree stands for a composition, and so does an accepted one.
use Rattle.std.proofs.Common.{◌≡◌, subst, ℕ, ◌+◌, ◌≤◌, Bool, true, ◌&&◌, nat_le, Option, None, arith}
use Rattle.std.proofs.lemmas.Bool.Decides.{nat_tests}
use Rattle.shapes.specs.RulesOf.{rules_of}
use Rattle.shapes.specs.Proper.{is_proper}
use Rattle.shapes.proofs.ShapeLaws.{made_of}
use Rattle.expr_reader.specs.declared.token.Name.{Name}
use Rattle.expr_reader.specs.declared.signature.Signature.{Signature}
use Rattle.expr_reader.specs.Signatures.{takes, inner, after_number, after_choice, after_layer}
use Rattle.expr_reader.specs.Trees.{Tree, leaf, node, Args, last, number, choice, layer}
use Rattle.expr_reader.specs.Grammar.{Fits, FitsIn, depth}
use Rattle.expr_reader.specs.Flaws.{alignment}
use Rattle.expr_reader.specs.Buildable.{AllKeepRules, AllKeepRulesIn, IsBuildable}
use Rattle.expr_reader.proofs.Flawless.{accepted-buildable}
use Rattle.expr_builder.specs.ShapeOf.{shape_of, leaf_count}
use Rattle.expr_builder.specs.Sound.{BuildableAreCompositions, AcceptedAreCompositions}
use Rattle.expr_builder.proofs.WordMeanings.{Means, AllMean, MayStand, leaf-means, layer-means}

abbrev TreeMeans : Tree → (made : ℕ) → Type 0
TreeMeans e made = Means (shape_of e made) (alignment e) (depth e) (leaf_count e) made

mutual
  tree-means : (e : Tree) → Fits e → (made : ℕ) → AllKeepRules None e → TreeMeans e made
  tree-means (leaf at k) f made h = leaf-means k f made
  tree-means (node at k args) f made h = layer-means k args made f (args-mean args (inner (takes k)) f made h.1) h.0

  args-mean : (args : Args) (s : Option Signature) → FitsIn args s → (made : ℕ) → AllKeepRulesIn None args → AllMean args made
  args-mean (last e) s f made h = tree-means e f.1 made h
  args-mean (number n args) s f made h = args-mean args (after_number s) f.1 made h
  args-mean (choice c args) s f made h = args-mean args (after_choice c s) f made h
  args-mean (layer e args) s f made h = (tree-means e f.0 made h.0, args-mean args (after_layer s) f.1 (made + leaf_count e) h.1)

composition-from : (p : Bool) (d n : ℕ) → p ≡ true → d ≤ 8 → n ≤ 4096 → (p && (nat_le d 8 && nat_le n 4096)) ≡ true
composition-from p d n h k l = grind (arith, nat_tests)

pub buildable-composition : BuildableAreCompositions
buildable-composition e b made =
    let s = shape_of e made in
    let m = tree-means e b.fits made b.keeps in
    let shallow = b.shallow in
    let proper = composition-from (is_proper s) (rules_of s).depth (rules_of s).nodes m.proper (omega (arith, m.layers, shallow)) (omega (arith, m.nodes, shallow)) in
    record {
      proper = proper;
      lawful = made_of s proper;
      distinct = m.distinct;
      next = m.next;
      few = omega (arith, m.single);
    }

pub accepted-composition : AcceptedAreCompositions
accepted-composition text e a = buildable-composition e (accepted-buildable text e a)

-- what a layer asks that is built over what stands for its arguments
pub layer-stands : (e : Tree) (at : ℕ) (k : Name) (args : Args) (made : ℕ) → e ≡ node at k args → IsBuildable e → MayStand k args made
layer-stands e at k args made is b =
    let whole = subst IsBuildable is b in
    record { kept = whole.keeps.0; below = args-mean args (inner (takes k)) whole.fits made whole.keeps.1; shallow = whole.shallow }
