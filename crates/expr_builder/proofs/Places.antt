-- A tree stands for the same shape in other places.
use Rattle.std.proofs.Common.{◌≡◌, refl, ◌∙◌, ap, ℕ, ◌+◌, List, [], ◌∷◌, length}
use Rattle.expr_reader.specs.Trees.{Tree, leaf, node, Args, last, number, choice, layer}
use Rattle.expr_reader.specs.Canonical.{choice_text, numeral, canonical, in_place, args_in_place}
use Rattle.expr_reader.proofs.Again.{inside, behind, in_place-heads}
use Rattle.expr_builder.specs.ShapeOf.{shape_of, shapes, layer_shape, leaf_count, leaf_count_in}

mutual
  in_place-leaves : (e : Tree) (at : ℕ) → leaf_count (in_place at e) ≡ leaf_count e
  in_place-leaves (leaf old k) at = refl
  in_place-leaves (node old k args) at = in_place-leaves_in args (inside at k)

  in_place-leaves_in : (args : Args) (at : ℕ) → leaf_count_in (args_in_place at args) ≡ leaf_count_in args
  in_place-leaves_in (last e) at = in_place-leaves e at
  in_place-leaves_in (number n args) at = in_place-leaves_in args (at + length (numeral n))
  in_place-leaves_in (choice c args) at = in_place-leaves_in args (behind at (choice_text c))
  in_place-leaves_in (layer e args) at = (λ i. in_place-leaves e at i + in_place-leaves_in args (behind at (canonical e)) i)

mutual
  pub in_place-shape : (e : Tree) (at made : ℕ) → shape_of (in_place at e) made ≡ shape_of e made
  in_place-shape (leaf old k) at made = refl
  in_place-shape (node old k args) at made = (λ i. layer_shape k (in_place-heads args (inside at k) i) (in_place-shapes args (inside at k) made i))

  in_place-shapes : (args : Args) (at made : ℕ) → shapes (args_in_place at args) made ≡ shapes args made
  in_place-shapes (last e) at made = ap (λ s. s ∷ []) (in_place-shape e at made)
  in_place-shapes (number n args) at made = in_place-shapes args (at + length (numeral n)) made
  in_place-shapes (choice c args) at made = in_place-shapes args (behind at (choice_text c)) made
  in_place-shapes (layer e args) at made =
      (λ i. in_place-shape e at made i ∷ shapes (args_in_place (behind at (canonical e)) args) (made + in_place-leaves e at i)) ∙ ap (λ ss. shape_of e made ∷ ss) (in_place-shapes args (behind at (canonical e)) (made + leaf_count e))
