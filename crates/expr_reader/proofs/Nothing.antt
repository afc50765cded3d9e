-- Where nothing may come, no arguments fit.
use Rattle.std.proofs.Common.{◌≡◌, true, false, Option, None, sym, ◌∙◌, ap}
use Rattle.expr_reader.specs.declared.signature.Signature.{Signature}
use Rattle.expr_reader.specs.Signatures.{after_number, after_choice, after_layer, ends}
use Rattle.expr_reader.specs.Trees.{Args, last, number, choice, layer}
use Rattle.expr_reader.specs.Grammar.{FitsIn}

nothing_fits_in : (args : Args) (s : Option Signature) → s ≡ None → FitsIn args s → ⊥
nothing_fits_in (last e) s is h = absurd (differ (sym h.0 ∙ ap ends is))
  where
    differ : true ≡ false → ⊥
    differ e = cc
nothing_fits_in (number n args) s is h = nothing_fits_in args (after_number s) (ap after_number is) h.1
nothing_fits_in (choice c args) s is h = nothing_fits_in args (after_choice c s) (ap (after_choice c) is) h
nothing_fits_in (layer e args) s is h = nothing_fits_in args (after_layer s) (ap after_layer is) h.1

pub nothing_fits : (args : Args) → FitsIn args None → ⊥
nothing_fits args h = nothing_fits_in args None (λ i. None) h
