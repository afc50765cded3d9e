use Rattle.std.proofs.Common.{refl, sym, subst}
use Rattle.affix_rules.specs.AffixRules.{affix_handing, affix_rules}
use Rattle.layer_rules.specs.Layering.{state_of, ReallocatesBy}
use Rattle.layer_laws.proofs.HandingChanges.{hand-reallocated_generally}
use Rattle.affix_layer.specs.AffixModel.{affix_of}
use Rattle.affix_layer.proofs.affixing.AffixLayer.reallocate.Goals as goal

pub returns-clause-reallocates : goal.returns-clause-reallocates
unfolding affix_rules
returns-clause-reallocates g c =
    let l = c.args.self.now in
    let t = affix_of g.P.Layer.model l in
    let e = (g.P.Layer.model l.parent).rules in
    let m = c.args.space.now in
    let by_form = hand-reallocated_generally (affix_handing l.prefix l.suffix e) e (record { moves = refl; in_place = λ len n. refl; uncounted = λ n b r own. refl }) c.args.n c.args.b.now (state_of t m) m.cells in
    subst (λ rule. ReallocatesBy rule t (affix_of g.P.Layer.model c.reallocate_generally.new.self) m c.reallocate_generally.new.space c.args.b.now c.reallocate_generally.new.b c.reallocate_generally.result) (sym by_form) c.reallocate_generally.ensures.generally
