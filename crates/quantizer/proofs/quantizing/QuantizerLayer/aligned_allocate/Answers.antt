use Rattle.std.proofs.Common.{sym, subst, Some, None, arith}
use Rattle.layer_rules.specs.Layering.{AlignedAllocates}
use Rattle.quantizer.specs.QuantizerModel.{quantizer_model}
use Rattle.quantizer.proofs.Serving.{serves_aligned}
use Rattle.quantizer.proofs.quantizing.QuantizerLayer.aligned_allocate.Goals as goal

pub returns-in_err-whole : goal.returns-in_err-whole
returns-in_err-whole g c =
    let l = c.args.self.now in
    let kind = g.R.Rounding.kind l.rounding in
    let t = g.P.Layer.model l.parent in
    let t' = g.P.Layer.model c.aligned_allocate.new.self in
    subst (λ r. AlignedAllocates (quantizer_model kind t) (quantizer_model kind t') c.args.space.now c.aligned_allocate.new.space c.args.n c.args.a r) (sym c.from_residual.ensures)
    (serves_aligned kind t t' c.args.space.now c.aligned_allocate.new.space c.args.n c.args.a c.round.result None
    (g.met.R.Rounding.proper l.rounding) (g.met.P.Layer.made l.parent) c.requires.opened c.requires.stands (omega (arith, c.if-n-eq0.false)) c.if-n-gt-LIMIT.false c.requires.power c.requires.most c.round.ensures.rounded c.in_err-whole.ensures)

pub returns : goal.returns
returns g c =
    let l = c.args.self.now in
    serves_aligned (g.R.Rounding.kind l.rounding) (g.P.Layer.model l.parent) (g.P.Layer.model c.aligned_allocate.new.self) c.args.space.now c.aligned_allocate.new.space c.args.n c.args.a c.round.result (Some c.in_ok-whole.whole)
    (g.met.R.Rounding.proper l.rounding) (g.met.P.Layer.made l.parent) c.requires.opened c.requires.stands (omega (arith, c.if-n-eq0.false)) c.if-n-gt-LIMIT.false c.requires.power c.requires.most c.round.ensures.rounded c.in_ok-whole.ensures
