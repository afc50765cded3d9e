use Rattle.std.proofs.Common.{arith}
use Rattle.layer_laws.proofs.StandingLaws.{out-in_space}
use Rattle.quantizer.specs.QuantizerMade.{quantizer_made}
use Rattle.quantizer.specs.QuantizerModel.{quantizer_of}
use Rattle.quantizer.proofs.Resizing.{resizes}
use Rattle.quantizer.proofs.quantizing.QuantizerLayer.reallocate.Goals as goal

pub parent_block-below-requires-clause-most : goal.parent_block-below-requires-clause-most
parent_block-below-requires-clause-most g c =
    let x = out-in_space (quantizer_of g.P.Layer.model g.R.Rounding.kind c.args.self.now) c.args.space.now c.args.b.now (quantizer_made g.met.P.Layer.made g.met.R.Rounding.proper c.args.self.now) c.requires.stands c.requires.out in
    omega (arith, x, c.requires.stands.memory.sizes, c.requires.stands.memory.cells)

pub returns-then-not-reallocate : goal.returns-then-not-reallocate
returns-then-not-reallocate g c =
    let l = c.args.self.now in
    resizes (g.R.Rounding.kind l.rounding) (g.P.Layer.model l.parent) (g.P.Layer.model c.reallocate.new.self) c.args.space.now c.reallocate.new.space c.args.b.now c.parent_block-below.result c.reallocate.new.b c.args.n c.round-len.result _
    (g.met.R.Rounding.proper l.rounding) (g.met.P.Layer.made l.parent) c.requires.opened c.requires.stands c.requires.out c.if-n-b.false (omega (arith, c.if-n-eq0.false)) c.if-n-gt-LIMIT.false
    c.parent_block-below.ensures c.round-len.ensures.rounded c.if-len-below.false c.if-not-reallocate.ensures

pub returns : goal.returns
returns g c =
    let l = c.args.self.now in
    resizes (g.R.Rounding.kind l.rounding) (g.P.Layer.model l.parent) (g.P.Layer.model c.reallocate.new.self) c.args.space.now c.reallocate.new.space c.args.b.now c.parent_block-below.result c.reallocate.new.b c.args.n c.round-len.result _
    (g.met.R.Rounding.proper l.rounding) (g.met.P.Layer.made l.parent) c.requires.opened c.requires.stands c.requires.out c.if-n-b.false (omega (arith, c.if-n-eq0.false)) c.if-n-gt-LIMIT.false
    c.parent_block-below.ensures c.round-len.ensures.rounded c.if-len-below.false c.if-not-reallocate.ensures
