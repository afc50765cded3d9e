use Rattle.std.proofs.Common.{arith}
use Rattle.layer_laws.proofs.StandingLaws.{out-in_space}
use Rattle.quantizer.specs.QuantizerMade.{quantizer_made}
use Rattle.quantizer.specs.QuantizerModel.{quantizer_of}
use Rattle.quantizer.proofs.Serving.{given_back}
use Rattle.quantizer.proofs.quantizing.QuantizerLayer.deallocate.Goals as goal

pub parent_block-requires-clause-most : goal.parent_block-requires-clause-most
parent_block-requires-clause-most g c =
    let x = out-in_space (quantizer_of g.P.Layer.model g.R.Rounding.kind c.args.self.now) c.args.space.now c.args.b (quantizer_made g.met.P.Layer.made g.met.R.Rounding.proper c.args.self.now) c.requires.stands c.requires.out in
    omega (arith, x, c.requires.stands.memory.sizes, c.requires.stands.memory.cells)

pub returns : goal.returns
returns g c =
    let l = c.args.self.now in
    given_back (g.R.Rounding.kind l.rounding) (g.P.Layer.model l.parent) (g.P.Layer.model c.deallocate.new.self) c.args.space.now c.deallocate.new.space c.args.b c.parent_block.result c.deallocate.result
    (g.met.R.Rounding.proper l.rounding) (g.met.P.Layer.made l.parent) c.requires.opened c.requires.out c.parent_block.ensures c.deallocate.ensures
