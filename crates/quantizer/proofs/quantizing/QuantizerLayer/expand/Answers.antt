use Rattle.std.proofs.Common.{◌≡◌, sym, ap, ◌∙◌, ◌≤◌, ◌+◌, true, arith}
use Rattle.layer_rules.specs.declared.Block.{Block}
use Rattle.layer_rules.specs.declared.Offers.{Offers}
use Rattle.layer_laws.proofs.StandingLaws.{out-in_space}
use Rattle.size_round.specs.Sizes.{rounded}
use Rattle.size_round.proofs.KindLaws.{rounded_is_monotone}
use Rattle.quantizer.specs.QuantizerMade.{quantizer_made}
use Rattle.quantizer.specs.QuantizerModel.{quantizer_of}
use Rattle.quantizer.proofs.Growing.{said-yes, grows_at_once, grows_below}
use Rattle.quantizer.proofs.quantizing.QuantizerLayer.expand.Goals as goal

pub overflow_sub-b : goal.overflow_sub-b
overflow_sub-b g c =
    let x = out-in_space (quantizer_of g.P.Layer.model g.R.Rounding.kind c.args.self.now) c.args.space.now c.args.b.now (quantizer_made g.met.P.Layer.made g.met.R.Rounding.proper c.args.self.now) c.requires.stands c.requires.out in
    omega (arith, x, c.requires.stands.memory.sizes, c.requires.stands.memory.cells)

pub parent_block-below-requires-clause-most : goal.parent_block-below-requires-clause-most
parent_block-below-requires-clause-most g c =
    let x = out-in_space (quantizer_of g.P.Layer.model g.R.Rounding.kind c.args.self.now) c.args.space.now c.args.b.now (quantizer_made g.met.P.Layer.made g.met.R.Rounding.proper c.args.self.now) c.requires.stands c.requires.out in
    omega (arith, x, c.requires.stands.memory.sizes, c.requires.stands.memory.cells)

pub overflow_sub-lack : goal.overflow_sub-lack
overflow_sub-lack g c =
    let kind = g.R.Rounding.kind c.args.self.now.rounding in
    let rises : rounded kind c.args.b.now.len ≤ rounded kind (c.args.b.now.len + c.args.delta) = rounded_is_monotone kind c.args.b.now.len (c.args.b.now.len + c.args.delta) (g.met.R.Rounding.proper c.args.self.now.rounding) (omega arith) in
    let len : c.parent_block-below.result.len ≡ rounded kind c.args.b.now.len = ap (λ (x : Block). x.len) c.parent_block-below.ensures in
    omega (arith, rises, len, c.round.ensures.rounded)

pub returns-then-lack-eq0 : goal.returns-then-lack-eq0
returns-then-lack-eq0 g c =
    let l = c.args.self.now in
    grows_at_once (g.R.Rounding.kind l.rounding) (g.P.Layer.model l.parent) c.args.space.now c.args.b.now c.parent_block-below.result c.args.delta c.round.result
    (g.met.R.Rounding.proper l.rounding) c.requires.opened c.requires.stands (omega (arith, c.if-delta-eq0.false)) (omega (arith, c.if-delta-b.false, c.if-delta-eq0.false))
    c.parent_block-below.ensures c.round.ensures.rounded (omega (arith, c.if-lack-eq0.true))

pub returns-then-not-expand : goal.returns-then-not-expand
returns-then-not-expand g c =
    let l = c.args.self.now in
    let offered : (g.P.Layer.model l.parent).rules.offers.expand ≡ true = ap (λ (o : Offers). o.expand) (sym c.offers.ensures) ∙ said-yes c.offers.result.expand c.if-not-offers.false in
    grows_below (g.R.Rounding.kind l.rounding) (g.P.Layer.model l.parent) (g.P.Layer.model c.expand.new.self) c.args.space.now c.expand.new.space c.args.b.now c.parent_block-below.result c.expand.new.b c.args.delta c.round.result _
    (g.met.R.Rounding.proper l.rounding) (g.met.P.Layer.made l.parent) c.requires.opened c.requires.out (omega (arith, c.if-delta-eq0.false)) (omega (arith, c.if-delta-b.false, c.if-delta-eq0.false))
    c.parent_block-below.ensures c.round.ensures.rounded (omega (arith, c.if-lack-eq0.false)) offered c.if-not-expand.ensures

pub returns : goal.returns
returns g c =
    let l = c.args.self.now in
    let offered : (g.P.Layer.model l.parent).rules.offers.expand ≡ true = ap (λ (o : Offers). o.expand) (sym c.offers.ensures) ∙ said-yes c.offers.result.expand c.if-not-offers.false in
    grows_below (g.R.Rounding.kind l.rounding) (g.P.Layer.model l.parent) (g.P.Layer.model c.expand.new.self) c.args.space.now c.expand.new.space c.args.b.now c.parent_block-below.result c.expand.new.b c.args.delta c.round.result _
    (g.met.R.Rounding.proper l.rounding) (g.met.P.Layer.made l.parent) c.requires.opened c.requires.out (omega (arith, c.if-delta-eq0.false)) (omega (arith, c.if-delta-b.false, c.if-delta-eq0.false))
    c.parent_block-below.ensures c.round.ensures.rounded (omega (arith, c.if-lack-eq0.false)) offered c.if-not-expand.ensures
