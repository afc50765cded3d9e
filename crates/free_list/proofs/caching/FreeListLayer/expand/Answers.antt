use Rattle.std.proofs.Common.{arith}
use Rattle.layer_laws.proofs.StandingLaws.{out-in_space}
use Rattle.free_list.specs.FreeListMade.{free_list_made}
use Rattle.free_list.specs.FreeListModel.{free_list_of}
use Rattle.free_list.proofs.Growing.{grows}
use Rattle.free_list.proofs.Standing.{here, parent-stands}
use Rattle.free_list.proofs.caching.FreeListLayer.expand.Goals as goal

pub overflow_sub-b : goal.overflow_sub-b
overflow_sub-b g c =
    let x = out-in_space (free_list_of g.P.Layer.model c.args.self.now) c.args.space.now c.args.b.now (free_list_made g.met.P.Layer.made c.args.self.now) c.requires.stands c.requires.out in
    omega (arith, x, c.requires.stands.memory.sizes, c.requires.stands.memory.cells)

pub expand-requires-clause-stands : goal.expand-requires-clause-stands
expand-requires-clause-stands g c =
    let l = c.args.self.now in
    parent-stands l.least l.greatest l.chain (g.P.Layer.model l.parent) c.args.space.now (here g.met.P.Layer.made l c.args.space.now c.requires.stands)

pub returns-then-not-expand : goal.returns-then-not-expand
returns-then-not-expand g c =
    let l = c.args.self.now in
    grows l.least l.greatest c.args.delta l.chain (g.P.Layer.model l.parent) (g.P.Layer.model c.expand.new.self) c.args.space.now c.expand.new.space c.args.b.now c.parent_block-below.result c.expand.new.b c.parent_len.result _
    (here g.met.P.Layer.made l c.args.space.now c.requires.stands) c.requires.opened c.requires.out (omega (arith, c.if-delta-eq0.false)) (omega (arith, c.if-delta-b.false, c.if-delta-eq0.false))
    c.parent_block-below.ensures c.parent_len.ensures (omega (arith, c.if-lack-eq0.false)) c.if-not-expand.ensures

pub returns : goal.returns
returns g c =
    let l = c.args.self.now in
    grows l.least l.greatest c.args.delta l.chain (g.P.Layer.model l.parent) (g.P.Layer.model c.expand.new.self) c.args.space.now c.expand.new.space c.args.b.now c.parent_block-below.result c.expand.new.b c.parent_len.result _
    (here g.met.P.Layer.made l c.args.space.now c.requires.stands) c.requires.opened c.requires.out (omega (arith, c.if-delta-eq0.false)) (omega (arith, c.if-delta-b.false, c.if-delta-eq0.false))
    c.parent_block-below.ensures c.parent_len.ensures (omega (arith, c.if-lack-eq0.false)) c.if-not-expand.ensures
