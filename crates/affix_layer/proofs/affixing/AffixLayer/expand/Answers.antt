use Rattle.std.proofs.Common.{arith}
use Rattle.affix_layer.proofs.Standing.{here, affixed-of}
use Rattle.affix_layer.proofs.Growing.{grown-below, grows, grows-carried, grows-round, stays-short, stays-round}
use Rattle.affix_layer.proofs.affixing.AffixLayer.expand.Goals as goal

pub overflow_sub-b : goal.overflow_sub-b
overflow_sub-b g c =
    let l = c.args.self.now in
    (affixed-of l.prefix l.suffix l.is_set (g.P.Layer.model l.parent) c.args.space.now c.args.b.now (here g.met.P.Layer.made l c.args.space.now c.requires.stands) c.requires.out).most

pub returns-then-not-expand-clause-expands : goal.returns-then-not-expand-clause-expands
returns-then-not-expand-clause-expands g c =
    let l = c.args.self.now in
    stays-short l.prefix l.suffix c.args.delta l.is_set (g.P.Layer.model l.parent) (g.P.Layer.model c.expand.new.self) c.args.space.now c.expand.new.space c.args.b.now c.expand.new.b (here g.met.P.Layer.made l c.args.space.now c.requires.stands) c.requires.opened c.requires.out
    (omega (arith, c.if-delta-eq0.false)) (omega (arith, c.if-delta-b.false, c.if-delta-eq0.false)) (rw c.affixed-whole.ensures at c.if-not-expand.ensures)

pub overflow_add-end : goal.overflow_add-end
overflow_add-end g c =
    let l = c.args.self.now in
    let x = grown-below l.prefix l.suffix c.args.delta l.is_set (g.P.Layer.model l.parent) (g.P.Layer.model c.expand.new.self) c.args.space.now c.expand.new.space c.args.b.now c.expand.new.b (here g.met.P.Layer.made l c.args.space.now c.requires.stands) c.requires.out (rw c.affixed-whole.ensures at c.if-not-expand.ensures) in
    omega (arith, x.room, x.few)

pub overflow_add-end-2 : goal.overflow_add-end-2
overflow_add-end-2 g c =
    let l = c.args.self.now in
    let x = grown-below l.prefix l.suffix c.args.delta l.is_set (g.P.Layer.model l.parent) (g.P.Layer.model c.expand.new.self) c.args.space.now c.expand.new.space c.args.b.now c.expand.new.b (here g.met.P.Layer.made l c.args.space.now c.requires.stands) c.requires.out (rw c.affixed-whole.ensures at c.if-not-expand.ensures) in
    omega (arith, x.room, x.few)

pub copy-requires-clause-source : goal.copy-requires-clause-source
copy-requires-clause-source g c =
    let l = c.args.self.now in
    let x = grown-below l.prefix l.suffix c.args.delta l.is_set (g.P.Layer.model l.parent) (g.P.Layer.model c.expand.new.self) c.args.space.now c.expand.new.space c.args.b.now c.expand.new.b (here g.met.P.Layer.made l c.args.space.now c.requires.stands) c.requires.out (rw c.affixed-whole.ensures at c.if-not-expand.ensures) in
    omega (arith, x.room, x.few)

pub copy-requires-clause-target : goal.copy-requires-clause-target
copy-requires-clause-target g c =
    let l = c.args.self.now in
    let x = grown-below l.prefix l.suffix c.args.delta l.is_set (g.P.Layer.model l.parent) (g.P.Layer.model c.expand.new.self) c.args.space.now c.expand.new.space c.args.b.now c.expand.new.b (here g.met.P.Layer.made l c.args.space.now c.requires.stands) c.requires.out (rw c.affixed-whole.ensures at c.if-not-expand.ensures) in
    omega (arith, x.room, x.few)

pub write_length-requires-clause-room : goal.write_length-requires-clause-room
write_length-requires-clause-room g c =
    let l = c.args.self.now in
    let x = grown-below l.prefix l.suffix c.args.delta l.is_set (g.P.Layer.model l.parent) (g.P.Layer.model c.expand.new.self) c.args.space.now c.expand.new.space c.args.b.now c.expand.new.b (here g.met.P.Layer.made l c.args.space.now c.requires.stands) c.requires.out (rw c.affixed-whole.ensures at c.if-not-expand.ensures) in
    omega (arith, x.room, c.copy.ensures.copied.size)

pub returns-clause-expands : goal.returns-clause-expands
returns-clause-expands g c =
    let l = c.args.self.now in
    grows l.prefix l.suffix c.args.delta l.is_set (g.P.Layer.model l.parent) (g.P.Layer.model c.expand.new.self) c.args.space.now c.expand.new.space c.copy.new.self c.write_length.new.space c.args.b.now c.expand.new.b (here g.met.P.Layer.made l c.args.space.now c.requires.stands) c.requires.opened c.requires.out
    (omega (arith, c.if-delta-eq0.false)) (omega (arith, c.if-delta-b.false, c.if-delta-eq0.false)) (rw c.affixed-whole.ensures at c.if-not-expand.ensures)
    (record { copied = c.copy.ensures.copied; same = c.copy.ensures.after; length = c.write_length.ensures.length; inside = c.write_length.ensures.inside })

pub returns-then-not-expand-clause-carried : goal.returns-then-not-expand-clause-carried
returns-then-not-expand-clause-carried g c =
    let l = c.args.self.now in
    stays-round l.prefix l.suffix c.args.delta l.is_set (g.P.Layer.model l.parent) (g.P.Layer.model c.expand.new.self) c.args.space.now c.expand.new.space c.args.b.now c.expand.new.b (here g.met.P.Layer.made l c.args.space.now c.requires.stands) (rw c.affixed-whole.ensures at c.if-not-expand.ensures) c.args.b.now c.requires.out

pub returns-then-not-expand-clause-around : goal.returns-then-not-expand-clause-around
returns-then-not-expand-clause-around g c d o far =
    let l = c.args.self.now in
    stays-round l.prefix l.suffix c.args.delta l.is_set (g.P.Layer.model l.parent) (g.P.Layer.model c.expand.new.self) c.args.space.now c.expand.new.space c.args.b.now c.expand.new.b (here g.met.P.Layer.made l c.args.space.now c.requires.stands) (rw c.affixed-whole.ensures at c.if-not-expand.ensures) d o

pub returns-clause-carried : goal.returns-clause-carried
returns-clause-carried g c =
    let l = c.args.self.now in
    grows-carried l.prefix l.suffix c.args.delta l.is_set (g.P.Layer.model l.parent) (g.P.Layer.model c.expand.new.self) c.args.space.now c.expand.new.space c.copy.new.self c.write_length.new.space c.args.b.now c.expand.new.b (here g.met.P.Layer.made l c.args.space.now c.requires.stands) c.requires.out
    (rw c.affixed-whole.ensures at c.if-not-expand.ensures) (record { copied = c.copy.ensures.copied; same = c.copy.ensures.after; length = c.write_length.ensures.length; inside = c.write_length.ensures.inside })

pub returns-clause-around : goal.returns-clause-around
returns-clause-around g c =
    let l = c.args.self.now in
    grows-round l.prefix l.suffix c.args.delta l.is_set (g.P.Layer.model l.parent) (g.P.Layer.model c.expand.new.self) c.args.space.now c.expand.new.space c.copy.new.self c.write_length.new.space c.args.b.now c.expand.new.b (here g.met.P.Layer.made l c.args.space.now c.requires.stands) c.requires.opened c.requires.out
    (rw c.affixed-whole.ensures at c.if-not-expand.ensures) (record { copied = c.copy.ensures.copied; same = c.copy.ensures.after; length = c.write_length.ensures.length; inside = c.write_length.ensures.inside })
