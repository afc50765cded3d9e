use Rattle.std.proofs.Common.{arith}
use Rattle.affix_layer.proofs.Moving.{MayMove, beside-at, len-at, may-give-at, IsCarriedOver, moved-block, moved-affixes, moved-others}
use Rattle.affix_layer.proofs.affixing.AffixLayer.move_block.Goals as goal

pub copy-requires-clause-source : goal.copy-requires-clause-source
copy-requires-clause-source g c =
    let h : MayMove c.args.self.now c.args.space.now c.args.b.now = record { made = g.met.P.Layer.made; stands = c.requires.stands; opened = c.requires.opened; out = c.requires.out; marked = c.requires.marked } in
    let x = beside-at c.args.self.now c.allocate.new.self c.args.space.now c.allocate.new.space c.args.b.now c.in-Some.new c.args.n h c.in-Some.ensures.serves in
    let q = len-at c.args.self.now c.allocate.new.self c.args.space.now c.allocate.new.space c.args.b.now c.in-Some.new c.args.n h c.in-Some.ensures.serves in
    rw c.min.ensures (omega (arith, x.old.room))

pub copy-requires-clause-target : goal.copy-requires-clause-target
copy-requires-clause-target g c =
    let h : MayMove c.args.self.now c.args.space.now c.args.b.now = record { made = g.met.P.Layer.made; stands = c.requires.stands; opened = c.requires.opened; out = c.requires.out; marked = c.requires.marked } in
    let x = beside-at c.args.self.now c.allocate.new.self c.args.space.now c.allocate.new.space c.args.b.now c.in-Some.new c.args.n h c.in-Some.ensures.serves in
    let q = len-at c.args.self.now c.allocate.new.self c.args.space.now c.allocate.new.space c.args.b.now c.in-Some.new c.args.n h c.in-Some.ensures.serves in
    rw c.min.ensures (omega (arith, x.new.room, q))

pub carry_affixes-requires-clause-room : goal.carry_affixes-requires-clause-room
carry_affixes-requires-clause-room g c =
    let h : MayMove c.args.self.now c.args.space.now c.args.b.now = record { made = g.met.P.Layer.made; stands = c.requires.stands; opened = c.requires.opened; out = c.requires.out; marked = c.requires.marked } in
    let x = beside-at c.args.self.now c.allocate.new.self c.args.space.now c.allocate.new.space c.args.b.now c.in-Some.new c.args.n h c.in-Some.ensures.serves in
    let q = len-at c.args.self.now c.allocate.new.self c.args.space.now c.allocate.new.space c.args.b.now c.in-Some.new c.args.n h c.in-Some.ensures.serves in
    omega (arith, x.old.room, c.copy.ensures.copied.size)

pub carry_affixes-requires-clause-new_room : goal.carry_affixes-requires-clause-new_room
carry_affixes-requires-clause-new_room g c =
    let h : MayMove c.args.self.now c.args.space.now c.args.b.now = record { made = g.met.P.Layer.made; stands = c.requires.stands; opened = c.requires.opened; out = c.requires.out; marked = c.requires.marked } in
    let x = beside-at c.args.self.now c.allocate.new.self c.args.space.now c.allocate.new.space c.args.b.now c.in-Some.new c.args.n h c.in-Some.ensures.serves in
    let q = len-at c.args.self.now c.allocate.new.self c.args.space.now c.allocate.new.space c.args.b.now c.in-Some.new c.args.n h c.in-Some.ensures.serves in
    omega (arith, x.new.room, c.copy.ensures.copied.size)

pub carry_affixes-requires-clause-apart : goal.carry_affixes-requires-clause-apart
carry_affixes-requires-clause-apart g c =
    let h : MayMove c.args.self.now c.args.space.now c.args.b.now = record { made = g.met.P.Layer.made; stands = c.requires.stands; opened = c.requires.opened; out = c.requires.out; marked = c.requires.marked } in
    let x = beside-at c.args.self.now c.allocate.new.self c.args.space.now c.allocate.new.space c.args.b.now c.in-Some.new c.args.n h c.in-Some.ensures.serves in
    let q = len-at c.args.self.now c.allocate.new.self c.args.space.now c.allocate.new.space c.args.b.now c.in-Some.new c.args.n h c.in-Some.ensures.serves in
    x.none_shared

pub deallocate-requires-clause-stands : goal.deallocate-requires-clause-stands
deallocate-requires-clause-stands g c =
    let h : MayMove c.args.self.now c.args.space.now c.args.b.now = record { made = g.met.P.Layer.made; stands = c.requires.stands; opened = c.requires.opened; out = c.requires.out; marked = c.requires.marked } in
    let y : IsCarriedOver c.allocate.new.self.prefix c.allocate.new.self.suffix c.args.n c.allocate.new.space c.copy.new.self c.carry_affixes.new.space c.args.b.now c.in-Some.new = record { copied = rw c.min.ensures at c.copy.ensures.copied; same = c.copy.ensures.after; carried = c.carry_affixes.ensures.carried; inside = c.carry_affixes.ensures.inside } in
    (may-give-at c.args.self.now c.allocate.new.self c.args.space.now c.allocate.new.space c.copy.new.self c.carry_affixes.new.space c.args.b.now c.in-Some.new c.args.n h c.in-Some.ensures.serves y).stands

pub deallocate-requires-clause-out : goal.deallocate-requires-clause-out
deallocate-requires-clause-out g c =
    let h : MayMove c.args.self.now c.args.space.now c.args.b.now = record { made = g.met.P.Layer.made; stands = c.requires.stands; opened = c.requires.opened; out = c.requires.out; marked = c.requires.marked } in
    let y : IsCarriedOver c.allocate.new.self.prefix c.allocate.new.self.suffix c.args.n c.allocate.new.space c.copy.new.self c.carry_affixes.new.space c.args.b.now c.in-Some.new = record { copied = rw c.min.ensures at c.copy.ensures.copied; same = c.copy.ensures.after; carried = c.carry_affixes.ensures.carried; inside = c.carry_affixes.ensures.inside } in
    (may-give-at c.args.self.now c.allocate.new.self c.args.space.now c.allocate.new.space c.copy.new.self c.carry_affixes.new.space c.args.b.now c.in-Some.new c.args.n h c.in-Some.ensures.serves y).out

pub deallocate-requires-clause-marked : goal.deallocate-requires-clause-marked
deallocate-requires-clause-marked g c =
    let h : MayMove c.args.self.now c.args.space.now c.args.b.now = record { made = g.met.P.Layer.made; stands = c.requires.stands; opened = c.requires.opened; out = c.requires.out; marked = c.requires.marked } in
    let y : IsCarriedOver c.allocate.new.self.prefix c.allocate.new.self.suffix c.args.n c.allocate.new.space c.copy.new.self c.carry_affixes.new.space c.args.b.now c.in-Some.new = record { copied = rw c.min.ensures at c.copy.ensures.copied; same = c.copy.ensures.after; carried = c.carry_affixes.ensures.carried; inside = c.carry_affixes.ensures.inside } in
    (may-give-at c.args.self.now c.allocate.new.self c.args.space.now c.allocate.new.space c.copy.new.self c.carry_affixes.new.space c.args.b.now c.in-Some.new c.args.n h c.in-Some.ensures.serves y).marked

pub returns-in-Some-clause-moves : goal.returns-in-Some-clause-moves
returns-in-Some-clause-moves g c =
    let h : MayMove c.args.self.now c.args.space.now c.args.b.now = record { made = g.met.P.Layer.made; stands = c.requires.stands; opened = c.requires.opened; out = c.requires.out; marked = c.requires.marked } in
    let y : IsCarriedOver c.allocate.new.self.prefix c.allocate.new.self.suffix c.args.n c.allocate.new.space c.copy.new.self c.carry_affixes.new.space c.args.b.now c.in-Some.new = record { copied = rw c.min.ensures at c.copy.ensures.copied; same = c.copy.ensures.after; carried = c.carry_affixes.ensures.carried; inside = c.carry_affixes.ensures.inside } in
    moved-block c.args.self.now c.allocate.new.self c.deallocate.new.self c.args.n c.args.space.now c.allocate.new.space c.copy.new.self c.carry_affixes.new.space c.deallocate.new.space c.args.b.now c.in-Some.new c.deallocate.result h
    (record { lengths = c.in-Some.ensures.lengths; serves = c.in-Some.ensures.serves; over = y; gives = c.deallocate.ensures.takes; served_around = c.in-Some.ensures.around; given_around = c.deallocate.ensures.around })

pub returns-in-Some-clause-carried : goal.returns-in-Some-clause-carried
returns-in-Some-clause-carried g c =
    let h : MayMove c.args.self.now c.args.space.now c.args.b.now = record { made = g.met.P.Layer.made; stands = c.requires.stands; opened = c.requires.opened; out = c.requires.out; marked = c.requires.marked } in
    let y : IsCarriedOver c.allocate.new.self.prefix c.allocate.new.self.suffix c.args.n c.allocate.new.space c.copy.new.self c.carry_affixes.new.space c.args.b.now c.in-Some.new = record { copied = rw c.min.ensures at c.copy.ensures.copied; same = c.copy.ensures.after; carried = c.carry_affixes.ensures.carried; inside = c.carry_affixes.ensures.inside } in
    moved-affixes c.args.self.now c.allocate.new.self c.deallocate.new.self c.args.n c.args.space.now c.allocate.new.space c.copy.new.self c.carry_affixes.new.space c.deallocate.new.space c.args.b.now c.in-Some.new c.deallocate.result h
    (record { lengths = c.in-Some.ensures.lengths; serves = c.in-Some.ensures.serves; over = y; gives = c.deallocate.ensures.takes; served_around = c.in-Some.ensures.around; given_around = c.deallocate.ensures.around })

pub returns-in-Some-clause-around : goal.returns-in-Some-clause-around
returns-in-Some-clause-around g c =
    let h : MayMove c.args.self.now c.args.space.now c.args.b.now = record { made = g.met.P.Layer.made; stands = c.requires.stands; opened = c.requires.opened; out = c.requires.out; marked = c.requires.marked } in
    let y : IsCarriedOver c.allocate.new.self.prefix c.allocate.new.self.suffix c.args.n c.allocate.new.space c.copy.new.self c.carry_affixes.new.space c.args.b.now c.in-Some.new = record { copied = rw c.min.ensures at c.copy.ensures.copied; same = c.copy.ensures.after; carried = c.carry_affixes.ensures.carried; inside = c.carry_affixes.ensures.inside } in
    moved-others c.args.self.now c.allocate.new.self c.deallocate.new.self c.args.n c.args.space.now c.allocate.new.space c.copy.new.self c.carry_affixes.new.space c.deallocate.new.space c.args.b.now c.in-Some.new c.deallocate.result h
    (record { lengths = c.in-Some.ensures.lengths; serves = c.in-Some.ensures.serves; over = y; gives = c.deallocate.ensures.takes; served_around = c.in-Some.ensures.around; given_around = c.deallocate.ensures.around })
