use Rattle.std.proofs.Common.{ap, ℕ, ◌+◌, ◌-◌, List, length, drop, arith}
use Rattle.layer_rules.specs.Blocks.{end_of}
use Rattle.std.proofs.lemmas.List.{length-take}
use Rattle.layer_tests.proofs.affixes.writes_behind.Goals as goal

pub returns-clause-ready : goal.returns-clause-ready
returns-clause-ready g c =
    let l = c.args.layer.now in
    let most = length-take ((end_of c.args.b + l.suffix) - end_of c.args.b) (drop (end_of c.args.b) c.args.space.now.bytes) in
    let k = c.writes_round_blocks.ensures.suffix l.prefix l.suffix l.is_set (g.P.Layer.model l.parent) c.args.space.now c.args.b c.copy_from_slice.new.self (record { made = g.met.P.Layer.made l.parent; together = l.together; stands = c.requires.ready.stands; out = c.requires.held.out })
    (omega (arith, most, ap (λ (xs : List ℕ). length xs) c.suffix_mut-lent.ensures.value, c.copy_from_slice.ensures.len)) in
    record { stands = k.stands; opened = c.requires.ready.opened }

pub returns-clause-held : goal.returns-clause-held
returns-clause-held g c =
    let l = c.args.layer.now in
    let most = length-take ((end_of c.args.b + l.suffix) - end_of c.args.b) (drop (end_of c.args.b) c.args.space.now.bytes) in
    let k = c.writes_round_blocks.ensures.suffix l.prefix l.suffix l.is_set (g.P.Layer.model l.parent) c.args.space.now c.args.b c.copy_from_slice.new.self (record { made = g.met.P.Layer.made l.parent; together = l.together; stands = c.requires.ready.stands; out = c.requires.held.out })
    (omega (arith, most, ap (λ (xs : List ℕ). length xs) c.suffix_mut-lent.ensures.value, c.copy_from_slice.ensures.len)) in
    record { out = k.out c.args.b c.requires.held.out; marked = k.marked c.requires.held.marked }
