use Rattle.std.proofs.Common.{◌≡◌, Some, nat_eq, is_some, sym, ap, subst, ◌∙◌, arith}
use Rattle.std.specs.Map.{lookup}
use Rattle.heap_core.specs.Names.{with_named, without_name, together, IsTable}
use Rattle.heap_core.proofs.NameLemmas.{without-none, without-fewer, table-replaced}
use Rattle.heap_core.proofs.TableLemmas.{PutsAt, table_own, are_apart, map-puts, replaced-put}
use Rattle.heap_core.proofs.table.Table.replace.Goals as goal

-- the block is in the map, where another takes its place
pub returns-in-Some : goal.returns-in-Some
returns-in-Some c =
    let es = c.self.inside.map.entries in
    let others = c.self.inside.others.items in
    let x = c.args.named in
    let new = c.get_mut.follows.lender x.block in
    let old = together es others in
    let own = table_own old c.self.invariant.kept in
    let here : lookup (nat_eq x.name) es ≡ Some c.in-Some.block.now = sym c.in-Some.ensures.value in
    let written = c.get_mut.follows.holds x.block in
    let updates = written.3 (ap is_some here) in
    let puts : PutsAt x.name (Some x.block) old (together new.entries others) = map-puts x.name (Some x.block) es new.entries others own written.4 (are_apart es others own x.name (ap is_some here)) updates.0 in
    replaced-put x old (together new.entries others) own puts ∙ ap (λ l. with_named x (without_name x.name l)) c.self.view_is

pub invariant_of-self : goal.invariant_of-self
invariant_of-self c =
    let x = c.args.named in
    let table = subst IsTable c.self.view_is c.self.invariant.kept in
    record { kept = rw (returns-in-Some c) (table-replaced x c.args.self.now table c.requires.live c.requires.short); room = c.self.invariant.room }

-- the block is among the others
pub insert-requires-clause-fresh : goal.insert-requires-clause-fresh
insert-requires-clause-fresh c = rw c.remove.ensures.after (without-none _ c.args.named.name)

pub insert-requires-clause-room : goal.insert-requires-clause-room
insert-requires-clause-room c =
    let table = subst IsTable c.self.view_is c.self.invariant.kept in
    let fewer = without-fewer c.args.self.now c.args.named.name c.requires.live in
    rw (c.remove.ensures.after, c.get_mut.follows.holds-at-none, c.self.view_is) (omega (arith, fewer, table.most))
