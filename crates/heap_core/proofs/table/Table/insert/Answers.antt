use Rattle.std.proofs.Common.{◌≡◌, ◌<◌, ◌++◌, [], ◌∷◌, length, None, Some, nat_eq, refl, sym, ap, subst, ◌∙◌, arith}
use Rattle.std.specs.List.{IsDistinct}
use Rattle.std.specs.Map.{keys_of}
use Rattle.heap_core.specs.Names.{named_at, with_named, in_order, together, IsTable}
use Rattle.heap_core.specs.Performing.{most_live}
use Rattle.heap_core.proofs.NameLemmas.{table-with}
use Rattle.heap_core.proofs.TableLemmas.{PutsAt, table_own, absent, put_in_order, length-parts, map-puts, others-put, behind-puts, with-put, others_own}
use Rattle.heap_core.proofs.table.Table.insert.Goals as goal

-- the map takes the block
pub returns-in-Ok : goal.returns-in-Ok
returns-in-Ok c =
    let es = c.self.inside.map.entries in
    let ns = c.insert.new.self.entries in
    let others = c.self.inside.others.items in
    let x = c.args.named in
    let old = together es others in
    let own = table_own old c.self.invariant.kept in
    let fresh : named_at old x.name ≡ None = sym ((put_in_order old own).at x.name) ∙ (ap (λ l. named_at l x.name) c.self.view_is ∙ c.requires.fresh) in
    let puts : PutsAt x.name (Some x.block) old (together ns others) = map-puts x.name (Some x.block) es ns others own c.in-Ok.ensures.unique (absent es others x.name fresh).two c.in-Ok.ensures.updates.0 in
    with-put x old (together ns others) own fresh puts ∙ ap (with_named x) c.self.view_is

-- it refuses the block, which goes to the others
pub returns-in-Err : goal.returns-in-Err
returns-in-Err c =
    let es = c.self.inside.map.entries in
    let others = c.self.inside.others.items in
    let x = c.args.named in
    let old = together es others in
    let own = table_own old c.self.invariant.kept in
    let fresh : named_at old x.name ≡ None = sym ((put_in_order old own).at x.name) ∙ (ap (λ l. named_at l x.name) c.self.view_is ∙ c.requires.fresh) in
    let none = absent es others x.name fresh in
    let distinct : IsDistinct nat_eq (keys_of es) = subst (λ l. IsDistinct nat_eq (keys_of l)) c.in-Err.ensures.err c.in-Err.ensures.unique in
    let puts = others-put x.name (Some x.block) es others (others ++ x ∷ []) own distinct none.one (behind-puts x others (others_own es others own) none.two) in
    let e : in_order (together c.insert.new.self.entries c.push.new.self.items) ≡ in_order (together es (others ++ x ∷ [])) = rw (c.in-Err.ensures.err, c.push.ensures.items, c.unwrap.ensures) refl in
    e ∙ (with-put x old (together es (others ++ x ∷ [])) own fresh puts ∙ ap (with_named x) c.self.view_is)

pub invariant_of-self : goal.invariant_of-self
invariant_of-self c =
    let x = c.args.named in
    let table = subst IsTable c.self.view_is c.self.invariant.kept in
    record { kept = rw (returns-in-Ok c) (table-with x c.args.self.now table c.requires.fresh c.requires.room c.requires.short); room = c.self.invariant.room }

pub unwrap-requires : goal.unwrap-requires
unwrap-requires c =
    let all : length (in_order (together c.self.inside.map.entries c.self.inside.others.items)) < most_live = rw c.self.view_is c.requires.room in
    let room : length c.self.inside.others.items < most_live = omega (arith, length-parts c.self.inside.map.entries c.self.inside.others.items) in
    c.push.ensures.succeeds (omega (arith, room, c.self.invariant.room))

pub invariant_of-self-in-Err : goal.invariant_of-self-in-Err
invariant_of-self-in-Err c =
    let x = c.args.named in
    let table = subst IsTable c.self.view_is c.self.invariant.kept in
    record { kept = rw (returns-in-Err c) (table-with x c.args.self.now table c.requires.fresh c.requires.room c.requires.short); room = omega (arith, c.push.ensures.capacity, c.self.invariant.room) }
