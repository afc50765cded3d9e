use Rattle.std.proofs.Common.{◌≡◌, None, Some, nat_eq, is_some, not, refl, sym, ap, subst, ◌∙◌, rules, tests}
use Rattle.std.specs.List.{IsDistinct}
use Rattle.std.specs.Map.{keys_of, lookup}
use Rattle.std.proofs.lemmas.Fn.{filter_same}
use Rattle.heap_core.specs.Names.{without_name, in_order, together, IsTable}
use Rattle.heap_core.proofs.NameLemmas.{table-without}
use Rattle.heap_core.proofs.TableLemmas.{PutsAt, table_own, are_apart, named-parts, map-puts, others-put, without-puts, without-put, others_own}
use Rattle.heap_core.proofs.table.Table.remove.Goals as goal

-- the block was in the map
pub returns-in-Some-clause-after : goal.returns-in-Some-clause-after
returns-in-Some-clause-after c =
    let es = c.self.inside.map.entries in
    let ns = c.remove.new.self.entries in
    let others = c.self.inside.others.items in
    let k = c.args.name in
    let old = together es others in
    let own = table_own old c.self.invariant.kept in
    let here : lookup (nat_eq k) es ≡ Some c.in-Some.block = sym c.in-Some.ensures.value in
    let puts : PutsAt k None old (together ns others) = map-puts k None es ns others own c.in-Some.ensures.unique (are_apart es others own k (ap is_some here)) c.in-Some.ensures.updates.0 in
    without-put k old (together ns others) own puts ∙ ap (without_name k) c.self.view_is

-- it was not, so it is taken out of the others
pub returns-in-None-clause-after : goal.returns-in-None-clause-after
returns-in-None-clause-after c =
    let es = c.self.inside.map.entries in
    let others = c.self.inside.others.items in
    let k = c.args.name in
    let old = together es others in
    let own = table_own old c.self.invariant.kept in
    let here : lookup (nat_eq k) es ≡ None = sym c.in-None.ensures.value in
    let distinct : IsDistinct nat_eq (keys_of es) = subst (λ l. IsDistinct nat_eq (keys_of l)) c.in-None.ensures.unchanged c.in-None.ensures.unique in
    let puts = others-put k None es others (without_name k others) own distinct here (without-puts k others (others_own es others own)) in
    let left : c.retain.new.self.items ≡ without_name k others = filter_same _ (λ x. not (nat_eq x.name k)) _ (λ x b f called. search (rules, tests)) _ _ c.retain.ensures.filtered in
    let e : in_order (together c.remove.new.self.entries c.retain.new.self.items) ≡ in_order (together es (without_name k others)) = rw (c.in-None.ensures.unchanged, left) refl in
    e ∙ (without-put k old (together es (without_name k others)) own puts ∙ ap (without_name k) c.self.view_is)

pub invariant_of-self : goal.invariant_of-self
invariant_of-self c =
    let table = subst IsTable c.self.view_is c.self.invariant.kept in
    record { kept = rw (returns-in-Some-clause-after c) (table-without c.args.name c.args.self.now table); room = c.self.invariant.room }

pub invariant_of-self-in-None : goal.invariant_of-self-in-None
invariant_of-self-in-None c =
    let table = subst IsTable c.self.view_is c.self.invariant.kept in
    record { kept = rw (returns-in-None-clause-after c) (table-without c.args.name c.args.self.now table); room = rw c.retain.ensures.capacity c.self.invariant.room }

pub returns-in-Some-clause-block : goal.returns-in-Some-clause-block
returns-in-Some-clause-block c =
    let es = c.self.inside.map.entries in
    let here : lookup (nat_eq c.args.name) es ≡ Some c.in-Some.block = sym c.in-Some.ensures.value in
    rw (← c.self.view_is) (sym (named-parts es c.self.inside.others.items c.self.invariant.kept c.args.name ∙ rw here refl))

pub returns-in-None-clause-block : goal.returns-in-None-clause-block
returns-in-None-clause-block c =
    let es = c.self.inside.map.entries in
    let here : lookup (nat_eq c.args.name) es ≡ None = sym c.in-None.ensures.value in
    rw (← c.self.view_is, c.find_among-block.ensures, c.deref.ensures.value) (sym (named-parts es c.self.inside.others.items c.self.invariant.kept c.args.name ∙ rw here refl))
