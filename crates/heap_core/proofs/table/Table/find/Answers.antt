use Rattle.std.proofs.Common.{◌≡◌, Some, None, nat_eq, refl, sym, ◌∙◌}
use Rattle.std.specs.Map.{lookup}
use Rattle.heap_core.proofs.TableLemmas.{named-parts}
use Rattle.heap_core.proofs.table.Table.find.Goals as goal

-- the map has the name
pub returns-in-Some-clause-block : goal.returns-in-Some-clause-block
returns-in-Some-clause-block c =
    let es = c.self.inside.map.entries in
    let here : lookup (nat_eq c.args.name) es ≡ Some c.in-Some.block.now = sym c.in-Some.ensures.value in
    rw (← c.self.view_is) (sym (named-parts es c.self.inside.others.items c.self.invariant.kept c.args.name ∙ rw here refl))

-- it doesn't, so the others say
pub returns-in-None-clause-block : goal.returns-in-None-clause-block
returns-in-None-clause-block c =
    let es = c.self.inside.map.entries in
    let here : lookup (nat_eq c.args.name) es ≡ None = sym c.in-None.ensures.value in
    rw (← c.self.view_is, c.find_among.ensures, c.deref.ensures.value) (sym (named-parts es c.self.inside.others.items c.self.invariant.kept c.args.name ∙ rw here refl))
