use Rattle.std.proofs.Common.{nat_eq, ap, sym, ◌∙◌, rules, tests}
use Rattle.std.specs.Option.{option_map}
use Rattle.std.proofs.lemmas.Iterator.Search.{find_from_yields_List}
use Rattle.std.proofs.lemmas.Iterator.{YieldsList-from_slice}
use Rattle.heap_core.specs.declared.Named.{Named}
use Rattle.heap_core.proofs.TableLemmas.{find-named}
use Rattle.heap_core.proofs.table.find_among.Goals as goal

pub returns-in_err-named : goal.returns-in_err-named
returns-in_err-named c =
    let found = find_from_yields_List (λ x. nat_eq x.name c.args.name) _ _ _ c.find.ensures.ran (YieldsList-from_slice c.args.others.now cc) (λ x b q k. search (rules, tests)) in
    let none = sym found ∙ ap (option_map (λ r. r.now)) c.in_err-named.was in
    c.from_residual.ensures ∙ (ap (option_map (λ (x : Named). x.block)) (sym none) ∙ find-named c.args.name c.args.others.now)

pub returns : goal.returns
returns c =
    let found = find_from_yields_List (λ x. nat_eq x.name c.args.name) _ _ _ c.find.ensures.ran (YieldsList-from_slice c.args.others.now cc) (λ x b q k. search (rules, tests)) in
    let some = sym found ∙ ap (option_map (λ r. r.now)) c.in_ok-named.was in
    ap (option_map (λ (x : Named). x.block)) (sym some) ∙ find-named c.args.name c.args.others.now
