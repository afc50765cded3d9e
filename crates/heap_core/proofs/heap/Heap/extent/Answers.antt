use Rattle.std.proofs.Common.{sum_by, subst, ap, arith}
use Rattle.layer_rules.specs.Rows.{Each}
use Rattle.layer_rules.specs.Layering.{IsRoutedIn}
use Rattle.heap_core.specs.declared.Named.{Named}
use Rattle.heap_core.specs.Heap.{extent_len, block_extent}
use Rattle.heap_core.proofs.NameLemmas.{sum-fits}
use Rattle.heap_core.proofs.TableLemmas.{each-together, sum-parts}
use Rattle.heap_core.proofs.heap.Heap.extent.Goals as goal

pub extent_in_map-requires-clause-routed : goal.extent_in_map-requires-clause-routed
extent_in_map-requires-clause-routed g c =
    let t = g.L.Layer.model c.args.self.now.root in
    (each-together (IsRoutedIn t) c.parts.result.0.now.entries c.parts.result.1.now (subst (Each (λ (x : Named). IsRoutedIn t x.block)) c.parts.ensures.all c.requires.routed)).map

pub extent_among-requires-clause-routed : goal.extent_among-requires-clause-routed
extent_among-requires-clause-routed g c =
    let t = g.L.Layer.model c.args.self.now.root in
    (each-together (IsRoutedIn t) c.parts.result.0.now.entries c.parts.result.1.now (subst (Each (λ (x : Named). IsRoutedIn t x.block)) c.parts.ensures.all c.requires.routed)).others

pub extent_in_map-requires-clause-fits : goal.extent_in_map-requires-clause-fits
extent_in_map-requires-clause-fits g c =
    let t = g.L.Layer.model c.args.self.now.root in
    let fits = sum-fits (extent_len t) c.args.self.now.table c.parts.ensures.table c.requires.short in
    omega (arith, fits, ap (sum_by (extent_len t)) c.parts.ensures.all, sum-parts (block_extent t) c.parts.result.0.now.entries c.parts.result.1.now)

pub extent_among-requires-clause-fits : goal.extent_among-requires-clause-fits
extent_among-requires-clause-fits g c =
    let t = g.L.Layer.model c.args.self.now.root in
    let fits = sum-fits (extent_len t) c.args.self.now.table c.parts.ensures.table c.requires.short in
    omega (arith, fits, ap (sum_by (extent_len t)) c.parts.ensures.all, sum-parts (block_extent t) c.parts.result.0.now.entries c.parts.result.1.now)

pub overflow_add-result : goal.overflow_add-result
overflow_add-result g c =
    let t = g.L.Layer.model c.args.self.now.root in
    let fits = sum-fits (extent_len t) c.args.self.now.table c.parts.ensures.table c.requires.short in
    omega (arith, fits, ap (sum_by (extent_len t)) c.parts.ensures.all, sum-parts (block_extent t) c.parts.result.0.now.entries c.parts.result.1.now, c.extent_in_map.ensures, c.extent_among.ensures)

pub returns : goal.returns
returns g c =
    let t = g.L.Layer.model c.args.self.now.root in
    omega (arith, ap (sum_by (extent_len t)) c.parts.ensures.all, sum-parts (block_extent t) c.parts.result.0.now.entries c.parts.result.1.now, c.extent_in_map.ensures, c.extent_among.ensures)
