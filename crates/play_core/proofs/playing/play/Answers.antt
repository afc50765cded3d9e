use Rattle.std.proofs.Common.{◌≡◌, arith, ap, inl, refl, ◌∙◌}
use Rattle.space_core.specs.Memory.{Memory, fresh_memory}
use Rattle.expr_reader.specs.Trees.{tree_of}
use Rattle.play_core.proofs.RootLemmas.{root_free, root_stands}
use Rattle.play_core.proofs.playing.play.Goals as goal

pub build-requires-clause-leaves : goal.build-requires-clause-leaves
build-requires-clause-leaves g c =
    let fits = c.buildable_are_compositions.ensures (tree_of c.args.expr.now) c.requires.buildable 0 in
    omega (arith, ap (λ (m : Memory). m.leaves) c.in-Ok.ensures.ok, ap (λ (m : Memory). m.leaves) c.requires.closed, fits.few)

pub returns-in_default-build-clause-runs : goal.returns-in_default-build-clause-runs
returns-in_default-build-clause-runs g c =
    let fresh : c.set_up.new.self ≡ fresh_memory c.args.cells 0 = c.in-Ok.ensures.ok ∙ ap (λ (m : Memory). fresh_memory c.args.cells m.leaves) c.requires.closed in
    inl (record { status = refl; unread = refl; unwritten = refl; free = root_free (tree_of c.args.expr.now) c.set_up.new.self c.build.new.space c.args.cells fresh c.in_default-build.ensures.space })

pub play_on-requires-clause-stands : goal.play_on-requires-clause-stands
play_on-requires-clause-stands g c =
    let fits = c.buildable_are_compositions.ensures (tree_of c.args.expr.now) c.requires.buildable 0 in
    let fresh : c.set_up.new.self ≡ fresh_memory c.args.cells 0 = c.in-Ok.ensures.ok ∙ ap (λ (m : Memory). fresh_memory c.args.cells m.leaves) c.requires.closed in
    root_stands _ (tree_of c.args.expr.now) c.set_up.new.self c.build.new.space c.args.cells c.in-Ok-build.ensures.rules c.in-Ok-build.ensures.shut fits c.in-Ok.ensures.memory fresh c.in-Ok-build.ensures.space

pub play_on-requires-clause-free : goal.play_on-requires-clause-free
play_on-requires-clause-free g c =
    let fresh : c.set_up.new.self ≡ fresh_memory c.args.cells 0 = c.in-Ok.ensures.ok ∙ ap (λ (m : Memory). fresh_memory c.args.cells m.leaves) c.requires.closed in
    root_free (tree_of c.args.expr.now) c.set_up.new.self c.build.new.space c.args.cells fresh c.in-Ok-build.ensures.space
