use Rattle.std.proofs.Common.{◌≡◌, true, arith}
use Rattle.std.proofs.lemmas.Bool.Decides.{nat_tests}
use Rattle.layer_rules.specs.Offering.{is_served_size}
use Rattle.free_list.proofs.Owning.{owned}
use Rattle.free_list.proofs.caching.FreeListLayer.owns.Goals as goal

pub returns : goal.returns
returns g c =
    let l = c.args.self.now in
    let p : is_served_size c.args.b.len ≡ true = grind (arith, nat_tests, c.if-b-eq0.false, c.if-b-gt-LIMIT.false) in
    owned l.least l.greatest l.chain (g.P.Layer.model l.parent) (g.P.Layer.model c.owns.new.self) c.args.b c.parent_block.result c.owns.result (g.met.P.Layer.made l.parent) l.proper l.together c.requires.opened p c.parent_block.ensures c.owns.ensures
