use Rattle.std.proofs.Common.{◌≡◌, true, ap, sym, ◌∙◌, arith}
use Rattle.layer_rules.specs.declared.Offers.{Offers}
use Rattle.layer_laws.proofs.Moving.{of-grown_then_moved}
use Rattle.layer_laws.proofs.StandingLaws.{expanded-keeps}
use Rattle.affix_layer.specs.AffixMade.{affix_made}
use Rattle.affix_layer.specs.AffixModel.{affix_of}
use Rattle.affix_layer.proofs.Moving.{tried-others}
use Rattle.affix_layer.proofs.affixing.AffixLayer.reallocate_generally.Goals as goal

pub move_block-requires-clause-stands : goal.move_block-requires-clause-stands
move_block-requires-clause-stands g c =
    (expanded-keeps _ _ _ _ _ _ _ _ (affix_made g.met.P.Layer.made c.args.self.now) c.requires.stands c.requires.out c.if-expand.ensures.expands).stands

pub move_block-requires-clause-out : goal.move_block-requires-clause-out
move_block-requires-clause-out g c =
    (expanded-keeps _ _ _ _ _ _ _ _ (affix_made g.met.P.Layer.made c.args.self.now) c.requires.stands c.requires.out c.if-expand.ensures.expands).gives

pub returns-then-offers-clause-generally : goal.returns-then-offers-clause-generally
returns-then-offers-clause-generally g c =
    let k = expanded-keeps _ _ _ _ _ _ _ _ (affix_made g.met.P.Layer.made c.args.self.now) c.requires.stands c.requires.out c.if-expand.ensures.expands in
    let x : (affix_of g.P.Layer.model c.args.self.now).rules.offers.expand ≡ true = ap (λ (o : Offers). o.expand) (sym c.offers.ensures) ∙ c.if-offers.true in
    of-grown_then_moved _ _ _ _ _ _ _ _ _ _ _ (omega arith) (omega arith) x c.requires.out k.changes_own
    (λ d o. k.out d o (λ z. absurd (cc)))
    (λ d p z. record { either = rw (k.extents c.args.b.now c.requires.out (λ z. absurd (cc)), k.extents d p (λ z. absurd (cc))) z.either })
    c.if-expand.ensures.expands c.move_block.ensures.moves

pub returns-then-offers-clause-around : goal.returns-then-offers-clause-around
returns-then-offers-clause-around g c =
    tried-others c.args.self.now c.expand.new.self c.args.space.now c.expand.new.space c.move_block.new.space c.args.b.now c.expand.new.b _ c.move_block.result
    (record { made = g.met.P.Layer.made; stands = c.requires.stands; opened = c.requires.opened; out = c.requires.out; marked = c.requires.marked })
    c.if-expand.ensures.lengths c.if-expand.ensures.expands c.if-expand.ensures.around c.move_block.ensures.around
