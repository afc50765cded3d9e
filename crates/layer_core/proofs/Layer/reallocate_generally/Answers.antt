use Rattle.std.proofs.Common.{◌≡◌, true, ap, sym, ◌∙◌, arith}
use Rattle.layer_rules.specs.declared.Offers.{Offers}
use Rattle.layer_laws.proofs.StandingLaws.{expanded-keeps_out, expanded-changes_own, expanded-keeps_extents}
use Rattle.layer_laws.proofs.Moving.{of-grown_then_moved}
use Rattle.layer_core.proofs.Layer.reallocate_generally.Goals as goal

pub returns-then-offers : goal.returns-then-offers
returns-then-offers g c =
    let s = g.met.Self.Layer.made c.args.self.now in
    let a = c.if-expand.ensures in
    let x : (g.Self.Layer.model c.args.self.now).rules.offers.expand ≡ true = ap (λ (o : Offers). o.expand) (sym c.offers.ensures) ∙ c.if-offers.true in
    of-grown_then_moved _ _ _ _ _ _ _ _ _ _ _ (omega arith) (omega arith) x c.requires.out
    (expanded-changes_own _ _ _ _ _ _ _ _ s c.requires.stands c.requires.out a)
    (λ d o. expanded-keeps_out _ _ _ _ _ _ _ _ s c.requires.stands c.requires.out a d o (λ z. absurd (cc)))
    (λ d p z. record { either = rw (expanded-keeps_extents _ _ _ _ _ _ _ _ s c.requires.stands c.requires.out a c.args.b.now c.requires.out (λ z. absurd (cc)), expanded-keeps_extents _ _ _ _ _ _ _ _ s c.requires.stands c.requires.out a d p (λ z. absurd (cc))) z.either })
    a c.move_block.ensures
