-- Quantize: it asks its parent for lengths of some kind alone, and shows the bytes that were asked.
use Rattle.std.specs.Prelude.{true, nat_eq, nat_le}
use Rattle.size_round.specs.Sizes.{limit, RoundingKind, rounded}
use Rattle.layer_rules.specs.declared.Block.{Block}
use Rattle.layer_rules.specs.Blocks.{with_len}
use Rattle.layer_rules.specs.Allocating.{truncated}
use Rattle.layer_rules.specs.Offering.{offers_of, if_served}
use Rattle.layer_rules.specs.Setting.{need_of}
use Rattle.layer_rules.specs.Rules.{Rules}
use Rattle.layer_rules.specs.Handing.{Handing, as_it_is, handing_rules}

-- the block as the parent sees it
abbrev pub quantize_down : RoundingKind → Block → Block
quantize_down kind b = with_len b (rounded kind b.len)

-- A length that is rounded as another one is has the same block. The parent is asked to make one longer where it offers that;
-- it is offered in any case, as a block may be long enough.
abbrev pub quantize_handing : RoundingKind → Rules → Handing
quantize_handing kind e = record (as_it_is e) {
  down = quantize_down kind;
  asked = rounded kind;
  shown = truncated;
  expands = e.offers.expand;
  in_place = λ len n. nat_eq (rounded kind n) (rounded kind len);
  opens_for = λ need. nat_le (need_of need (rounded kind need)) limit;
  need = λ need. need_of need (rounded kind need);
  offers = let o = e.offers in offers_of o.owns true o.aligned o.all;
  good_alloc_size = if_served (rounded kind);
}

unfoldable pub quantize_rules : RoundingKind → Rules → Rules
quantize_rules kind e = handing_rules (quantize_handing kind e) e
