-- What layers offer, the alignment of their places, and their good sizes.
use Rattle.layer_rules.specs.declared.Offers.{Offers}
use Rattle.size_round.specs.Sizes.{limit}
use Rattle.std.specs.Prelude.{Bool, false, nat_le, true, ℕ, ◌&&◌}

abbrev pub offers_of : (owns expand aligned all : Bool) → Offers
offers_of owns expand aligned all = record { owns = owns; expand = expand; aligned = aligned; all = all }

abbrev pub all_offers : Offers
all_offers = offers_of true true true true

-- what both offer
abbrev pub both_offer : Offers → Offers → Offers
both_offer o p = offers_of (o.owns && p.owns) (o.expand && p.expand) (o.aligned && p.aligned) (o.all && p.all)

-- the greatest alignment that there is
abbrev pub full_alignment : ℕ
full_alignment = 65536

-- a length that some layer serves
abbrev pub is_served_size : ℕ → Bool
is_served_size n = nat_le 1 n && nat_le n limit

-- g of a length that is served, and any other length itself
abbrev pub if_served : (ℕ → ℕ) → ℕ → ℕ
if_served g n = elim (is_served_size n) [ true ↦ g n | false ↦ n ]
