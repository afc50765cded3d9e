-- MemberMeanings: what members offer together, and what their alignment is, in words.
use Rattle.std.specs.Prelude.{◌≡◌, ℕ, ◌<◌, ◌≤◌, ◌↔◌, ◌⊎◌, true, List, length}
use Rattle.layer_rules.specs.Offering.{full_alignment}
use Rattle.layer_rules.specs.Rules.{Rules}
use Rattle.layer_rules.specs.Members.{nth, offers_of_all, least_alignment}
use Rattle.layer_laws.specs.Chooses.{EachMember}

-- members together offer what each of them offers
pub record OffersWhatEachOffers (es : List Rules) : Type 0 where
  pub owns : ((offers_of_all es).owns ≡ true) ↔ EachMember (λ e. e.offers.owns ≡ true) es
  pub expand : ((offers_of_all es).expand ≡ true) ↔ EachMember (λ e. e.offers.expand ≡ true) es
  pub aligned : ((offers_of_all es).aligned ≡ true) ↔ EachMember (λ e. e.offers.aligned ≡ true) es
  pub every : ((offers_of_all es).all ≡ true) ↔ EachMember (λ e. e.offers.all ≡ true) es

abbrev pub MembersOfferWhatEachOffers : Type 0
MembersOfferWhatEachOffers = (es : List Rules) → OffersWhatEachOffers es

-- their alignment is at most each one's, and is that of one of them or the greatest that there is
pub record IsLeastAlignment (es : List Rules) (a : ℕ) : Type 0 where
  pub least : EachMember (λ e. a ≤ e.alignment) es
  pub one : (a ≡ full_alignment) ⊎ ((i : ℕ) × (i < length es) × (a ≡ (nth es i).alignment))

abbrev pub AlignmentIsLeast : Type 0
AlignmentIsLeast = (es : List Rules) → IsLeastAlignment es (least_alignment es)
