-- What holds of members together and of each.
use Rattle.std.proofs.Common.{◌≡◌, refl, ℕ, zero, suc, ◌<◌, ◌≤◌, ◌⊎◌, inl, inr, ⊎_elim, min, Bool, true, ◌&&◌, arith, List, [], ◌∷◌, length}
use Rattle.std.proofs.lemmas.Bool.{cases_lt, and_from}
use Rattle.layer_rules.specs.Offering.{full_alignment}
use Rattle.layer_rules.specs.Rules.{Rules}
use Rattle.layer_rules.specs.Members.{nth, offers_of_all, least_alignment}
use Rattle.layer_laws.proofs.Basics.{and-fst, and-snd}
use Rattle.layer_laws.specs.Chooses.{EachMember}
use Rattle.layer_laws.specs.MemberMeanings.{MembersOfferWhatEachOffers, IsLeastAlignment, AlignmentIsLeast}

-- a test of members that asks the first, and then those behind it, asks each
pub each-cons : (P : Rules → Bool) (e : Rules) (es : List Rules) (rest : Bool) → (rest ≡ true → EachMember (λ f. P f ≡ true) es) → (P e && rest) ≡ true → EachMember (λ f. P f ≡ true) (e ∷ es)
each-cons P e es rest h t zero l = and-fst (P e) rest t
each-cons P e es rest h t (suc i) l = h (and-snd (P e) rest t) i (omega arith)

pub cons-each : (P : Rules → Bool) (e : Rules) (es : List Rules) (rest : Bool) → (EachMember (λ f. P f ≡ true) es → rest ≡ true) → EachMember (λ f. P f ≡ true) (e ∷ es) → (P e && rest) ≡ true
cons-each P e es rest h t = and_from (P e) rest (t 0 (omega arith)) (h (λ i l. t (suc i) (omega arith)))

pub none-each : (P : Rules → Bool) → EachMember (λ f. P f ≡ true) []
none-each P i l = absurd (omega arith)

pub members_offer_what_each_offers : MembersOfferWhatEachOffers
members_offer_what_each_offers [] = record {
  owns = (λ h. none-each (λ f. f.offers.owns), λ h. refl);
  expand = (λ h. none-each (λ f. f.offers.expand), λ h. refl);
  aligned = (λ h. none-each (λ f. f.offers.aligned), λ h. refl);
  every = (λ h. none-each (λ f. f.offers.all), λ h. refl);
}
members_offer_what_each_offers (e ∷ es) =
    let r = members_offer_what_each_offers es in
    let o = offers_of_all es in
    record {
      owns = (each-cons (λ f. f.offers.owns) e es o.owns r.owns.0, cons-each (λ f. f.offers.owns) e es o.owns r.owns.1);
      expand = (each-cons (λ f. f.offers.expand) e es o.expand r.expand.0, cons-each (λ f. f.offers.expand) e es o.expand r.expand.1);
      aligned = (each-cons (λ f. f.offers.aligned) e es o.aligned r.aligned.0, cons-each (λ f. f.offers.aligned) e es o.aligned r.aligned.1);
      every = (each-cons (λ f. f.offers.all) e es o.all r.every.0, cons-each (λ f. f.offers.all) e es o.all r.every.1);
    }

least-cons : (e : Rules) (es : List Rules) → IsLeastAlignment es (least_alignment es) → IsLeastAlignment (e ∷ es) (min e.alignment (least_alignment es))
least-cons e es r = record { least = least; one = one }
  where
    least : EachMember (λ f. min e.alignment (least_alignment es) ≤ f.alignment) (e ∷ es)
    least zero l = omega arith
    least (suc i) l = let w = r.least i (omega arith) in omega arith

    one : (min e.alignment (least_alignment es) ≡ full_alignment) ⊎ ((i : ℕ) × (i < length (e ∷ es)) × (min e.alignment (least_alignment es) ≡ (nth (e ∷ es) i).alignment))
    one = ⊎_elim
        (λ l. inr (0, omega arith, omega arith))
        (λ l. ⊎_elim (λ w. inl (omega arith)) (λ w. inr (suc w.0, omega arith, omega arith)) r.one)
        (cases_lt e.alignment (least_alignment es))

pub alignment_is_least : AlignmentIsLeast
alignment_is_least [] = record { least = λ i l. absurd (omega arith); one = inl refl }
alignment_is_least (e ∷ es) = least-cons e es (alignment_is_least es)
