-- Segregate: the member for a length, a block that is out, and the laws.
use Rattle.std.proofs.Common.{◌≡◌, refl, ap, ℕ, zero, suc, ◌<◌, ◌≤◌, Bool, true, false, nat_le, nat_lt, ◌&&◌, List, [], ◌∷◌, length, slice_index, arith}
use Rattle.std.proofs.lemmas.Bool.Decides.{nat_tests}
use Rattle.size_round.specs.Sizes.{limit}
use Rattle.layer_rules.specs.Blocks.{with_len}
use Rattle.layer_rules.specs.Rules.{Rules}
use Rattle.layer_rules.specs.Members.{nth}
use Rattle.layer_rules.specs.Choosing.{choosing_rules}
use Rattle.layer_laws.specs.Chooses.{Chooses, EachMember}
use Rattle.layer_laws.proofs.ChoosingParts.{out-chosen, chosen-out}
use Rattle.layer_laws.proofs.ChoosingPlacing.{choosing-lawful}
use Rattle.layer_laws.proofs.ChoosingRegular.{choosing-regular, choosing-unranged}
use Rattle.layer_laws.proofs.GoodSizes.{served-enough, unserved-above}
use Rattle.layer_laws.specs.Lawful.{most_nodes, most_layers, UnrangedLaws, IsRegular, IsMade}
use Rattle.layer_laws.proofs.MembersLawful.{all-regular, own-tags, each-lawful}
use Rattle.size_dispatch_rules.specs.SegregateRules.{are_thresholds, member_for, segregate_choice, segregate_rules}
use Rattle.size_dispatch_rules.specs.SegregateMeanings.{AreAscending, ThresholdsAreAscending, AreThresholds, IsFirstNotBelow, MemberForIsFirst, HasMemberFor, OutOfSegregate, SegregateIsRegular, SegregateIsLawful}

-- ---- thresholds

ascending-first : (before t : ℕ) (ts : List ℕ) → before < t → t ≤ limit → AreAscending t ts → AreAscending before (t ∷ ts)
ascending-first before t ts h l r = record { above = above; most = most; ascending = ordered }
  where
    above : (k : ℕ) → k < length (t ∷ ts) → before < slice_index (t ∷ ts) k
    above zero m = h
    above (suc k) m = let a = r.above k (omega arith) in omega arith

    most : (k : ℕ) → k < length (t ∷ ts) → slice_index (t ∷ ts) k ≤ limit
    most zero m = l
    most (suc k) m = r.most k (omega arith)

    ordered : (j k : ℕ) → j < k → k < length (t ∷ ts) → slice_index (t ∷ ts) j < slice_index (t ∷ ts) k
    ordered j zero m n = absurd (omega arith)
    ordered zero (suc k) m n = r.above k (omega arith)
    ordered (suc j) (suc k) m n = r.ascending j k (omega arith) (omega arith)

ascending-rest : (before t : ℕ) (ts : List ℕ) → AreAscending before (t ∷ ts) → AreAscending t ts
ascending-rest before t ts r = record {
  above = λ k l. r.ascending 0 (suc k) (omega arith) (omega arith);
  most = λ k l. r.most (suc k) (omega arith);
  ascending = λ j k l m. r.ascending (suc j) (suc k) (omega arith) (omega arith);
}

tests_pass : (before t : ℕ) (rest : Bool) → before < t → t ≤ limit → rest ≡ true → (nat_lt before t && (nat_le t limit && rest)) ≡ true
tests_pass before t rest h l e = grind (arith, nat_tests)

thresholds-from : (before : ℕ) (ts : List ℕ) → AreAscending before ts → are_thresholds before ts ≡ true
unfolding are_thresholds
thresholds-from before [] r = refl
thresholds-from before (t ∷ ts) r =
    tests_pass before t (are_thresholds t ts) (r.above 0 (omega arith)) (r.most 0 (omega arith)) (thresholds-from t ts (ascending-rest before t ts r))

ascending : (before : ℕ) (ts : List ℕ) → are_thresholds before ts ≡ true → AreAscending before ts
unfolding are_thresholds
ascending before [] h = record { above = λ k l. absurd (omega arith); most = λ k l. absurd (omega arith); ascending = λ j k l m. absurd (omega arith) }
ascending before (t ∷ ts) h = ascending-first before t ts (grind (arith, nat_tests)) (grind (arith, nat_tests)) (ascending t ts (grind (arith, nat_tests)))

pub thresholds_are_ascending : ThresholdsAreAscending
thresholds_are_ascending before ts = (ascending before ts, thresholds-from before ts)

-- ---- the member for a length

first_not_below : (t : ℕ) (ts : List ℕ) (n i : ℕ) (b : Bool) → nat_le n t ≡ b → IsFirstNotBelow ts n i → IsFirstNotBelow (t ∷ ts) n (elim b as (λ _. ℕ) [ true ↦ 0 | false ↦ suc i ])
first_not_below t ts n i true e r = record { within = omega arith; before = λ k l. absurd (omega arith); reached = λ l. grind (arith, nat_tests) }
first_not_below t ts n i false e r = let w = r.within in record { within = omega arith; before = earlier; reached = λ l. r.reached (omega arith) }
  where
    earlier : (k : ℕ) → k < suc i → slice_index (t ∷ ts) k < n
    earlier zero l = grind (arith, nat_tests)
    earlier (suc k) l = r.before k (omega arith)

pub member_for_is_first : MemberForIsFirst
unfolding member_for
member_for_is_first [] n = record { within = omega arith; before = λ k l. absurd (omega arith); reached = λ l. absurd (omega arith) }
member_for_is_first (t ∷ ts) n = first_not_below t ts n (member_for ts n) (nat_le n t) refl (member_for_is_first ts n)

pub has_member_for : HasMemberFor
has_member_for ts es n p =
    let c = p.count in
    let w = (member_for_is_first ts n).within in
    omega arith

-- ---- a block that is out

pub out_of_segregate : OutOfSegregate
unfolding segregate_rules
out_of_segregate ts es b s cells = (
  λ o. let x = out-chosen (segregate_choice ts es) es b s cells o in record { is_set = x.is_set; some = x.some; below = x.below },
  λ o. chosen-out (segregate_choice ts es) es b s cells (record { is_set = o.is_set; some = o.some; fits = refl; below = o.below }),
)

-- ---- the laws

pub segregate-chooses : (ts : List ℕ) (es : List Rules) → AreThresholds ts es → EachMember IsRegular es → Chooses (segregate_choice ts es) es
segregate-chooses ts es p r = record {
  there = λ n f. has_member_for ts es n p;
  enough = λ n f. omega arith;
  shown = λ n b q. ap (with_len b) q;
  in_order = λ m n f g q l. l;
  good = λ n. served-enough (λ m. (nth es (member_for ts m)).good_alloc_size m) n ((all-regular es r (member_for ts n)).telling.enough n);
  of_nothing = refl;
  above_limit = λ n l. unserved-above (λ m. (nth es (member_for ts m)).good_alloc_size m) n l;
}

-- whatever its thresholds
pub segregate-unranged : (ts : List ℕ) (es : List Rules) → EachMember UnrangedLaws es → UnrangedLaws (segregate_rules ts es)
unfolding segregate_rules
segregate-unranged ts es r = choosing-unranged (segregate_choice ts es) es r

pub segregate_is_regular : SegregateIsRegular
unfolding segregate_rules
segregate_is_regular ts es p r = choosing-regular (segregate_choice ts es) es (segregate-chooses ts es p r) r

pub segregate_is_lawful : SegregateIsLawful
unfolding segregate_rules
segregate_is_lawful ts es p own r l = choosing-lawful (segregate_choice ts es) es (segregate-chooses ts es p r) own r l

-- over members that are made it is made, within the bounds of a composition
pub segregate-made : (ts : List ℕ) (es : List Rules) → AreThresholds ts es → EachMember IsMade es → (segregate_rules ts es).nodes ≤ most_nodes → (segregate_rules ts es).depth ≤ most_layers → IsMade (segregate_rules ts es)
unfolding segregate_rules choosing_rules
segregate-made ts es p m few shallow =
    let regular = λ (i : ℕ) (l : i < length es). (m i l).regular in
    record {
      few = few;
      shallow = shallow;
      regular = segregate_is_regular ts es p regular;
      lawful = λ d s. let own = own-tags (segregate_rules ts es) es refl d s in segregate_is_lawful ts es p own regular (each-lawful es own (λ i l. (m i l).lawful));
    }
