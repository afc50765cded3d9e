-- What the test of a proper shape says, form by form: that its numbers are as the form asks, and that what is below is proper.
use Rattle.std.proofs.Common.{◌≡◌, refl, ◌∙◌, ap, subst, ℕ, zero, suc, ◌+◌, ◌-◌, ◌/◌, ◌<◌, ◌&&◌, Bool, true, List, length, arith}
use Rattle.std.proofs.lemmas.Bool.{and_from}
use Rattle.std.proofs.lemmas.Bool.Decides.{nat_tests}
use Rattle.size_round.specs.Sizes.{RoundingKind, is_power_of_two, is_proper_kind}
use Rattle.size_round.proofs.PowerLaws.{powers_pass}
use Rattle.layer_rules.specs.Members.{nth}
use Rattle.layer_laws.proofs.Basics.{and-fst, and-snd}
use Rattle.layer_laws.specs.Chooses.{EachMember}
use Rattle.region_rules.specs.RegionMeanings.{IsRegionSize}
use Rattle.bitmap_rules.specs.BitmapMeanings.{IsBitmapSize}
use Rattle.kr_rules.specs.KrMeanings.{IsKrSize}
use Rattle.free_list_rules.specs.FreeListMeanings.{IsCacheSize}
use Rattle.size_dispatch_rules.specs.SegregateRules.{are_thresholds, member_for}
use Rattle.size_dispatch_rules.specs.SegregateMeanings.{AreThresholds}
use Rattle.size_dispatch_rules.proofs.SegregateLawful.{has_member_for, thresholds_are_ascending}
use Rattle.size_dispatch_rules.proofs.BucketsLawful.{has_bucket_for}
use Rattle.size_dispatch_rules.specs.BucketsMeanings.{AreBuckets}
use Rattle.shapes.specs.Proper.{all_own, is_proper, are_proper}
use Rattle.shapes.specs.RulesOf.{rules_of, rules_of_each}
use Rattle.shapes.specs.Shape.{Shape, region, bitmap, kr, freelist, quantize, stats, affix, segregate, buckets, fallback, list, Shapes, no_members, member, member_count, nth_member}
use Rattle.shapes.specs.ShapeMeanings.{EachShape, RulesOfMembers, ProperMembers, OwningMembers, ProperHasMember, ProperHasBucket}

-- ---- over one parent

pub region-parts : (size align : ℕ) (e : Shape) → is_proper (region size align e) ≡ true → IsRegionSize size align (rules_of e) × (is_proper e ≡ true)
unfolding is_proper
region-parts size align e h =
    let power : is_power_of_two align ≡ true = grind (arith, nat_tests) in
    (record { some = grind (arith, nat_tests); most = grind (arith, nat_tests); power = (powers_pass align).0 power; align_most = grind (arith, nat_tests); align_below = grind (arith, nat_tests) }, grind (arith, nat_tests))

pub bitmap-parts : (unit count : ℕ) (e : Shape) → is_proper (bitmap unit count e) ≡ true → IsBitmapSize unit count (rules_of e) × (is_proper e ≡ true)
unfolding is_proper
bitmap-parts unit count e h =
    (record { unit_least = grind (arith, nat_tests); unit_most = grind (arith, nat_tests); whole = grind (arith, nat_tests); count_least = grind (arith, nat_tests); count_most = grind (arith, nat_tests); aligned = grind (arith, nat_tests) }, grind (arith, nat_tests))

pub kr-parts : (size : ℕ) (e : Shape) → is_proper (kr size e) ≡ true → IsKrSize size (rules_of e) × (is_proper e ≡ true)
unfolding is_proper
kr-parts size e h = (record { least = grind (arith, nat_tests); most = grind (arith, nat_tests); aligned = grind (arith, nat_tests) }, grind (arith, nat_tests))

pub freelist-parts : (least greatest : ℕ) (e : Shape) → is_proper (freelist least greatest e) ≡ true → IsCacheSize least greatest × (is_proper e ≡ true)
unfolding is_proper
freelist-parts least greatest e h = (record { word = grind (arith, nat_tests); most = grind (arith, nat_tests); ordered = grind (arith, nat_tests) }, grind (arith, nat_tests))

pub quantize-parts : (kind : RoundingKind) (e : Shape) → is_proper (quantize kind e) ≡ true → (is_proper_kind kind ≡ true) × (is_proper e ≡ true)
unfolding is_proper
quantize-parts kind e h = (and-fst _ _ h, and-snd _ _ h)

pub stats-parts : (e : Shape) → is_proper (stats e) ≡ true → is_proper e ≡ true
unfolding is_proper
stats-parts e h = h

pub affix-parts : (prefix suffix : ℕ) (e : Shape) → is_proper (affix prefix suffix e) ≡ true → is_proper e ≡ true
unfolding is_proper
affix-parts prefix suffix e h = grind (arith, nat_tests)

-- ---- over members

member-rules : (e : Shape) (es : Shapes) → ((i : ℕ) → nth (rules_of_each es) i ≡ rules_of (nth_member es i)) → (i : ℕ) → nth (rules_of_each (member e es)) i ≡ rules_of (nth_member (member e es) i)
unfolding rules_of
member-rules e es h zero = refl
member-rules e es h (suc i) = h i

pub rules_of_members : RulesOfMembers
unfolding rules_of
rules_of_members no_members = record { count = refl; each = λ i. refl }
rules_of_members (member e es) = let r = rules_of_members es in record { count = ap suc r.count; each = member-rules e es r.each }

pub segregate-parts : (ts : List ℕ) (es : Shapes) → is_proper (segregate ts es) ≡ true → AreThresholds ts (rules_of_each es) × (are_proper es ≡ true)
unfolding is_proper
segregate-parts ts es h =
    let order : are_thresholds 0 ts ≡ true = grind (arith, nat_tests) in
    let count : member_count es ≡ length ts + 1 = grind (arith, nat_tests) in
    (record { some = grind (arith, nat_tests); count = (rules_of_members es).count ∙ count; in_order = (thresholds_are_ascending 0 ts).0 order }, grind (arith, nat_tests))

pub buckets-parts : (least greatest step : ℕ) (es : Shapes) → is_proper (buckets least greatest step es) ≡ true → AreBuckets least greatest step (rules_of_each es) × (are_proper es ≡ true)
unfolding is_proper
buckets-parts least greatest step es h =
    let count : member_count es ≡ (greatest + 1 - least) / step = grind (arith, nat_tests) in
    (record { some = grind (arith, nat_tests); ordered = grind (arith, nat_tests); most = grind (arith, nat_tests); stepped = grind (arith, nat_tests); whole = grind (arith, nat_tests); count = (rules_of_members es).count ∙ count }, grind (arith, nat_tests))

pub fallback-parts : (p f : Shape) → is_proper (fallback p f) ≡ true → (is_proper p ≡ true) × (is_proper f ≡ true)
unfolding is_proper
fallback-parts p f h = let k = and-snd (rules_of p).offers.owns _ h in (and-fst _ _ k, and-snd _ _ k)

-- the primary of a proper fallback offers owns
pub fallback-owns : (p f : Shape) → is_proper (fallback p f) ≡ true → (rules_of p).offers.owns ≡ true
unfolding is_proper
fallback-owns p f h = and-fst (rules_of p).offers.owns _ h

pub list-parts : (es : Shapes) → is_proper (list es) ≡ true → are_proper es ≡ true
unfolding is_proper
list-parts es h = grind (arith, nat_tests)

-- each member of a proper list offers owns
each-owns : (es : Shapes) → all_own es ≡ true → EachMember (λ e. e.offers.owns ≡ true) (rules_of_each es)
unfolding rules_of
each-owns no_members h i l = absurd (omega arith)
each-owns (member e es) h zero l = and-fst (rules_of e).offers.owns (all_own es) h
each-owns (member e es) h (suc i) l = each-owns es (and-snd (rules_of e).offers.owns (all_own es) h) i (omega arith)

pub list-owns : (es : Shapes) → is_proper (list es) ≡ true → EachMember (λ e. e.offers.owns ≡ true) (rules_of_each es)
unfolding is_proper
list-owns es h = let own : all_own es ≡ true = grind (arith, nat_tests) in each-owns es own

pub member-parts : (e : Shape) (es : Shapes) → are_proper (member e es) ≡ true → (is_proper e ≡ true) × (are_proper es ≡ true)
unfolding is_proper
member-parts e es h = (and-fst _ _ h, and-snd _ _ h)

-- a test of the first member and of those behind it is one of each
test-each : (P : Shape → Bool) (e : Shape) (es : Shapes) (rest : Bool) → (rest ≡ true → EachShape (λ f. P f ≡ true) es) → (P e && rest) ≡ true → EachShape (λ f. P f ≡ true) (member e es)
test-each P e es rest h t zero l = and-fst (P e) rest t
test-each P e es rest h t (suc i) l = h (and-snd (P e) rest t) i (omega arith)

each-test : (P : Shape → Bool) (e : Shape) (es : Shapes) (rest : Bool) → (EachShape (λ f. P f ≡ true) es → rest ≡ true) → EachShape (λ f. P f ≡ true) (member e es) → (P e && rest) ≡ true
each-test P e es rest h t = and_from (P e) rest (t 0 (omega arith)) (h (λ i l. t (suc i) (omega arith)))

-- members are proper where each is, and all own where each offers owns
pub proper_members : ProperMembers
unfolding is_proper
proper_members no_members = (λ h i l. absurd (omega arith), λ h. refl)
proper_members (member e es) = let r = proper_members es in (test-each is_proper e es (are_proper es) r.0, each-test is_proper e es (are_proper es) r.1)

pub owning_members : OwningMembers
owning_members no_members = (λ h i l. absurd (omega arith), λ h. refl)
owning_members (member e es) =
    let r = owning_members es in
    let owns = λ (f : Shape). (rules_of f).offers.owns in
    (test-each owns e es (all_own es) r.0, each-test owns e es (all_own es) r.1)

-- ---- the member for a length

pub proper_has_member : ProperHasMember
proper_has_member ts es n h = subst (λ k. member_for ts n < k) (rules_of_members es).count (has_member_for ts (rules_of_each es) n (segregate-parts ts es h).0)

pub proper_has_bucket : ProperHasBucket
proper_has_bucket least greatest step es n h r = has_bucket_for least greatest step (rules_of_each es) n (buckets-parts least greatest step es h).0 r
