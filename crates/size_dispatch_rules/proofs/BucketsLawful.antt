-- Buckets: the bucket for a length, a block that is out, and the laws.
use Rattle.size_round.specs.Sizes.{is_between}
use Rattle.std.proofs.Common.{◌≡◌, refl, ap, sym, ◌∙◌, ℕ, suc, ◌+◌, ◌-◌, ◌*◌, ◌/◌, ◌<◌, ◌≤◌, Bool, true, false, cond, List, length, arith}
use Rattle.std.proofs.Math.Nat.{mul-le-mul_right, lt_of_mul-lt-mul_right}
use Rattle.std.proofs.lemmas.Nat.{div-add-mod', mod_below}
use Rattle.std.proofs.lemmas.Bool.Decides.{nat_tests}
use Rattle.layer_rules.specs.declared.Block.{Block}
use Rattle.layer_rules.specs.Blocks.{end_of, lies_in}
use Rattle.layer_rules.specs.Rules.{Rules}
use Rattle.layer_rules.specs.Choosing.{choosing_rules}
use Rattle.layer_laws.specs.Chooses.{Chooses, EachMember}
use Rattle.layer_laws.proofs.ChoosingParts.{out-chosen, chosen-out}
use Rattle.layer_laws.proofs.ChoosingPlacing.{choosing-lawful}
use Rattle.layer_laws.proofs.ChoosingRegular.{choosing-regular, choosing-unranged}
use Rattle.layer_laws.specs.Lawful.{most_nodes, most_layers, UnrangedLaws, IsMade}
use Rattle.layer_laws.proofs.MembersLawful.{own-tags, each-lawful}
use Rattle.layer_laws.proofs.GoodSizes.{served-enough, unserved-above}
use Rattle.size_dispatch_rules.specs.BucketsRules.{bucket_for, bucket_size, bucketed, bucket_down, buckets_choice, buckets_rules}
use Rattle.size_dispatch_rules.specs.BucketsMeanings.{AreBuckets, BucketHasItsLengths, HasBucketFor, BucketsHandAllDown, OutOfBuckets, BucketsAreRegular, BucketsAreLawful}

-- ---- the bucket for a length

-- a quotient is the number of the step in which a number lies
quotient_between : (x step : ℕ) → 1 ≤ step → (x / step * step ≤ x) × (x < x / step * step + step)
quotient_between x step h = (omega (arith, div-add-mod' x step), omega (arith, div-add-mod' x step, mod_below x step (omega arith)))

one_quotient : (x q step : ℕ) → 1 ≤ step → q * step ≤ x → x < q * step + step → x / step ≡ q
one_quotient x q step h l m =
    let b = quotient_between x step h in
    let next : suc q * step ≡ q * step + step = grind arith in
    let after : suc (x / step) * step ≡ x / step * step + step = grind arith in
    let low : q < suc (x / step) = lt_of_mul-lt-mul_right step (omega arith) in
    let high : x / step < suc q = lt_of_mul-lt-mul_right step (omega arith) in
    omega arith

bucket_size_is : (least step n : ℕ) → bucket_size least step n ≡ least + (bucket_for least step n * step + step) - 1
bucket_size_is least step n = let e : step * (bucket_for least step n + 1) ≡ bucket_for least step n * step + step = grind arith in ap (λ x. least + x - 1) e

bucket_enough : (least step n : ℕ) → 1 ≤ least → 1 ≤ step → least ≤ n → n ≤ bucket_size least step n
bucket_enough least step n h k l = let b = quotient_between (n - least) step k in let e = bucket_size_is least step n in omega arith

pub bucket_has_its_lengths : BucketHasItsLengths
bucket_has_its_lengths least step n h k from =
    let e = bucket_size_is least step n in
    record {
      enough = bucket_enough least step n h k from;
      lengths = λ m l. (
        λ same. let b = quotient_between (m - least) step k in let s = ap (λ x. x * step) same in (omega arith, omega arith),
        λ w. one_quotient (m - least) (bucket_for least step n) step k (omega (arith, w.0)) (omega (arith, w.1)),
      );
    }

pub has_bucket_for : HasBucketFor
has_bucket_for least greatest step es n p r =
    let from : least ≤ n = grind (arith, nat_tests) in
    let to : n ≤ greatest = grind (arith, nat_tests) in
    let some = p.some in
    let b = quotient_between (n - least) step p.stepped in
    let whole : greatest + 1 - least ≡ length es * step = omega (arith, div-add-mod' (greatest + 1 - least) step, p.whole, ap (λ x. x * step) p.count) in
    let there : bucket_for least step n < length es = lt_of_mul-lt-mul_right step (omega arith) in
    let next : suc (bucket_for least step n) * step ≡ bucket_for least step n * step + step = grind arith in
    let top : suc (bucket_for least step n) * step ≤ length es * step = mul-le-mul_right step there in
    let e = bucket_size_is least step n in
    record { there = there; most = omega arith }

-- ---- what is asked of the bucket's member

-- of a length in range it is the bucket's size
pub bucketed-size : (least greatest step n : ℕ) → is_between least greatest n ≡ true → bucketed least greatest step n ≡ bucket_size least step n
bucketed-size least greatest step n f = go (is_between least greatest n) f
  where
    go : (q : Bool) → q ≡ true → cond q (bucket_size least step n) n ≡ bucket_size least step n
    go true e = refl
    go false e = absurd (cc)

-- two lengths of one bucket are asked as one
pub bucketed-same : (least greatest step m n : ℕ) → is_between least greatest m ≡ true → is_between least greatest n ≡ true → bucket_for least step m ≡ bucket_for least step n
    → bucketed least greatest step m ≡ bucketed least greatest step n
bucketed-same least greatest step m n f g q = bucketed-size least greatest step m f ∙ ap (λ k. least + step * (k + 1) - 1) q ∙ sym (bucketed-size least greatest step n g)

pub bucketed_enough : (least greatest step n : ℕ) → 1 ≤ least → 1 ≤ step → n ≤ bucketed least greatest step n
bucketed_enough least greatest step n h k = go (is_between least greatest n) refl
  where
    go : (b : Bool) → is_between least greatest n ≡ b → n ≤ cond b (bucket_size least step n) n
    go true e = bucket_enough least step n h k (grind (arith, nat_tests))
    go false e = omega arith

wider : (b c : Block) → c.place ≡ b.place → b.len ≤ c.len → lies_in b c ≡ true
wider b c q l = let p : c.place ≤ b.place = omega arith in let e : end_of b ≤ end_of c = omega arith in grind (arith, nat_tests)

pub buckets_hand_all_down : BucketsHandAllDown
buckets_hand_all_down least greatest step b h k = wider b (bucket_down least greatest step b) refl (bucketed_enough least greatest step b.len h k)

-- ---- a block that is out

pub out_of_buckets : OutOfBuckets
unfolding buckets_rules
out_of_buckets least greatest step es b s cells = (
  λ o. let x = out-chosen (buckets_choice least greatest step) es b s cells o in record { is_set = x.is_set; some = x.some; ranged = x.fits; below = x.below },
  λ o. chosen-out (buckets_choice least greatest step) es b s cells (record { is_set = o.is_set; some = o.some; fits = o.ranged; below = o.below }),
)

-- ---- the laws

pub buckets-chooses : (least greatest step : ℕ) (es : List Rules) → AreBuckets least greatest step es → Chooses (buckets_choice least greatest step) es
buckets-chooses least greatest step es p =
    let enough = λ (n : ℕ). bucketed_enough least greatest step n p.some p.stepped in
    record {
      there = λ n f. (has_bucket_for least greatest step es n p f).there;
      enough = λ n f. enough n;
      shown = λ n b q. refl;
      in_order = λ m n f g q l. let e = bucketed-same least greatest step m n f g q in omega arith;
      good = λ n. served-enough (bucketed least greatest step) n (enough n);
      of_nothing = refl;
      above_limit = λ n l. unserved-above (bucketed least greatest step) n l;
    }

-- whatever their range and step
pub buckets-unranged : (least greatest step : ℕ) (es : List Rules) → EachMember UnrangedLaws es → UnrangedLaws (buckets_rules least greatest step es)
unfolding buckets_rules
buckets-unranged least greatest step es r = choosing-unranged (buckets_choice least greatest step) es r

pub buckets_are_regular : BucketsAreRegular
unfolding buckets_rules
buckets_are_regular least greatest step es p r = choosing-regular (buckets_choice least greatest step) es (buckets-chooses least greatest step es p) r

pub buckets_are_lawful : BucketsAreLawful
unfolding buckets_rules
buckets_are_lawful least greatest step es p own r l = choosing-lawful (buckets_choice least greatest step) es (buckets-chooses least greatest step es p) own r l

-- over members that are made they are made, within the bounds of a composition
pub buckets-made : (least greatest step : ℕ) (es : List Rules) → AreBuckets least greatest step es → EachMember IsMade es → (buckets_rules least greatest step es).nodes ≤ most_nodes → (buckets_rules least greatest step es).depth ≤ most_layers
    → IsMade (buckets_rules least greatest step es)
unfolding buckets_rules choosing_rules
buckets-made least greatest step es p m few shallow =
    let regular = λ (i : ℕ) (l : i < length es). (m i l).regular in
    record {
      few = few;
      shallow = shallow;
      regular = buckets_are_regular least greatest step es p regular;
      lawful = λ d s. let own = own-tags (buckets_rules least greatest step es) es refl d s in buckets_are_lawful least greatest step es p own regular (each-lawful es own (λ i l. (m i l).lawful));
    }
