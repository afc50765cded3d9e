-- BucketsMeanings: what is asked of the numbers of buckets, which bucket a length has, what a block that is out is, and the laws.
use Rattle.std.specs.Prelude.{◌≡◌, ℕ, ◌+◌, ◌-◌, ◌/◌, ◌%◌, ◌<◌, ◌≤◌, ◌↔◌, true, List, length}
use Rattle.size_round.specs.Sizes.{is_between, size_bound}
use Rattle.space_core.specs.Cells.{Cells}
use Rattle.layer_rules.specs.declared.Block.{Block}
use Rattle.layer_rules.specs.Blocks.{lies_in}
use Rattle.layer_rules.specs.State.{State, is_open, child}
use Rattle.layer_rules.specs.Rules.{Rules}
use Rattle.layer_rules.specs.Members.{nth}
use Rattle.layer_laws.specs.Chooses.{EachMember, HaveOwnTags}
use Rattle.layer_laws.specs.Lawful.{IsRegular, IsLawful}
use Rattle.size_dispatch_rules.specs.BucketsRules.{bucket_for, bucket_size, bucket_down, buckets_rules}

-- ---- the numbers

-- a range of whole steps, and one member for each
pub record AreBuckets (least greatest step : ℕ) (es : List Rules) : Type 0 where
  pub some : 1 ≤ least
  pub ordered : least ≤ greatest
  pub most : greatest ≤ size_bound
  pub stepped : 1 ≤ step
  pub whole : (greatest + 1 - least) % step ≡ 0
  pub count : length es ≡ (greatest + 1 - least) / step

-- ---- the bucket for a length

-- n's bucket has a size that is enough, and takes the lengths from step - 1 below that size to the size itself, and no others
pub record IsBucketOf (least step n : ℕ) : Type 0 where
  pub enough : n ≤ bucket_size least step n
  pub lengths : (m : ℕ) → least ≤ m → (bucket_for least step m ≡ bucket_for least step n) ↔ ((bucket_size least step n - step + 1 ≤ m) × (m ≤ bucket_size least step n))

abbrev pub BucketHasItsLengths : Type 0
BucketHasItsLengths = (least step n : ℕ) → 1 ≤ least → 1 ≤ step → least ≤ n → IsBucketOf least step n

-- there is one for each length in range, and none has more than the greatest
pub record HasBucket (least greatest step : ℕ) (es : List Rules) (n : ℕ) : Type 0 where
  pub there : bucket_for least step n < length es
  pub most : bucket_size least step n ≤ greatest

abbrev pub HasBucketFor : Type 0
HasBucketFor = (least greatest step : ℕ) (es : List Rules) (n : ℕ) → AreBuckets least greatest step es → is_between least greatest n ≡ true → HasBucket least greatest step es n

-- the block that is handed down has every byte of the block
abbrev pub BucketsHandAllDown : Type 0
BucketsHandAllDown = (least greatest step : ℕ) (b : Block) → 1 ≤ least → 1 ≤ step → lies_in b (bucket_down least greatest step b) ≡ true

-- ---- a block that is out

-- a length in range, out of its bucket's member
pub record IsOutBucket (least greatest step : ℕ) (es : List Rules) (b : Block) (s : State) (cells : Cells) : Type 0 where
  pub is_set : is_open s ≡ true
  pub some : 1 ≤ b.len
  pub ranged : is_between least greatest b.len ≡ true
  pub below : (nth es (bucket_for least step b.len)).is_out (bucket_down least greatest step b) (child s (bucket_for least step b.len)) cells ≡ true

-- a block is out exactly where these facts hold of it
abbrev pub OutOfBuckets : Type 0
OutOfBuckets =
    (least greatest step : ℕ) (es : List Rules) (b : Block) (s : State) (cells : Cells) → ((buckets_rules least greatest step es).is_out b s cells ≡ true) ↔ IsOutBucket least greatest step es b s cells

-- ---- the laws

-- over regular members they are regular
abbrev pub BucketsAreRegular : Type 0
BucketsAreRegular = (least greatest step : ℕ) (es : List Rules) → AreBuckets least greatest step es → EachMember IsRegular es → IsRegular (buckets_rules least greatest step es)

-- over members that are lawful too, with tags of their own, they are lawful
abbrev pub BucketsAreLawful : Type 0
BucketsAreLawful =
    (least greatest step : ℕ) (es : List Rules) → AreBuckets least greatest step es → HaveOwnTags es → EachMember IsRegular es → EachMember IsLawful es → IsLawful (buckets_rules least greatest step es)
