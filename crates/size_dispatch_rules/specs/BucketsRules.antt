-- Buckets: a range of lengths, divided in equal steps; each request goes to the member for its step, as one of the step's greatest length.
use Rattle.size_round.specs.Sizes.{is_between}
use Rattle.std.specs.Prelude.{ℕ, ◌+◌, ◌-◌, ◌*◌, ◌/◌, List, cond}
use Rattle.layer_rules.specs.declared.Block.{Block}
use Rattle.layer_rules.specs.Blocks.{with_len}
use Rattle.layer_rules.specs.Allocating.{truncated}
use Rattle.layer_rules.specs.Offering.{if_served}
use Rattle.layer_rules.specs.Setting.{need_at}
use Rattle.layer_rules.specs.Rules.{Rules}
use Rattle.layer_rules.specs.Choosing.{Choosing, choosing_rules}

-- the number and the greatest length of the bucket of a length in range
abbrev pub bucket_for : (least step : ℕ) → ℕ → ℕ
bucket_for least step n = (n - least) / step

abbrev pub bucket_size : (least step : ℕ) → ℕ → ℕ
bucket_size least step n = least + step * (bucket_for least step n + 1) - 1

-- the length that a bucket's member serves for n, and n itself outside; and the block as that member sees it
abbrev pub bucketed : (least greatest step : ℕ) → ℕ → ℕ
bucketed least greatest step n = cond (is_between least greatest n) (bucket_size least step n) n

abbrev pub bucket_down : (least greatest step : ℕ) → Block → Block
bucket_down least greatest step b = with_len b (bucketed least greatest step b.len)

-- the need of the member i: a need in range is that of its bucket
abbrev pub bucket_need : (least greatest step need i : ℕ) → ℕ
bucket_need least greatest step need i = cond (is_between least greatest need) (need_at (bucket_for least step need) (bucket_size least step need) i) 0

-- a length in range has a member, is asked of it as the bucket's greatest length, and is shown as it was asked
abbrev pub buckets_choice : (least greatest step : ℕ) → Choosing
buckets_choice least greatest step = record {
  fits = is_between least greatest;
  chosen = bucket_for least step;
  asked = bucketed least greatest step;
  shown = truncated;
  need = bucket_need least greatest step;
  good_alloc_size = if_served (bucketed least greatest step);
}

unfoldable pub buckets_rules : (least greatest step : ℕ) → List Rules → Rules
buckets_rules least greatest step es = choosing_rules (buckets_choice least greatest step) es
