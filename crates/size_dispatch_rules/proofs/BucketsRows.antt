-- The rows of buckets as they are where a length has its bucket, and all lengths of one bucket are asked as one.
use Rattle.size_round.specs.Sizes.{is_between}
use Rattle.std.proofs.Common.{◌≡◌, refl, sym, ap, ℕ, ◌+◌, ◌-◌, Bool, true, false, ◌&&◌, ◌||◌, not, arith, List, nat_eq}
use Rattle.std.proofs.lemmas.Bool.Decides.{nat_tests}
use Rattle.space_core.specs.Cells.{Cells}
use Rattle.layer_rules.specs.declared.Block.{Block}
use Rattle.layer_rules.specs.After.{Serve, refuse, Change, say, change_child, Reallocate, stay}
use Rattle.layer_rules.specs.Allocating.{asked_for, serve_member, truncated, over_limit_or}
use Rattle.layer_rules.specs.Expanding.{asked_to_expand, change_if}
use Rattle.layer_rules.specs.Reallocating.{in_place, asked_to_reallocate, either_reallocate, general_reallocate}
use Rattle.layer_rules.specs.Setting.{open_group}
use Rattle.layer_rules.specs.State.{State, nothing, child}
use Rattle.layer_rules.specs.Rules.{Rules}
use Rattle.layer_rules.specs.Members.{nth, open_each}
use Rattle.layer_rules.specs.Choosing.{choose_serve, choose_growth, choose_within, choosing_rules}
use Rattle.layer_laws.proofs.Basics.{and-fst, and-snd}
use Rattle.size_dispatch_rules.proofs.SameRows.{asked-same, asked-expand-same, asked-reallocate-same, either-same}
use Rattle.size_dispatch_rules.specs.BucketsRules.{bucket_for, bucket_size, bucketed, bucket_down, bucket_need, buckets_choice, buckets_rules}
use Rattle.size_dispatch_rules.proofs.BucketsLawful.{bucketed-size, bucketed-same}

-- ---- a request

-- the bucket's member, for a length in range
abbrev pub bucket_serve : (fits : Bool) (n i : ℕ) → Serve → Serve
bucket_serve true n i serve s cells = serve_member (truncated n) i serve s cells
bucket_serve false n i serve s cells = refuse s cells

serve-same : (q : Bool) (n i m k : ℕ) (serve : ℕ → Serve) (s : State) (cells : Cells) → (q ≡ true → m ≡ k) → choose_serve q (truncated n) i (serve m) s cells ≡ bucket_serve q n i (serve k) s cells
serve-same true n i m k serve s cells h = ap (λ m. serve_member (truncated n) i (serve m) s cells) (h refl)
serve-same false n i m k serve s cells h = refl

pub buckets-allocate : (least greatest step : ℕ) (es : List Rules) (n : ℕ) (s : State) (cells : Cells) → (buckets_rules least greatest step es).allocate n s cells
    ≡ asked_for n (bucket_serve (is_between least greatest n) n (bucket_for least step n) ((nth es (bucket_for least step n)).allocate (bucket_size least step n))) s cells
unfolding buckets_rules choosing_rules
buckets-allocate least greatest step es n s cells =
    let i = bucket_for least step n in
    asked-same n _ (bucket_serve (is_between least greatest n) n i ((nth es i).allocate (bucket_size least step n))) s cells
    (serve-same (is_between least greatest n) n i (bucketed least greatest step n) (bucket_size least step n) (nth es i).allocate s cells (bucketed-size least greatest step n))

pub buckets-align : (least greatest step : ℕ) (es : List Rules) (n a : ℕ) (s : State) (cells : Cells) → (buckets_rules least greatest step es).aligned_allocate n a s cells
    ≡ asked_for n (bucket_serve (is_between least greatest n) n (bucket_for least step n) ((nth es (bucket_for least step n)).aligned_allocate (bucket_size least step n) a)) s cells
unfolding buckets_rules choosing_rules
buckets-align least greatest step es n a s cells =
    let i = bucket_for least step n in
    asked-same n _ (bucket_serve (is_between least greatest n) n i ((nth es i).aligned_allocate (bucket_size least step n) a)) s cells
    (serve-same (is_between least greatest n) n i (bucketed least greatest step n) (bucket_size least step n) (λ m. (nth es i).aligned_allocate m a) s cells (bucketed-size least greatest step n))

refused-same : (q : Bool) (f : ℕ → Bool) (m k : ℕ) → (q ≡ true → m ≡ k) → (not q || f m) ≡ (not q || f k)
refused-same true f m k h = ap f (h refl)
refused-same false f m k h = refl

pub buckets-refuse : (least greatest step : ℕ) (es : List Rules) (n : ℕ) (s : State) (cells : Cells) → (buckets_rules least greatest step es).refuses n s cells
    ≡ over_limit_or n (not (is_between least greatest n) || (nth es (bucket_for least step n)).refuses (bucket_size least step n) (child s (bucket_for least step n)) cells)
unfolding buckets_rules choosing_rules
buckets-refuse least greatest step es n s cells =
    let i = bucket_for least step n in
    ap (over_limit_or n) (refused-same (is_between least greatest n) (λ m. (nth es i).refuses m (child s i) cells) (bucketed least greatest step n) (bucket_size least step n) (bucketed-size least greatest step n))

pub buckets-refuse_aligned : (least greatest step : ℕ) (es : List Rules) (n a : ℕ) (s : State) (cells : Cells) → (buckets_rules least greatest step es).refuses_aligned n a s cells
    ≡ over_limit_or n (not (is_between least greatest n) || (nth es (bucket_for least step n)).refuses_aligned (bucket_size least step n) a (child s (bucket_for least step n)) cells)
unfolding buckets_rules choosing_rules
buckets-refuse_aligned least greatest step es n a s cells =
    let i = bucket_for least step n in
    ap (over_limit_or n) (refused-same (is_between least greatest n) (λ m. (nth es i).refuses_aligned m a (child s i) cells) (bucketed least greatest step n) (bucket_size least step n) (bucketed-size least greatest step n))

pub buckets-set_up : (least greatest step : ℕ) (es : List Rules) (need : ℕ) (cells : Cells) → (buckets_rules least greatest step es).set_up need cells ≡ open_group nothing (open_each es (bucket_need least greatest step need) 0 1 cells)
unfolding buckets_rules choosing_rules
buckets-set_up least greatest step es need cells = refl

pub buckets-deallocate : (least greatest step : ℕ) (es : List Rules) (b : Block) → (buckets_rules least greatest step es).deallocate b
    ≡ change_child (bucket_for least step b.len) (nth es (bucket_for least step b.len)).deallocate (bucket_down least greatest step b)
unfolding buckets_rules choosing_rules
buckets-deallocate least greatest step es b = refl

-- ---- two lengths of one bucket

abbrev pub are_in_bucket : (least greatest step m n : ℕ) → Bool
are_in_bucket least greatest step m n = is_between least greatest m && (is_between least greatest n && nat_eq (bucket_for least step m) (bucket_for least step n))

-- they are asked as one
in-bucket : (least greatest step m n : ℕ) → are_in_bucket least greatest step m n ≡ true → bucketed least greatest step m ≡ bucketed least greatest step n
in-bucket least greatest step m n q =
    let r = and-snd (is_between least greatest m) (is_between least greatest n && nat_eq (bucket_for least step m) (bucket_for least step n)) q in
    let z = and-snd (is_between least greatest n) (nat_eq (bucket_for least step m) (bucket_for least step n)) r in
    bucketed-same least greatest step m n (and-fst (is_between least greatest m) (is_between least greatest n && nat_eq (bucket_for least step m) (bucket_for least step n)) q)
    (and-fst (is_between least greatest n) (nat_eq (bucket_for least step m) (bucket_for least step n)) r) (grind (arith, nat_tests))

same-test : (m n : ℕ) → m ≡ n → nat_eq m n ≡ true
same-test m n q = grind (arith, nat_tests)

-- a block grows in its bucket alone, and needs no call for that
grown-same : (q x : Bool) (i : ℕ) (c : Change) (b d : Block) (s : State) (cells : Cells) → (q ≡ true → x ≡ true) → change_if q (choose_growth x i c) b s cells ≡ say q d s cells
grown-same true x i c b d s cells h = ap (λ x. choose_growth x i c b s cells) (h refl)
grown-same false x i c b d s cells h = refl

pub buckets-expand : (least greatest step : ℕ) (es : List Rules) (delta : ℕ) (b : Block) (s : State) (cells : Cells) → (buckets_rules least greatest step es).expand delta b s cells
    ≡ asked_to_expand delta (λ c. say (are_in_bucket least greatest step c.len (c.len + delta)) c) b s cells
unfolding buckets_rules choosing_rules
buckets-expand least greatest step es delta b s cells =
    asked-expand-same delta _ (λ c. say (are_in_bucket least greatest step c.len (c.len + delta)) c) b s cells (λ z.
    let less = bucketed least greatest step b.len in
    let more = bucketed least greatest step (b.len + delta) in
    let i = bucket_for least step b.len in
    grown-same (are_in_bucket least greatest step b.len (b.len + delta)) (nat_eq less more) i ((nth es i).expand (more - less)) (bucket_down least greatest step b) b s cells
    (λ q. same-test less more (in-bucket least greatest step b.len (b.len + delta) q)))

-- a length in range: in place in its bucket, and else by the general form
abbrev pub bucket_reallocates : (least greatest step : ℕ) → List Rules → (n : ℕ) → Reallocate
bucket_reallocates least greatest step es n b =
    let f = buckets_rules least greatest step es in
    either_reallocate (is_between least greatest n)
    (either_reallocate (are_in_bucket least greatest step b.len n) (in_place n) (general_reallocate n f.offers f.expand (f.allocate n) f.deallocate))
    stay b

in_place-same : (x : Bool) (c d : Reallocate) (b : Block) (s : State) (cells : Cells) → x ≡ true → either_reallocate x c d b s cells ≡ c b s cells
in_place-same true c d b s cells h = refl
in_place-same false c d b s cells h = absurd (cc)

pub buckets-reallocate : (least greatest step : ℕ) (es : List Rules) (n : ℕ) (b : Block) (s : State) (cells : Cells) → (buckets_rules least greatest step es).reallocate n b s cells
    ≡ asked_to_reallocate n (buckets_rules least greatest step es).deallocate (bucket_reallocates least greatest step es n) b s cells
unfolding buckets_rules choosing_rules
buckets-reallocate least greatest step es n b s cells =
    let f = buckets_rules least greatest step es in
    let less = bucketed least greatest step b.len in
    let more = bucketed least greatest step n in
    let general = general_reallocate n f.offers f.expand (f.allocate n) f.deallocate in
    asked-reallocate-same n f.deallocate _ (bucket_reallocates least greatest step es n) b s cells (λ q.
    either-same (is_between least greatest n) _ (either_reallocate (are_in_bucket least greatest step b.len n) (in_place n) general) stay b s cells (λ z.
    either-same (are_in_bucket least greatest step b.len n) (either_reallocate (nat_eq more less) (in_place n) (choose_within (buckets_choice least greatest step) es n)) (in_place n) general b s cells (λ y.
    in_place-same (nat_eq more less) (in_place n) (choose_within (buckets_choice least greatest step) es n) b s cells (same-test more less (sym (in-bucket least greatest step b.len n y))))))
