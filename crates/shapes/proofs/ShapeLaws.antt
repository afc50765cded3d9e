-- Shapes' laws: those that the rules of every shape have; the rules of a proper shape are regular, and lawful where each leaf has a tag of its own.
use Rattle.std.proofs.Common.{◌≡◌, refl, sym, subst, ℕ, zero, suc, ◌≢◌, ◌≤◌, inl, true, arith, List}
use Rattle.std.proofs.lemmas.Bool.Decides.{nat_tests}
use Rattle.size_round.specs.Sizes.{RoundingKind}
use Rattle.layer_rules.specs.Choosing.{choosing_rules}
use Rattle.layer_rules.specs.Handing.{handing_rules}
use Rattle.layer_rules.specs.Members.{tags_of}
use Rattle.layer_rules.specs.Rows.{EachPair}
use Rattle.layer_rules.specs.Rules.{Rules, IsIn, HasDistinctTags, HasSomeTags}
use Rattle.layer_laws.proofs.Basics.{and-fst}
use Rattle.layer_laws.specs.Chooses.{EachMember, HaveOwnTags}
use Rattle.layer_laws.specs.Lawful.{UnrangedLaws, IsRegular, IsLawful, most_nodes, most_layers}
use Rattle.layer_laws.proofs.MembersLawful.{each-lawful}
use Rattle.layer_laws.proofs.NullLawful.{null-regular, null-unranged, null-lawful}
use Rattle.leaf_rules.specs.MemRules.{mem_rules}
use Rattle.leaf_rules.proofs.MemRegular.{mem_is_regular, mem-unranged}
use Rattle.leaf_rules.proofs.MemLawful.{mem_is_lawful}
use Rattle.region_rules.specs.RegionRules.{region_rules}
use Rattle.region_rules.proofs.RegionRegular.{region_is_regular, region-unranged}
use Rattle.region_rules.proofs.RegionLawful.{region_is_lawful}
use Rattle.bitmap_rules.specs.BitmapRules.{bitmap_rules}
use Rattle.bitmap_rules.proofs.BitmapRegular.{bitmap_is_regular, bitmap-unranged}
use Rattle.bitmap_rules.proofs.BitmapLawful.{bitmap-lawful}
use Rattle.kr_rules.specs.KrRules.{kr_rules}
use Rattle.kr_rules.proofs.KrRegular.{kr_is_regular, kr-unranged}
use Rattle.kr_rules.proofs.KrLawful.{kr-lawful}
use Rattle.free_list_rules.specs.FreeListRules.{free_list_rules}
use Rattle.free_list_rules.proofs.FreeListRegular.{free_list-regular, free_list-unranged}
use Rattle.free_list_rules.proofs.FreeListLawful.{free_list-lawful}
use Rattle.quantize_rules.specs.QuantizeRules.{quantize_rules}
use Rattle.quantize_rules.proofs.QuantizeLawful.{quantize_is_regular, quantize-unranged, quantize_is_lawful}
use Rattle.stats_rules.specs.StatsRules.{stats_rules}
use Rattle.stats_rules.proofs.StatsLawful.{stats_is_regular, stats-unranged, stats_is_lawful}
use Rattle.affix_rules.specs.AffixRules.{affix_rules}
use Rattle.affix_rules.proofs.AffixLawful.{affix_is_regular, affix-unranged, affix_is_lawful}
use Rattle.size_dispatch_rules.specs.SegregateRules.{segregate_rules}
use Rattle.size_dispatch_rules.proofs.SegregateLawful.{segregate_is_regular, segregate-unranged, segregate_is_lawful}
use Rattle.size_dispatch_rules.specs.BucketsRules.{buckets_rules}
use Rattle.size_dispatch_rules.proofs.BucketsLawful.{buckets_are_regular, buckets-unranged, buckets_are_lawful}
use Rattle.fallback_rules.proofs.FallbackRegular.{fallback-regular, fallback-unranged}
use Rattle.fallback_rules.proofs.FallbackLawful.{tags-first, tags-second, fallback-lawful}
use Rattle.list_rules.proofs.ListRegular.{list-regular, list-unranged}
use Rattle.list_rules.proofs.ListLawful.{list-lawful}
use Rattle.list_rules.specs.ListRules.{list_rules}
use Rattle.shapes.specs.Proper.{is_proper, are_proper}
use Rattle.shapes.proofs.ProperParts.{region-parts, bitmap-parts, kr-parts, freelist-parts, quantize-parts, stats-parts, affix-parts, segregate-parts, buckets-parts, fallback-parts, fallback-owns, list-parts, list-owns, member-parts}
use Rattle.shapes.specs.RulesOf.{rules_of, rules_of_each}
use Rattle.shapes.specs.Shape.{Shape, null, mem, region, bitmap, kr, freelist, quantize, stats, affix, segregate, buckets, fallback, list, Shapes, no_members, member}
use Rattle.shapes.specs.ShapeMeanings.{ShapesHaveUnrangedLaws, ShapesAreRegular, ShapesAreLawful, CompositionsAreMade}

-- ---- members

-- what holds of the first member's rules, and of each behind it
each-cons : (P : Rules → Type 0) (e : Shape) (es : Shapes) → P (rules_of e) → EachMember P (rules_of_each es) → EachMember P (rules_of_each (member e es))
unfolding rules_of
each-cons P e es h k zero l = h
each-cons P e es h k (suc i) l = k i (omega arith)

no-members : (P : Rules → Type 0) → EachMember P (rules_of_each no_members)
unfolding rules_of
no-members P i l = absurd (omega arith)

-- ---- every shape

mutual
  unfolding rules_of

  pub unranged_of : ShapesHaveUnrangedLaws
  unranged_of null = null-unranged
  unranged_of (mem tag) = mem-unranged tag
  unranged_of (region size align e) = region-unranged size align (rules_of e) (unranged_of e)
  unranged_of (bitmap unit count e) = bitmap-unranged unit count (rules_of e) (unranged_of e)
  unranged_of (kr size e) = kr-unranged size (rules_of e) (unranged_of e)
  unranged_of (freelist least greatest e) = free_list-unranged least greatest (rules_of e) (unranged_of e)
  unranged_of (quantize kind e) = quantize-unranged kind (rules_of e) (unranged_of e)
  unranged_of (stats e) = stats-unranged (rules_of e) (unranged_of e)
  unranged_of (affix prefix suffix e) = affix-unranged prefix suffix (rules_of e) (unranged_of e)
  unranged_of (segregate ts es) = segregate-unranged ts (rules_of_each es) (all_unranged_of es)
  unranged_of (buckets least greatest step es) = buckets-unranged least greatest step (rules_of_each es) (all_unranged_of es)
  unranged_of (fallback p f) = fallback-unranged (rules_of p) (rules_of f) (unranged_of p) (unranged_of f)
  unranged_of (list es) = list-unranged (rules_of_each es) (all_unranged_of es)

  pub all_unranged_of : (es : Shapes) → EachMember UnrangedLaws (rules_of_each es)
  all_unranged_of no_members = no-members UnrangedLaws
  all_unranged_of (member e es) = each-cons UnrangedLaws e es (unranged_of e) (all_unranged_of es)

-- ---- every proper shape is regular

mutual
  unfolding rules_of

  pub regular_of : ShapesAreRegular
  regular_of null p = null-regular
  regular_of (mem tag) p = mem_is_regular tag
  regular_of (region size align e) p = let q = region-parts size align e p in region_is_regular size align (rules_of e) q.0 (regular_of e q.1)
  regular_of (bitmap unit count e) p = let q = bitmap-parts unit count e p in bitmap_is_regular unit count (rules_of e) q.0 (regular_of e q.1)
  regular_of (kr size e) p = let q = kr-parts size e p in kr_is_regular size (rules_of e) (regular_of e q.1)
  regular_of (freelist least greatest e) p = let q = freelist-parts least greatest e p in free_list-regular least greatest (rules_of e) (regular_of e q.1)
  regular_of (quantize kind e) p = let q = quantize-parts kind e p in quantize_is_regular kind (rules_of e) q.0 (regular_of e q.1)
  regular_of (stats e) p = stats_is_regular (rules_of e) (regular_of e (stats-parts e p))
  regular_of (affix prefix suffix e) p = affix_is_regular prefix suffix (rules_of e) (regular_of e (affix-parts prefix suffix e p))
  regular_of (segregate ts es) p = let q = segregate-parts ts es p in segregate_is_regular ts (rules_of_each es) q.0 (all_regular_of es q.1)
  regular_of (buckets least greatest step es) p = let q = buckets-parts least greatest step es p in buckets_are_regular least greatest step (rules_of_each es) q.0 (all_regular_of es q.1)
  regular_of (fallback p f) h = let q = fallback-parts p f h in fallback-regular (rules_of p) (rules_of f) (regular_of p q.0) (regular_of f q.1)
  regular_of (list es) p = list-regular (rules_of_each es) (all_regular_of es (list-parts es p))

  pub all_regular_of : (es : Shapes) → are_proper es ≡ true → EachMember IsRegular (rules_of_each es)
  all_regular_of no_members p = no-members IsRegular
  all_regular_of (member e es) p = let q = member-parts e es p in each-cons IsRegular e es (regular_of e q.0) (all_regular_of es q.1)

-- ---- the tags of what is below

-- rules with the tags of others have tags of their own where these do
tags-below : (f e : Rules) → f.leaf_tags ≡ e.leaf_tags → HasDistinctTags f → HasSomeTags f → HasDistinctTags e × HasSomeTags e
tags-below f e q d s = (subst (EachPair ◌≢◌) q d, record { least = λ t l. s.least t (subst (λ ts. IsIn ts t) (sym q) l) })

own-below : (f : Rules) (es : List Rules) → f.leaf_tags ≡ tags_of es → HasDistinctTags f → HasSomeTags f → HaveOwnTags es
own-below f es q d s = record { distinct = subst (EachPair ◌≢◌) q d; some = λ t l. s.least t (subst (λ ts. IsIn ts t) (sym q) l) }

tags-mem : (tag : ℕ) → HasSomeTags (mem_rules tag) → 1 ≤ tag
unfolding mem_rules
tags-mem tag s = s.least tag (inl refl)

tags-region : (size align : ℕ) (e : Rules) → (region_rules size align e).leaf_tags ≡ e.leaf_tags
unfolding region_rules
tags-region size align e = refl

tags-bitmap : (unit count : ℕ) (e : Rules) → (bitmap_rules unit count e).leaf_tags ≡ e.leaf_tags
unfolding bitmap_rules
tags-bitmap unit count e = refl

tags-kr : (size : ℕ) (e : Rules) → (kr_rules size e).leaf_tags ≡ e.leaf_tags
unfolding kr_rules
tags-kr size e = refl

tags-free_list : (least greatest : ℕ) (e : Rules) → (free_list_rules least greatest e).leaf_tags ≡ e.leaf_tags
unfolding free_list_rules
tags-free_list least greatest e = refl

tags-quantize : (kind : RoundingKind) (e : Rules) → (quantize_rules kind e).leaf_tags ≡ e.leaf_tags
unfolding quantize_rules handing_rules
tags-quantize kind e = refl

tags-stats : (e : Rules) → (stats_rules e).leaf_tags ≡ e.leaf_tags
unfolding stats_rules handing_rules
tags-stats e = refl

tags-affix : (prefix suffix : ℕ) (e : Rules) → (affix_rules prefix suffix e).leaf_tags ≡ e.leaf_tags
unfolding affix_rules handing_rules
tags-affix prefix suffix e = refl

tags-segregate : (ts : List ℕ) (es : List Rules) → (segregate_rules ts es).leaf_tags ≡ tags_of es
unfolding segregate_rules choosing_rules
tags-segregate ts es = refl

tags-buckets : (least greatest step : ℕ) (es : List Rules) → (buckets_rules least greatest step es).leaf_tags ≡ tags_of es
unfolding buckets_rules choosing_rules
tags-buckets least greatest step es = refl

tags-list : (es : List Rules) → (list_rules es).leaf_tags ≡ tags_of es
unfolding list_rules
tags-list es = refl

-- ---- every proper shape is lawful

-- so where its leaves have tags of their own
abbrev LawfulWhereTagged : Rules → Type 0
LawfulWhereTagged e = HasDistinctTags e → HasSomeTags e → IsLawful e

mutual
  unfolding rules_of

  pub lawful_of : ShapesAreLawful
  lawful_of null p d s = null-lawful
  lawful_of (mem tag) p d s = mem_is_lawful tag (tags-mem tag s)
  lawful_of (region size align e) p d s =
      let q = region-parts size align e p in
      let t = tags-below (region_rules size align (rules_of e)) (rules_of e) (tags-region size align (rules_of e)) d s in
      region_is_lawful size align (rules_of e) q.0 t.1 (regular_of e q.1) (lawful_of e q.1 t.0 t.1)
  lawful_of (bitmap unit count e) p d s =
      let q = bitmap-parts unit count e p in
      let t = tags-below (bitmap_rules unit count (rules_of e)) (rules_of e) (tags-bitmap unit count (rules_of e)) d s in
      bitmap-lawful unit count (rules_of e) q.0 t.1 (regular_of e q.1) (lawful_of e q.1 t.0 t.1)
  lawful_of (kr size e) p d s =
      let q = kr-parts size e p in
      let t = tags-below (kr_rules size (rules_of e)) (rules_of e) (tags-kr size (rules_of e)) d s in
      kr-lawful size (rules_of e) q.0 t.1 (regular_of e q.1) (lawful_of e q.1 t.0 t.1)
  lawful_of (freelist least greatest e) p d s =
      let q = freelist-parts least greatest e p in
      let t = tags-below (free_list_rules least greatest (rules_of e)) (rules_of e) (tags-free_list least greatest (rules_of e)) d s in
      free_list-lawful least greatest (rules_of e) q.0 t.1 (regular_of e q.1) (lawful_of e q.1 t.0 t.1)
  lawful_of (quantize kind e) p d s =
      let q = quantize-parts kind e p in
      let t = tags-below (quantize_rules kind (rules_of e)) (rules_of e) (tags-quantize kind (rules_of e)) d s in
      quantize_is_lawful kind (rules_of e) q.0 t.1 (regular_of e q.1) (lawful_of e q.1 t.0 t.1)
  lawful_of (stats e) p d s =
      let q = stats-parts e p in
      let t = tags-below (stats_rules (rules_of e)) (rules_of e) (tags-stats (rules_of e)) d s in
      stats_is_lawful (rules_of e) t.1 (regular_of e q) (lawful_of e q t.0 t.1)
  lawful_of (affix prefix suffix e) p d s =
      let q = affix-parts prefix suffix e p in
      let t = tags-below (affix_rules prefix suffix (rules_of e)) (rules_of e) (tags-affix prefix suffix (rules_of e)) d s in
      affix_is_lawful prefix suffix (rules_of e) t.1 (regular_of e q) (lawful_of e q t.0 t.1)
  lawful_of (segregate ts es) p d s =
      let q = segregate-parts ts es p in
      let own = own-below (segregate_rules ts (rules_of_each es)) (rules_of_each es) (tags-segregate ts (rules_of_each es)) d s in
      segregate_is_lawful ts (rules_of_each es) q.0 own (all_regular_of es q.1) (each-lawful (rules_of_each es) own (all_lawful_of es q.1))
  lawful_of (buckets least greatest step es) p d s =
      let q = buckets-parts least greatest step es p in
      let own = own-below (buckets_rules least greatest step (rules_of_each es)) (rules_of_each es) (tags-buckets least greatest step (rules_of_each es)) d s in
      buckets_are_lawful least greatest step (rules_of_each es) q.0 own (all_regular_of es q.1) (each-lawful (rules_of_each es) own (all_lawful_of es q.1))
  lawful_of (fallback p f) h d s =
      let q = fallback-parts p f h in
      let t = tags-first (rules_of p) (rules_of f) d s in
      let u = tags-second (rules_of p) (rules_of f) d s in
      fallback-lawful (rules_of p) (rules_of f) (fallback-owns p f h) d s (regular_of p q.0) (regular_of f q.1) (lawful_of p q.0 t.0 t.1) (lawful_of f q.1 u.0 u.1)
  lawful_of (list es) p d s =
      let q = list-parts es p in
      let own = own-below (list_rules (rules_of_each es)) (rules_of_each es) (tags-list (rules_of_each es)) d s in
      list-lawful (rules_of_each es) own (list-owns es p) (all_regular_of es q) (each-lawful (rules_of_each es) own (all_lawful_of es q))

  pub all_lawful_of : (es : Shapes) → are_proper es ≡ true → EachMember LawfulWhereTagged (rules_of_each es)
  all_lawful_of no_members p = no-members LawfulWhereTagged
  all_lawful_of (member e es) p = let q = member-parts e es p in each-cons LawfulWhereTagged e es (lawful_of e q.0) (all_lawful_of es q.1)

-- ---- compositions

pub made_of : CompositionsAreMade
made_of e h =
    let p = and-fst (is_proper e) _ h in
    let few : (rules_of e).nodes ≤ most_nodes = grind (arith, nat_tests) in
    let shallow : (rules_of e).depth ≤ most_layers = grind (arith, nat_tests) in
    record { few = few; shallow = shallow; regular = regular_of e p; lawful = λ d s. lawful_of e p d s }
