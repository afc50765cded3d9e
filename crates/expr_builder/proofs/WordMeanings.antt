-- What is proved of each word: where its numbers are allowed, it stands for a composition over whatever composition is below it.
use Rattle.std.proofs.Common.{◌≡◌, refl, sym, inl, inr, ap, subst, ℕ, zero, suc, ◌+◌, ◌≤◌, ◌<◌, Bool, true, false, ◌&&◌, ◌||◌, if◌then◌else◌, nat_eq, nat_le, List, [], ◌∷◌, None, arith}
use Rattle.std.proofs.lemmas.Bool.{le-leb}
use Rattle.std.proofs.lemmas.Bool.Decides.{nat_tests}
use Rattle.size_round.specs.Sizes.{RoundingKind, multiple_of, power_of_two, is_between, is_multiple, is_power_of_two, is_proper_kind, size_bound}
use Rattle.layer_rules.specs.NullRules.{null_rules}
use Rattle.layer_rules.specs.Rules.{Rules, IsLeaf, HasDistinctTags}
use Rattle.leaf_rules.specs.MemRules.{mem_rules}
use Rattle.region_rules.specs.RegionRules.{region_rules}
use Rattle.free_list_rules.specs.FreeListRules.{free_list_rules}
use Rattle.quantize_rules.specs.QuantizeRules.{quantize_rules}
use Rattle.stats_rules.specs.StatsRules.{stats_rules}
use Rattle.affix_rules.specs.AffixRules.{alignment_behind, affix_rules}
use Rattle.layer_rules.specs.Handing.{handing_rules}
use Rattle.shapes.specs.Shape.{Shape, quantize}
use Rattle.shapes.specs.RulesOf.{rules_of}
use Rattle.shapes.specs.Proper.{is_proper}
use Rattle.layer_laws.proofs.Basics.{and-fst, and-snd}
use Rattle.region_block.specs.RegionProper as region
use Rattle.free_list.specs.FreeListProper as free_list
use Rattle.quantizer.specs.QuantizerProper as quantizer
use Rattle.stats_collector.specs.CollectorProper as collector
use Rattle.affix_layer.specs.AffixProper as affix
use Rattle.expr_reader.specs.declared.token.Name.{Name}
use Rattle.expr_reader.specs.declared.token.Name.TheVariants as name
use Rattle.expr_reader.specs.declared.token.Choice.TheVariants.{Any, Pow2}
use Rattle.expr_reader.specs.declared.tree.RoundKind.{RoundKind}
use Rattle.expr_reader.specs.declared.tree.RoundKind.TheVariants as kind
use Rattle.expr_reader.specs.declared.node.Head.{Head}
use Rattle.expr_reader.specs.declared.node.Head.TheVariants.{Number, Chosen}
use Rattle.expr_reader.specs.declared.signature.Entry.TheVariants.{Alone}
use Rattle.expr_reader.specs.Signatures.{takes, inner, left}
use Rattle.expr_reader.specs.Trees.{Tree, Args, last, number, choice, layer, kind_args}
use Rattle.expr_reader.specs.Grammar.{FitsIn, depth, greatest_depth}
use Rattle.expr_reader.specs.Faults.{most_layers}
use Rattle.expr_reader.specs.Flaws.{heads, alignment, least_alignment, word_alignment, needs, keeps_ranges}
use Rattle.expr_reader.specs.Buildable.{ArePassed, KeepsRules}
use Rattle.expr_builder.specs.ShapeOf.{kind_of, leaf_shape, leaves_of, layer_shape, leaf_count, leaf_count_in, shape_of, shapes}
use Rattle.expr_reader.proofs.Nothing.{nothing_fits}

-- The shape is proper, with this alignment and so many layers on its one path, and its leaves take the next so many tags.
pub record Means (s : Shape) (align deep count made : ℕ) : Type 0 where
  pub aligned : (rules_of s).alignment ≡ align
  pub layers : (rules_of s).depth ≡ deep
  pub nodes : (rules_of s).nodes ≡ deep + 1
  pub proper : is_proper s ≡ true
  pub distinct : HasDistinctTags (rules_of s)
  pub next : (tag : ℕ) → IsLeaf (rules_of s) tag → (made < tag) × (tag ≤ made + count)
  pub single : count ≤ 1

-- with these numbers the word has such a meaning over each shape that has one
abbrev KeepsMeaning : Name → List Head → Type 0
KeepsMeaning k hs =
    (s : Shape) (align deep count made : ℕ) → ArePassed (keeps_ranges k None hs) → needs k hs ≤ align → Means s align deep count made
    → Means (layer_shape k hs (s ∷ [])) (word_alignment k hs align) (suc deep) count made

-- ---- word by word

pub leaf-means : (k : Name) → takes k ≡ Alone → (made : ℕ) → Means (leaf_shape k made) (word_alignment k [] 0) 0 (leaves_of (leaf_shape k 0)) made
unfolding rules_of is_proper null_rules mem_rules
leaf-means name.Null f made = record { aligned = refl; layers = refl; nodes = refl; proper = refl; distinct = tt; next = λ tag h. absurd h; single = omega arith }
leaf-means name.Mem f made =
    record {
      aligned = refl;
      layers = refl;
      nodes = refl;
      proper = refl;
      distinct = (tt, tt);
      next = λ tag h. elim h [ inl q ↦ (omega (arith, q), omega (arith, q)) | inr n ↦ absurd n ];
      single = omega arith;
    }
leaf-means k f made = absurd cc

proper-region : (a b c x x' d : Bool) → a ≡ true → (b && c) ≡ true → x ≡ true → x' ≡ x → d ≡ true → (a && (b && (c && (x' && d)))) ≡ true
proper-region a b c x x' d h i j e k = grind (arith, h, i, j, e, k)

region-means : (size align : ℕ) → KeepsMeaning name.Region (Number size ∷ Number align ∷ [])
unfolding rules_of is_proper region_rules
region-means size align s below deep count made kept enough m =
    let nodes = m.nodes in
    record {
      aligned = refl;
      layers = ap (λ n. suc n) m.layers;
      nodes = omega (arith, nodes);
      proper = proper-region (is_between 1 size_bound size) (is_between 1 4096 align) (is_power_of_two align) (nat_le align below) _ _ kept.0 kept.1.0 (le-leb align below enough) (ap (λ n. nat_le align n) m.aligned) m.proper;
      distinct = m.distinct;
      next = m.next;
      single = m.single;
    }

proper-freelist : (a b c c' : Bool) → a ≡ true → b ≡ true → c' ≡ c → c ≡ true → (a && (b && c')) ≡ true
proper-freelist a b c c' h i e k = grind (arith, h, i, e, k)

freelist-means : (least greatest : ℕ) → KeepsMeaning name.FreeList (Number least ∷ Number greatest ∷ [])
unfolding rules_of is_proper free_list_rules
freelist-means least greatest s below deep count made kept enough m =
    let nodes = m.nodes in
    record {
      aligned = m.aligned;
      layers = ap (λ n. suc n) m.layers;
      nodes = omega (arith, nodes);
      proper = proper-freelist (is_between 8 size_bound greatest) (nat_le least greatest) _ _ kept.1.0 kept.0 refl m.proper;
      distinct = m.distinct;
      next = m.next;
      single = m.single;
    }

proper-quantize : (a b : Bool) → a ≡ true → b ≡ true → (a && b) ≡ true
proper-quantize a b h i = grind (arith, h, i)

quantized-means : (rounding : RoundingKind) (s : Shape) (align deep count made : ℕ) → is_proper_kind rounding ≡ true → Means s align deep count made → Means (quantize rounding s) align (suc deep) count made
unfolding rules_of is_proper quantize_rules handing_rules
quantized-means rounding s align deep count made p m =
    let nodes = m.nodes in
    record {
      aligned = m.aligned;
      layers = ap (λ n. suc n) m.layers;
      nodes = omega (arith, nodes);
      proper = proper-quantize (is_proper_kind rounding) _ p m.proper;
      distinct = m.distinct;
      next = m.next;
      single = m.single;
    }

step-means : (step : ℕ) → KeepsMeaning name.Quantize (Number step ∷ [])
step-means step s align deep count made kept enough m = quantized-means (multiple_of step) s align deep count made kept.0 m

pow2-means : KeepsMeaning name.Quantize (Chosen Pow2 ∷ [])
pow2-means s align deep count made kept enough m = quantized-means power_of_two s align deep count made refl m

stats-means : KeepsMeaning name.Stats []
unfolding rules_of is_proper stats_rules handing_rules
stats-means s align deep count made kept enough m =
    let nodes = m.nodes in
    record {
      aligned = m.aligned;
      layers = ap (λ n. suc n) m.layers;
      nodes = omega (arith, nodes);
      proper = m.proper;
      distinct = m.distinct;
      next = m.next;
      single = m.single;
    }

proper-affix : (a b c d x x' e : Bool) → (c && a) ≡ true → (d && b) ≡ true → x ≡ true → x' ≡ x → e ≡ true → (a && (b && (c && (d && (x' && e))))) ≡ true
proper-affix a b c d x x' e h i j q k = grind (arith, h, i, j, q, k)

eight-or : (none : Bool) (align : ℕ) → (if none then 0 else 8) ≤ align → (none || nat_le 8 align) ≡ true
eight-or true align h = refl
eight-or false align h = le-leb 8 align h

affix-means : (prefix suffix : ℕ) → KeepsMeaning name.Affix (Number prefix ∷ Number suffix ∷ [])
unfolding rules_of is_proper affix_rules handing_rules
affix-means prefix suffix s below deep count made kept enough m =
    let nodes = m.nodes in
    record {
      aligned = ap (alignment_behind prefix) m.aligned;
      layers = ap (λ n. suc n) m.layers;
      nodes = omega (arith, nodes);
      proper = proper-affix (is_multiple prefix 8) (is_multiple suffix 8) (nat_le prefix 256) (nat_le suffix 256) (nat_eq prefix 0 || nat_le 8 below) _ _ kept.0 kept.1.0 (eight-or (nat_eq prefix 0) below enough)
          (ap (λ n. nat_eq prefix 0 || nat_le 8 n) m.aligned) m.proper;
      distinct = m.distinct;
      next = m.next;
      single = m.single;
    }

-- ---- from what fits to one of the words

-- each layer of some arguments has a meaning
abbrev pub AllMean : Args → (made : ℕ) → Type 0
AllMean (last e) made = Means (shape_of e made) (alignment e) (depth e) (leaf_count e) made
AllMean (number n args) made = AllMean args made
AllMean (choice c args) made = AllMean args made
AllMean (layer e args) made = Means (shape_of e made) (alignment e) (depth e) (leaf_count e) made × AllMean args (made + leaf_count e)

-- the property of each row of so many numbers
abbrev OfNumbers : ℕ → (List Head → Type 0) → Type 0
OfNumbers zero P = P []
OfNumbers (suc n) P = (v : ℕ) → OfNumbers n (λ hs. P (Number v ∷ hs))

-- The arguments are numbers, which have the property, and one layer.
record OneBelow (args : Args) (made : ℕ) (P : List Head → Type 0) : Type 0 where
  pub shape : Shape
  pub only : shapes args made ≡ shape ∷ []
  pub means : Means shape (least_alignment args) (greatest_depth args) (leaf_count_in args) made
  pub holds : P (heads args)

one-below : (args : Args) (n made : ℕ) (P : List Head → Type 0) → OfNumbers n P → FitsIn args (left n 0 false) → AllMean args made → OneBelow args made P
one-below (last e) zero made P w f m = record { shape = shape_of e made; only = refl; means = m; holds = w }
one-below (last e) (suc n) made P w f m = let no = f.0 in absurd cc
one-below (number v args) zero made P w f m = absurd (nothing_fits args f.1)
one-below (number v args) (suc n) made P w f m =
    let r = one-below args n made (λ hs. P (Number v ∷ hs)) (w v) f.1 m in record { shape = r.shape; only = r.only; means = r.means; holds = r.holds }
one-below (choice c args) n made P w f m = absurd (nothing_fits args f)
one-below (layer e args) zero made P w f m = absurd (nothing_fits args f.1)
one-below (layer e args) (suc n) made P w f m = absurd (nothing_fits args f.1)

-- The arguments of a quantizer: a number, or the word in its place, and one layer.
round-below : (args : Args) (made : ℕ) (P : List Head → Type 0) → OfNumbers 1 P → P (Chosen Pow2 ∷ []) → FitsIn args (inner (takes name.Quantize)) → AllMean args made → OneBelow args made P
round-below (last e) made P w u f m = let no = f.0 in absurd cc
round-below (number v args) made P w u f m =
    let r = one-below args 0 made (λ hs. P (Number v ∷ hs)) (w v) f.1 m in record { shape = r.shape; only = r.only; means = r.means; holds = r.holds }
round-below (choice Pow2 args) made P w u f m =
    let r = one-below args 0 made (λ hs. P (Chosen Pow2 ∷ hs)) u f m in record { shape = r.shape; only = r.only; means = r.means; holds = r.holds }
round-below (choice Any args) made P w u f m = absurd (nothing_fits args f)
round-below (layer e args) made P w u f m = absurd (nothing_fits args f.1)

abbrev LayerMeans : Name → Args → (made : ℕ) → Type 0
LayerMeans k args made = Means (layer_shape k (heads args) (shapes args made)) (word_alignment k (heads args) (least_alignment args)) (suc (greatest_depth args)) (leaf_count_in args) made

over-means : (k : Name) (args : Args) (made : ℕ) → OneBelow args made (KeepsMeaning k) → KeepsRules None k args → LayerMeans k args made
over-means k args made r kept =
    subst (λ ss. Means (layer_shape k (heads args) ss) (word_alignment k (heads args) (least_alignment args)) (suc (greatest_depth args)) (leaf_count_in args) made) (sym r.only)
    (r.holds r.shape (least_alignment args) (greatest_depth args) (leaf_count_in args) made kept.in_range kept.aligned r.means)

pub layer-means : (k : Name) (args : Args) (made : ℕ) → FitsIn args (inner (takes k)) → AllMean args made → KeepsRules None k args → LayerMeans k args made
layer-means name.Region args made f m = over-means name.Region args made (one-below args 2 made (KeepsMeaning name.Region) region-means f m)
layer-means name.FreeList args made f m = over-means name.FreeList args made (one-below args 2 made (KeepsMeaning name.FreeList) freelist-means f m)
layer-means name.Quantize args made f m = over-means name.Quantize args made (round-below args made (KeepsMeaning name.Quantize) step-means pow2-means f m)
layer-means name.Stats args made f m = over-means name.Stats args made (one-below args 0 made (KeepsMeaning name.Stats) stats-means f m)
layer-means name.Affix args made f m = over-means name.Affix args made (one-below args 2 made (KeepsMeaning name.Affix) affix-means f m)
layer-means k args made f m = absurd (nothing_fits args f)

-- ---- what the layers of the program ask

-- a layer of this word may stand over its arguments
pub record MayStand (k : Name) (args : Args) (made : ℕ) : Type 0 where
  pub kept : KeepsRules None k args
  pub below : AllMean args made
  pub shallow : suc (greatest_depth args) ≤ most_layers

sized : (n low high : ℕ) → is_between low high n ≡ true → (low ≤ n) × (n ≤ high)
sized n low high h = (grind (arith, nat_tests), grind (arith, nat_tests))

pub region-proper : (size align : ℕ) (e : Tree) (made : ℕ) (r : Rules) → r ≡ rules_of (shape_of e made) → MayStand name.Region (number size (number align (last e))) made → region.IsProper size align r
region-proper size align e made r is m =
    let ranges = m.kept.in_range in
    let size_in = sized size 1 size_bound ranges.0 in
    let align_in = sized align 1 4096 (and-fst (is_between 1 4096 align) (is_power_of_two align) ranges.1.0) in
    subst (region.IsProper size align) (sym is)
    (record {
      size_some = size_in.0;
      size_most = size_in.1;
      align_some = align_in.0;
      align_most = align_in.1;
      power = and-snd (is_between 1 4096 align) (is_power_of_two align) ranges.1.0;
      aligned = omega (arith, m.kept.aligned, m.below.aligned);
      depth = omega (arith, m.below.layers, m.shallow);
      few = omega (arith, m.below.nodes, m.shallow);
    })

pub freelist-proper : (least greatest : ℕ) (e : Tree) (made : ℕ) (r : Rules) → r ≡ rules_of (shape_of e made) → MayStand name.FreeList (number least (number greatest (last e))) made → free_list.IsProper least greatest r
freelist-proper least greatest e made r is m =
    let ranges = m.kept.in_range in
    let ordered : least ≤ greatest = grind (arith, nat_tests, ranges.0) in
    let greatest_in = sized greatest 8 size_bound ranges.1.0 in
    subst (free_list.IsProper least greatest) (sym is)
    (record {
      size = record { word = greatest_in.0; most = greatest_in.1; ordered = ordered };
      depth = omega (arith, m.below.layers, m.shallow);
      few = omega (arith, m.below.nodes, m.shallow);
    })

pub quantize-kind : (k : RoundKind) (e : Tree) (made : ℕ) → MayStand name.Quantize (kind_args k (last e)) made → is_proper_kind (kind_of k) ≡ true
quantize-kind kind.Pow2 e made m = refl
quantize-kind (kind.Step step) e made m = m.kept.in_range.0

pub quantize-proper : (k : RoundKind) (e : Tree) (made : ℕ) (r : Rules) → r ≡ rules_of (shape_of e made) → MayStand name.Quantize (kind_args k (last e)) made → quantizer.IsProper r
quantize-proper kind.Pow2 e made r is m = subst (λ r. quantizer.IsProper r) (sym is) (record { depth = omega (arith, m.below.layers, m.shallow); few = omega (arith, m.below.nodes, m.shallow) })
quantize-proper (kind.Step step) e made r is m = subst (λ r. quantizer.IsProper r) (sym is) (record { depth = omega (arith, m.below.layers, m.shallow); few = omega (arith, m.below.nodes, m.shallow) })

pub stats-proper : (e : Tree) (made : ℕ) (r : Rules) → r ≡ rules_of (shape_of e made) → MayStand name.Stats (last e) made → collector.IsProper r
stats-proper e made r is m = subst (λ r. collector.IsProper r) (sym is) (record { depth = omega (arith, m.below.layers, m.shallow); few = omega (arith, m.below.nodes, m.shallow) })

at_most : (n most : ℕ) → nat_le n most ≡ true → n ≤ most
at_most n most h = grind (arith, nat_tests)

eight-below : (prefix align : ℕ) (none : Bool) → nat_eq prefix 0 ≡ none → (if none then 0 else 8) ≤ align → 1 ≤ prefix → 8 ≤ align
eight-below prefix align true q h some = absurd (grind (arith, nat_tests))
eight-below prefix align false q h some = h

pub affix-proper : (prefix suffix : ℕ) (e : Tree) (made : ℕ) (r : Rules) → r ≡ rules_of (shape_of e made) → MayStand name.Affix (number prefix (number suffix (last e))) made → affix.IsProper prefix suffix r
affix-proper prefix suffix e made r is m =
    let ranges = m.kept.in_range in
    let below = m.below.aligned in
    subst (affix.IsProper prefix suffix) (sym is)
    (record {
      prefix_whole = and-snd (nat_le prefix 256) (is_multiple prefix 8) ranges.0;
      suffix_whole = and-snd (nat_le suffix 256) (is_multiple suffix 8) ranges.1.0;
      prefix_most = at_most prefix 256 (and-fst (nat_le prefix 256) (is_multiple prefix 8) ranges.0);
      suffix_most = at_most suffix 256 (and-fst (nat_le suffix 256) (is_multiple suffix 8) ranges.1.0);
      aligned = λ some. let eight = eight-below prefix (alignment e) (nat_eq prefix 0) refl m.kept.aligned some in omega (arith, below, eight);
      depth = omega (arith, m.below.layers, m.shallow);
      few = omega (arith, m.below.nodes, m.shallow);
    })
