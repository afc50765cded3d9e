-- What a held heap's run is, and the numbers of its live blocks.
use Rattle.std.proofs.Common.{◌≡◌, refl, sym, ap, ◌∙◌, ℕ, ◌+◌, ◌≤◌, true, List, [], ◌∷◌, arith}
use Rattle.std.specs.List.{sum_by}
use Rattle.std.proofs.lemmas.List.Sums.{sum_by-cons}
use Rattle.size_round.specs.Sizes.{limit}
use Rattle.space_core.specs.Memory.{Memory}
use Rattle.layer_rules.specs.declared.Block.{Block}
use Rattle.layer_rules.specs.Blocks.{is_apart}
use Rattle.layer_rules.specs.Rows.{EachPair}
use Rattle.layer_rules.specs.Layering.{LayerModel, kept_state, Stands, IsOutOf, AreApartIn, IsRoutedIn}
use Rattle.layer_laws.specs.Lawful.{IsMade}
use Rattle.layer_laws.specs.Standing.{extent_of, route_of}
use Rattle.layer_laws.proofs.Placement.{open-as_fields, out-placed, out-routed, kept-extent}
use Rattle.heap_core.specs.declared.Named.{Named}
use Rattle.heap_core.specs.World.{Live}
use Rattle.heap_core.specs.Holding.{live_in, world_of}
use Rattle.heap_core.specs.Heap.{extent_len}
use Rattle.heap_core.specs.Steps.{HeldRun, HeldMeasured, ExtentsInRun, AskedInRun}
use Rattle.heap_core.proofs.WorldLemmas.{each-from, each-world, each_pair-from, found-world}

each_pair-world : (R : Block → Block → Type 0) (t : LayerModel) (table : List Named) (m : Memory) → EachPair (λ (x y : Named). R x.block y.block) table → EachPair (λ (x y : Live). R x.block y.block) (world_of t table m)
each_pair-world R t [] m h = tt
each_pair-world R t (x ∷ table) m h = (each-world (R x.block) t table m h.0, each_pair-world R t table m h.1)

pub held-run : HeldRun
held-run t table m h = record {
  made = h.layer;
  opened = open-as_fields t m h.layer ∙ h.opened;
  sound = h.stands.sound;
  size = refl;
  out = each-world (IsOutOf t m) t table m h.out;
  found = found-world t table m (route_of t m) (λ b. refl);
  apart = each_pair-world (λ b c. is_apart (extent_of t m b) (extent_of t m c) ≡ true) t table m
      (each_pair-from (λ (x y : Named). AreApartIn t m x.block y.block) (λ (x y : Named). is_apart (extent_of t m x.block) (extent_of t m y.block) ≡ true) table (λ x y a. a.either) h.apart);
}

extent-short : (t : LayerModel) (m : Memory) (b : Block) → IsMade t.rules → Stands t m → IsOutOf t m b → (t.rules.extent b (kept_state t)).len ≤ limit
extent-short t m b l h o =
    let e = ap (λ (x : Block). x.len) (kept-extent t m b l) in
    let p = out-placed t m b l h o in
    omega (arith, e, p.room, h.memory.sizes, h.memory.cells)

pub held-measured : HeldMeasured
held-measured t table m h = record {
  routed = each-from (λ (x : Named). IsOutOf t m x.block) (λ (x : Named). IsRoutedIn t x.block) table (λ x o. out-routed t m x.block h.layer h.stands o) h.out;
  short = each-from (λ (x : Named). IsOutOf t m x.block) (λ (x : Named). extent_len t x ≤ limit) table (λ x o. extent-short t m x.block h.layer h.stands o) h.out;
}

-- a sum over a table is the same sum over its world
sum-world : (f : Named → ℕ) (g : Block → ℕ) (t : LayerModel) (table : List Named) (m : Memory) → ((x : Named) → f x ≡ g x.block) → sum_by f table ≡ sum_by (λ (x : Live). g x.block) (world_of t table m)
sum-world f g t [] m h = refl
sum-world f g t (x ∷ table) m h =
    let rest = sum-world f g t table m h in
    let w = world_of t table m in
    sum_by-cons f x table ∙ (ap (λ n. n + sum_by f table) (h x) ∙ (ap (λ n. g x.block + n) rest ∙ sym (sum_by-cons (λ (y : Live). g y.block) (live_in t m x) w)))

pub extents-in_run : ExtentsInRun
extents-in_run t table m l = sum-world (extent_len t) (λ b. (extent_of t m b).len) t table m (λ x. ap (λ (b : Block). b.len) (kept-extent t m x.block l))

pub asked-in_run : AskedInRun
asked-in_run t table m = sum-world (λ x. x.block.len) (λ b. b.len) t table m (λ x. refl)
