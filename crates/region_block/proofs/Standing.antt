-- What a region that stands knows: its sizes, its parent, its chunk and its blocks.
use Rattle.layer_rules.specs.After.{refuse}
use Rattle.region_rules.specs.RegionRules.{region_allocate}
use Rattle.space_core.specs.Cells.{Cells}
use Rattle.std.proofs.Common.{◌≡◌, refl, sym, false, nat_le, nat_eq, nat_lt, ◌∙◌, ap, subst, ℕ, zero, suc, ◌+◌, ◌-◌, ◌≤◌, ◌<◌, ◌∷◌, true, Option, Some, None, is_some, List, arith}
use Rattle.std.proofs.lemmas.Bool.Decides.{nat_tests}
use Rattle.std.specs.List.{slice_get}
use Rattle.layer_rules.specs.declared.Fact.{Fact}
use Rattle.size_round.specs.Sizes.{limit, up}
use Rattle.space_core.specs.Memory.{Memory}
use Rattle.layer_rules.specs.declared.Block.{Block}
use Rattle.layer_rules.specs.Blocks.{end_of}
use Rattle.layer_rules.specs.Fields.{are_open}
use Rattle.region_rules.specs.RegionRules.{region_rules}
use Rattle.layer_rules.specs.State.{State, closed, chunk_of, position_of}
use Rattle.layer_rules.specs.Layering.{LayerModel, state_of, Stands, Allocates, IsOutOf, IsRoutedIn, IsFactOf}
use Rattle.layer_laws.proofs.Basics.{and-snd}
use Rattle.layer_rules.specs.Rules.{HasSomeTags}
use Rattle.layer_laws.specs.Lawful.{IsMade}
use Rattle.region_block.specs.RegionProper.{IsProper}
use Rattle.layer_laws.proofs.StandingLaws.{made-shut, shut-stands, out-in_space, unless-refuses, refused}
use Rattle.region_rules.proofs.RegionLawful.{out-region, region-parts}
use Rattle.region_block.specs.declared.bump.Bump.{Bump}
use Rattle.region_block.specs.RegionModel.{region_model}

-- the parent of a region that stands does too
pub parent-stands : (size align : ℕ) (b : Option Bump) (t : LayerModel) (m : Memory) → IsMade t.rules → are_open t.fields ≡ is_some b → Stands (region_model size align b t) m → Stands t m
unfolding region_rules
parent-stands size align None t m l e h =
    let w : HasSomeTags t.rules = record { least = h.sound.made.least } in
    shut-stands t m h.memory h.sound.distinct (record { least = h.sound.made.least; most = h.sound.made.most }) l.regular.reading (l.lawful h.sound.distinct w).opening e h.sound.settled
parent-stands size align (Some b) t m l e h =
    let x = region-parts size align t.rules (state_of (region_model size align (Some b) t) m) m.cells h.sound.settled in
    record {
      memory = h.memory;
      sound = record { distinct = h.sound.distinct; made = record { least = h.sound.made.least; most = h.sound.made.most }; settled = x.below };
      image = and-snd (t.rules.is_clean b.chunk (state_of t m) m.bytes) (t.rules.is_image t.fields (state_of t m) m.bytes) h.image;
    }

-- the numbers of an open region lie in the Space
pub record IsInSpace (align : ℕ) (b : Bump) : Type 0 where
  pub align_some : 1 ≤ align
  pub align_most : align ≤ 4096
  pub start : b.chunk.place ≤ b.position
  pub stop : b.position ≤ end_of b.chunk
  pub inside : end_of b.chunk ≤ 16777216

pub in_space : (size align : ℕ) (b : Bump) (t : LayerModel) (m : Memory) → IsMade t.rules → IsProper size align t.rules → are_open t.fields ≡ true → Stands (region_model size align (Some b) t) m → IsInSpace align b
unfolding region_rules
in_space size align b t m l p e h =
    let x = region-parts size align t.rules (state_of (region_model size align (Some b) t) m) m.cells h.sound.settled in
    let r = out-in_space t m b.chunk l (parent-stands size align (Some b) t m l e h) x.out in
    record {
      align_some = p.align_some;
      align_most = p.align_most;
      start = x.region.start;
      stop = x.region.stop;
      inside = omega (arith, r, h.memory.sizes, h.memory.cells);
    }

-- a block of a region lies below its position
pub record IsBelow (align : ℕ) (b : Bump) (c : Block) : Type 0 where
  pub some : 1 ≤ c.len
  pub upto : c.place + up c.len align ≤ b.position

pub below : (size align : ℕ) (b : Bump) (t : LayerModel) (m : Memory) (c : Block) → IsOutOf (region_model size align (Some b) t) m c → IsBelow align b c
unfolding region_rules
below size align b t m c o = let x = out-region size align t.rules c (state_of (region_model size align (Some b) t) m) m.cells o in record { some = x.some; upto = x.upto }

pub up-less : (n a : ℕ) → 1 ≤ a → up n a + 1 ≤ n + a
up-less n a h = grind arith

-- a block that a region can name is short
pub routed-short : (size align : ℕ) (b : Option Bump) (t : LayerModel) (c : Block) → IsRoutedIn (region_model size align b t) c → c.len ≤ limit
unfolding region_rules
routed-short size align b t c h = grind (arith, nat_tests)

slice_get-behind : {X : Type 0} (x : X) (xs : List X) (node : ℕ) (r : Option X) → 0 < node → slice_get xs (node - 1) ≡ r → slice_get (x ∷ xs) node ≡ r
slice_get-behind x xs zero r h e = absurd (omega arith)
slice_get-behind x xs (suc node) r h e = let q : suc node - 1 ≡ node = omega arith in subst (λ (k : ℕ). slice_get xs k ≡ r) q e

-- what is said of a node behind the region is what its parent says
pub fact-below : (size align : ℕ) (b : Option Bump) (t : LayerModel) (m : Memory) (node : ℕ) (said : Fact) → IsMade t.rules → Stands t m → are_open t.fields ≡ is_some b → 0 < node → IsFactOf t m (node - 1) said → IsFactOf (region_model size align b t) m node said
unfolding region_rules
fact-below size align None t m node said l k0 e h f =
    let k : state_of t m ≡ closed = made-shut t.rules l t.fields m.bytes e in
    slice_get-behind _ (t.rules.facts closed m.cells) node (Some said) h (subst (λ (s : State). slice_get (t.rules.facts s m.cells) (node - 1) ≡ Some said) k f)
fact-below size align (Some b) t m node said l k0 e h f = slice_get-behind _ (t.rules.facts (state_of t m) m.cells) node (Some said) h f

-- the bump of an open region
pub in_space-at : (size align : ℕ) (o : Option Bump) (b : Bump) (t : LayerModel) (m : Memory) → o ≡ Some b → IsMade t.rules → IsProper size align t.rules → are_open t.fields ≡ is_some o → Stands (region_model size align o t) m → IsInSpace align b
in_space-at size align o b t m q l p e h =
    in_space size align b t m l p (e ∙ ap is_some q) (subst (λ (z : Option Bump). Stands (region_model size align z t) m) q h)

pub below-at : (size align : ℕ) (o : Option Bump) (b : Bump) (t : LayerModel) (m : Memory) (c : Block) → o ≡ Some b → IsOutOf (region_model size align o t) m c → IsBelow align b c
below-at size align o b t m c q h = below size align b t m c (subst (λ (z : Option Bump). IsOutOf (region_model size align z t) m c) q h)

-- where the chunk has no room the rule refuses
pub region-full : (p size n : ℕ) (s : State) (cells : Cells) → nat_le (p + size) (end_of (chunk_of s)) ≡ false → region_allocate p size n s cells ≡ refuse s cells
region-full p size n s cells q = rw (q, region_allocate) refl

no-room : (size align n : ℕ) (b : Bump) (t : LayerModel) (m : Memory) → end_of b.chunk < b.position + up n align
    → (region_rules size align t.rules).allocate n (state_of (region_model size align (Some b) t) m) m.cells ≡ refuse (state_of (region_model size align (Some b) t) m) m.cells
unfolding region_rules
no-room size align n b t m h =
    let s = state_of (region_model size align (Some b) t) m in
    let q : nat_le (b.position + up n align) (end_of b.chunk) ≡ false = grind (arith, nat_tests, h) in
    unless-refuses (nat_eq n 0) (nat_lt limit n) (λ s. region_allocate (position_of s) (up n align) n s) s m.cells (region-full b.position (up n align) n s m.cells q)

pub no_room-refused : (size align n : ℕ) (o : Option Bump) (b : Bump) (t : LayerModel) (m : Memory) → o ≡ Some b → end_of b.chunk < b.position + up n align → Stands (region_model size align o t) m
    → Allocates (region_model size align o t) (region_model size align o t) m m n None
no_room-refused size align n o b t m q r h =
    subst (λ (z : Option Bump). Stands (region_model size align z t) m → Allocates (region_model size align z t) (region_model size align z t) m m n None) (sym q)
    (λ h. refused (region_model size align (Some b) t) m n h (no-room size align n b t m r)) h
