-- What is carved from a chunk of a lawful parent: what calls keep and give.
use Rattle.std.proofs.Common.{◌≡◌, refl, sym, ap, subst, ℕ, ◌≤◌, ◌+◌, inl, inr, Bool, true, false, ◌&&◌, nat_le, arith, [], Option}
use Rattle.std.proofs.lemmas.Bool.{and_from}
use Rattle.std.proofs.lemmas.Bool.Decides.{nat_tests}
use Rattle.size_round.specs.SizeMeanings.{IsMultiple}
use Rattle.space_core.specs.Cells.{Cells}
use Rattle.layer_rules.specs.declared.Block.{Block}
use Rattle.layer_rules.specs.After.{After, Placed, placed, Serve}
use Rattle.layer_rules.specs.Blocks.{block, with_len}
use Rattle.layer_rules.specs.Rules.{Rules, IsSettled, AreApart}
use Rattle.layer_rules.specs.State.{State, Own, open_with, one_child, is_open, own_of, child}
use Rattle.layer_laws.proofs.Basics.{and-fst, and-snd}
use Rattle.layer_laws.proofs.CarvingParts.{CarvingParts, carving-parts, carving-whole}
use Rattle.layer_laws.proofs.CellRooms.{multiple_of_multiple, power_in_power}
use Rattle.layer_laws.proofs.Reallocated.{asked-same, generally-reallocated}
use Rattle.layer_laws.proofs.Steps.{refuse-good, refuse-aligned, asked-good, asked-aligned, asked-grown, kept-short, unchanged, same-told}
use Rattle.layer_laws.proofs.Tests.{takes-none}
use Rattle.layer_laws.specs.Carves.{Serves, Changes, IsInOrder, StaysInOrder, IsOutIn, CarvesNew, CarvesNewAt, TakesBack, GrowsThere, Carves}
use Rattle.layer_laws.specs.Carving.{Carving, carve, carve_aligned, carving_rules}
use Rattle.layer_laws.specs.ChunkLaws.{HasChunk}
use Rattle.layer_laws.specs.Lawful.{IsRegular, IsGood, Good, IsFreed, Freeing, IsGrown, Growing, IsEmptied, Emptying, IsAlignedGood, AlignedGood, Aligning, TakingLaws, KeepingLaws}

-- ---- a layer that is open and sound

abbrev over : Own → State → State
over own t = open_with own (one_child t)

-- what holds of each state of that form holds of one that is
pub by-form : (c : Carving) (e : Rules) (P : State → Type 0) (s : State) (cells : Cells) → is_open s ≡ true → IsSettled (carving_rules c e) s cells
    → ((own : Own) (t : State) → IsSettled (carving_rules c e) (open_with own (one_child t)) cells → CarvingParts c e (open_with own (one_child t)) cells → P (open_with own (one_child t))) → P s
by-form c e P s cells o h k =
    let x = carving-parts c e s cells o h in
    let z = subst (λ s. IsSettled (carving_rules c e) s cells) x.form h in
    subst P (sym x.form) (k (own_of s) (child s 0) z (carving-parts c e (over (own_of s) (child s 0)) cells refl z))

pub in-order : (c : Carving) (e : Rules) (s : State) (cells : Cells) → Carves c e → IsRegular e → Aligning e → CarvingParts c e s cells → IsInOrder c (own_of s)
in-order c e s cells w r law x = record {
  kind = x.kind;
  passes = x.passes;
  bound = x.chunk.bound;
  aligned =
      multiple_of_multiple (c.chunk (own_of s)).place e.alignment c.alignment (law (c.chunk (own_of s)) (child s 0) cells x.below x.chunk.out)
      (power_in_power c.alignment e.alignment w.regular.tells.aligned.power r.telling.aligned.power w.below);
}

-- a block that is out
pub out-in : (c : Carving) (e : Rules) (b : Block) (s : State) (cells : Cells) → (carving_rules c e).is_out b s cells ≡ true → (is_open s ≡ true) × IsOutIn c b (own_of s)
out-in c e b s cells h =
    let k = and-fst (is_open s && nat_le 1 b.len) (c.is_out b (own_of s)) h in
    let some = and-snd (is_open s) (nat_le 1 b.len) k in
    (and-fst (is_open s) (nat_le 1 b.len) k, record { some = grind (arith, nat_tests); out = and-snd (is_open s && nat_le 1 b.len) (c.is_out b (own_of s)) h })

in-out : (c : Carving) (e : Rules) (b : Block) (own : Own) (t : State) (cells : Cells) → 1 ≤ b.len → c.is_out b own ≡ true → (carving_rules c e).is_out b (over own t) cells ≡ true
in-out c e b own t cells some h = let q : nat_le 1 b.len ≡ true = grind (arith, nat_tests) in and_from _ _ q h

-- it is sound again after a call
next-sound : (c : Carving) (e : Rules) (old new : Own) (t : State) (cells : Cells) → CarvingParts c e (over old t) cells → StaysInOrder c old new → IsSettled (carving_rules c e) (over new t) cells
next-sound c e old new t cells x h = carving-whole c e new t cells h.kind h.passes x.parent (subst (λ d. HasChunk e d t cells) (sym h.chunk) x.chunk) x.below

-- ---- a request

new-good : (c : Carving) (e : Rules) (n p : ℕ) (old new : Own) (t : State) (cells : Cells) → 1 ≤ n → CarvingParts c e (over old t) cells → CarvesNew c old n p new
    → IsGood (carving_rules c e) (over old t) cells n (carve n p new (over old t) cells)
new-good c e n p old new t cells l x g =
    let f = carving_rules c e in
    let was = λ (b : Block) (o : f.is_out b (over old t) cells ≡ true). (out-in c e b (over old t) cells o).1 in
    record {
      is_set = refl;
      settled = next-sound c e old new t cells x g.order;
      extents = λ b o. (g.stays b (was b o)).extent;
      routes = λ b o. refl;
      stays = λ b o. in-out c e b new t cells (was b o).some (g.stays b (was b o)).out;
      len = λ k z. let y : placed (block p n) [] ≡ k = cc in sym (ap (λ (k : Placed). k.block.len) y);
      out = λ k z. let y : placed (block p n) [] ≡ k = cc in subst (λ (k : Placed). f.is_out k.block (over new t) cells ≡ true) y (in-out c e (block p n) new t cells l g.out);
      found = λ k z. let y : placed (block p n) [] ≡ k = cc in sym (ap (λ (k : Placed). k.route) (sym y));
      fresh = λ k z b o. let y : placed (block p n) [] ≡ k = cc in subst (λ (k : Placed). AreApart f (over new t) k.block b) y (record { either = g.fresh b (was b o) });
    }

serves-good : (c : Carving) (e : Rules) (n : ℕ) (old : Own) (t : State) (cells : Cells) (r : After (Option Placed)) → 1 ≤ n → IsSettled (carving_rules c e) (over old t) cells → CarvingParts c e (over old t) cells
    → Serves (CarvesNew c old n) n (over old t) cells r → IsGood (carving_rules c e) (over old t) cells n r
serves-good c e n old t cells r l h x (inl q) = subst (IsGood (carving_rules c e) (over old t) cells n) (sym q) (refuse-good (carving_rules c e) n (over old t) cells refl h)
serves-good c e n old t cells r l h x (inr y) = subst (IsGood (carving_rules c e) (over old t) cells n) (sym y.leaves) (new-good c e n y.place old y.own t cells l x y.fits)

carving-good : (c : Carving) (e : Rules) → Carves c e → IsRegular e → Aligning e → Good (carving_rules c e)
carving-good c e w r law n s cells o h =
    let f = carving_rules c e in
    by-form c e (λ s. IsGood f s cells n (f.allocate n s cells)) s cells o h (λ own t h x.
    asked-good f n (c.allocate n) (over own t) cells refl h (λ l m. serves-good c e n own t cells _ l h x (w.allocate n own t cells l (in-order c e (over own t) cells w r law x))))

-- ---- at an alignment

serves-aligned : (c : Carving) (e : Rules) (n a : ℕ) (old : Own) (t : State) (cells : Cells) (r : After (Option Placed)) → 1 ≤ n → IsSettled (carving_rules c e) (over old t) cells → CarvingParts c e (over old t) cells
    → Serves (CarvesNewAt c old n a) n (over old t) cells r → IsAlignedGood (carving_rules c e) (over old t) cells n a r
serves-aligned c e n a old t cells r l h x (inl q) = subst (IsAlignedGood (carving_rules c e) (over old t) cells n a) (sym q) (refuse-aligned (carving_rules c e) n a (over old t) cells refl h)
serves-aligned c e n a old t cells r l h x (inr y) =
    subst (IsAlignedGood (carving_rules c e) (over old t) cells n a) (sym y.leaves) (record {
      good = new-good c e n y.place old y.own t cells l x y.fits.carves;
      aligned = λ k z. let v : placed (block y.place n) [] ≡ k = cc in subst (λ (k : Placed). IsMultiple k.block.place a) v y.fits.aligned;
    })

offered-aligned : (c : Carving) (e : Rules) (q : Bool) (n a : ℕ) (serve : Serve) (s : State) (cells : Cells) → is_open s ≡ true → IsSettled (carving_rules c e) s cells
    → (q ≡ true → 1 ≤ n → IsAlignedGood (carving_rules c e) s cells n a (serve s cells)) → IsAlignedGood (carving_rules c e) s cells n a (carve_aligned q n serve s cells)
offered-aligned c e true n a serve s cells o h g = asked-aligned (carving_rules c e) n a serve s cells o h (λ l m. g refl l)
offered-aligned c e false n a serve s cells o h g = refuse-aligned (carving_rules c e) n a s cells o h

carving-aligned_good : (c : Carving) (e : Rules) → Carves c e → IsRegular e → Aligning e → AlignedGood (carving_rules c e)
carving-aligned_good c e w r law n a s cells k most o h =
    let f = carving_rules c e in
    by-form c e (λ s. IsAlignedGood f s cells n a (f.aligned_allocate n a s cells)) s cells o h (λ own t h x.
    offered-aligned c e c.offers.aligned n a (c.aligned_allocate n a) (over own t) cells refl h
    (λ q l. serves-aligned c e n a own t cells _ l h x (w.aligned_allocate q n a own t cells l k (in-order c e (over own t) cells w r law x))))

-- ---- a block is given back

changes-freed : (c : Carving) (e : Rules) (b : Block) (old : Own) (t : State) (cells : Cells) (r : After Bool) → IsSettled (carving_rules c e) (over old t) cells → CarvingParts c e (over old t) cells
    → Changes (TakesBack c old b) (over old t) cells r → IsFreed (carving_rules c e) (over old t) cells b r
changes-freed c e b old t cells r h x (inl q) = subst (IsFreed (carving_rules c e) (over old t) cells b) (sym q) (unchanged (carving_rules c e) (over old t) cells b false refl h)
changes-freed c e b old t cells r h x (inr y) =
    let f = carving_rules c e in
    let was = λ (d : Block) (o : f.is_out d (over old t) cells ≡ true). (out-in c e d (over old t) cells o).1 in
    subst (IsFreed f (over old t) cells b) (sym y.leaves) (record {
      is_set = refl;
      settled = next-sound c e old y.own t cells x y.fits.order;
      extents = λ d o a. (y.fits.stays d (was d o) a.either).extent;
      routes = λ d o a. refl;
      stays = λ d o a. in-out c e d y.own t cells (was d o).some (y.fits.stays d (was d o) a.either).out;
      table = λ k. inl refl;
    })

carving-freed : (c : Carving) (e : Rules) → Carves c e → IsRegular e → Aligning e → Freeing (carving_rules c e)
carving-freed c e w r law b s cells o h =
    let f = carving_rules c e in
    by-form c e (λ s. f.is_out b s cells ≡ true → IsFreed f s cells b (f.deallocate b s cells)) s cells o h (λ own t h x v.
    changes-freed c e b own t cells _ h x (w.deallocate b own t cells (in-order c e (over own t) cells w r law x) (out-in c e b (over own t) cells v).1))

-- ---- a block grows

changes-grown : (c : Carving) (e : Rules) (delta : ℕ) (b : Block) (old : Own) (t : State) (cells : Cells) (r : After Bool) → IsSettled (carving_rules c e) (over old t) cells → CarvingParts c e (over old t) cells
    → (carving_rules c e).is_out b (over old t) cells ≡ true → Changes (GrowsThere c old b delta) (over old t) cells r → IsGrown (carving_rules c e) (over old t) cells b delta r
changes-grown c e delta b old t cells r h x v (inl q) = subst (IsGrown (carving_rules c e) (over old t) cells b delta) (sym q) (kept-short (carving_rules c e) (over old t) cells b delta refl h v)
changes-grown c e delta b old t cells r h x v (inr y) =
    let f = carving_rules c e in
    let was = λ (d : Block) (o : f.is_out d (over old t) cells ≡ true). (out-in c e d (over old t) cells o).1 in
    let some = (was b v).some in
    subst (IsGrown f (over old t) cells b delta) (sym y.leaves) (record {
      is_set = refl;
      settled = next-sound c e old y.own t cells x y.fits.order;
      extents = λ d o a. (y.fits.stays d (was d o) (a refl).either).extent;
      routes = λ d o a. refl;
      stays = λ d o a. in-out c e d y.own t cells (was d o).some (y.fits.stays d (was d o) (a refl).either).out;
      out = in-out c e (with_len b (b.len + delta)) y.own t cells (omega arith) y.fits.out;
      found = refl;
      fresh = λ d o a. record { either = y.fits.fresh d (was d o) a.either };
      table = takes-none f cells;
    })

carving-grown : (c : Carving) (e : Rules) → Carves c e → IsRegular e → Aligning e → Growing (carving_rules c e)
carving-grown c e w r law delta b s cells o h =
    let f = carving_rules c e in
    by-form c e (λ s. f.is_out b s cells ≡ true → IsGrown f s cells b delta (f.expand delta b s cells)) s cells o h (λ own t h x v.
    asked-grown f delta (c.expand delta) b (over own t) cells refl h v
    (λ l m. changes-grown c e delta b own t cells _ h x v (w.expand delta b own t cells (in-order c e (over own t) cells w r law x) (out-in c e b (over own t) cells v).1)))

-- ---- all blocks are taken back

carving-emptied : (c : Carving) (e : Rules) → Carves c e → IsRegular e → Aligning e → Emptying (carving_rules c e)
carving-emptied c e w r law s cells o h =
    let f = carving_rules c e in
    by-form c e (λ s. IsEmptied f cells (f.deallocate_all s cells)) s cells o h (λ own t h x.
    let k = w.deallocate_all own (in-order c e (over own t) cells w r law x) in
    record {
      is_set = refl;
      settled = next-sound c e own (c.all_deallocated own) t cells x k.order;
      none = λ b v. k.none b (out-in c e b (over (c.all_deallocated own) t) cells v).1;
      table = λ k. inl refl;
    })

-- ---- the family

pub carving-keeping : (c : Carving) (e : Rules) → Carves c e → IsRegular e → Aligning e → TakingLaws (carving_rules c e) → KeepingLaws (carving_rules c e)
carving-keeping c e w r law taking =
    let f = carving_rules c e in
    let some = λ (b : Block) (s : State) (cells : Cells) (o : f.is_out b s cells ≡ true). (out-in c e b s cells o).1.some in
    let good = carving-good c e w r law in
    let freed = carving-freed c e w r law in
    let grown = carving-grown c e w r law in
    record {
      out_some = some;
      out_open = λ b s cells o. (out-in c e b s cells o).0;
      good = good;
      freed = freed;
      grown = grown;
      emptied = carving-emptied c e w r law;
      reallocated = generally-reallocated f c.offers (record { some = some; takes = taking.allocate; gives = taking.deallocate_count; good = good; freed = freed; grown = grown });
      same_length = λ b s cells. asked-same _ _ b s cells;
      aligned = carving-aligned_good c e w r law;
      owned = λ b s cells h. same-told f s cells h;
    }
