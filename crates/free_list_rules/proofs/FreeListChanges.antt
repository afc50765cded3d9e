-- Blocks of a free list that come back, grow, or come back all.
use Rattle.size_round.specs.Sizes.{is_between}
use Rattle.std.proofs.Common.{◌≡◌, refl, sym, ap, subst, ℕ, ◌≤◌, ◌+◌, ◌-◌, inl, Bool, true, false, arith, List, [], ◌∷◌, nat_eq, ◌∙◌}
use Rattle.std.proofs.lemmas.Bool.Decides.{nat_tests}
use Rattle.space_core.specs.Cells.{Cells}
use Rattle.layer_rules.specs.declared.Block.{Block}
use Rattle.layer_rules.specs.Blocks.{block, with_len, is_apart}
use Rattle.layer_rules.specs.State.{State, cache_own, open_with, one_child, is_open, child, cached_of}
use Rattle.layer_rules.specs.After.{After, after, change_child}
use Rattle.layer_rules.specs.Expanding.{expand_lack}
use Rattle.layer_rules.specs.Rules.{Rules, IsSettled, AreApart, longer_if}
use Rattle.layer_laws.proofs.Apart.{apart-flip}
use Rattle.layer_laws.specs.Lawful.{IsFreed, Freeing, IsGrown, Growing, IsEmptied, Emptying}
use Rattle.layer_laws.proofs.Steps.{kept-long, asked-grown, longer-some}
use Rattle.free_list_rules.specs.FreeListRules.{cache_size, cache_down, free_list_rules}
use Rattle.free_list_rules.specs.FreeListMeanings.{ApartFrom, AllOut, IsSoundCache, IsOutCache}
use Rattle.free_list_rules.proofs.CacheParts.{cache-settles, cache-opened, out-free_list, free_list-out, same-apart, apart-from-moved, all-apart-moved, cached-size, uncached-size}

-- ---- a block is given back

all-left : (e : Rules) (s : State) (cells : Cells) (b : Block) (m : ℕ) (r : After Bool) (ps : List ℕ) → IsFreed e s cells b r → AllOut e s cells m ps → ApartFrom e s m b ps → AllOut e r.state r.cells m ps
all-left e s cells b m r [] g a f = tt
all-left e s cells b m r (p ∷ ps) g a f = (g.stays (block p m) a.0 f.0, all-left e s cells b m r ps g a.1 f.1)

uncached-freed : (least greatest : ℕ) (e : Rules) (ps : List ℕ) (t : State) (cells : Cells) (b : Block) (r : After Bool) → cache_down least greatest b ≡ b → IsSoundCache greatest e (open_with (cache_own ps) (one_child t)) cells → IsOutCache least greatest e b (open_with (cache_own ps) (one_child t)) cells
    → IsFreed e t cells b r → IsFreed (free_list_rules least greatest e) (open_with (cache_own ps) (one_child t)) cells b (after r.answer (open_with (cache_own ps) (one_child r.state)) r.cells)
unfolding free_list_rules
uncached-freed least greatest e ps t cells b r d h x g =
    let old = open_with (cache_own ps) (one_child t) in
    let new = open_with (cache_own ps) (one_child r.state) in
    let far : ApartFrom e t greatest b ps = subst (λ k. ApartFrom e t greatest k ps) d x.apart in
    let same = same-apart e t r.state cells greatest b ps g.extents h.out far in
    let apart_below = λ (c : Block) (a : AreApart (free_list_rules least greatest e) old b c).
    let z : AreApart e t b (cache_down least greatest c) = record { either = subst (λ k. is_apart (e.extent k t) (e.extent (cache_down least greatest c) t) ≡ true) d a.either } in z in
    record {
      is_set = refl;
      settled = cache-settles greatest e ps r.state r.cells g.is_set (all-left e t cells b greatest r ps g h.out far) (all-apart-moved e t r.state greatest ps same h.apart) g.settled;
      extents = λ c o a. g.extents (cache_down least greatest c) (out-free_list least greatest e c old cells o).below (apart_below c a);
      routes = λ c o a. ap (λ r. 0 ∷ r) (g.routes (cache_down least greatest c) (out-free_list least greatest e c old cells o).below (apart_below c a));
      stays = λ c o a.
          let y = out-free_list least greatest e c old cells o in
          free_list-out least greatest e c new r.cells (record { is_set = refl; some = y.some; below = g.stays (cache_down least greatest c) y.below (apart_below c a); apart = apart-from-moved e t r.state greatest (cache_down least greatest c) ps (g.extents (cache_down least greatest c) y.below (apart_below c a)) same y.apart });
      table = λ c. g.table c;
    }

cached-freed : (least greatest : ℕ) (e : Rules) (ps : List ℕ) (t : State) (cells : Cells) (b : Block) → cache_down least greatest b ≡ block b.place greatest → IsSoundCache greatest e (open_with (cache_own ps) (one_child t)) cells → IsOutCache least greatest e b (open_with (cache_own ps) (one_child t)) cells
    → IsFreed (free_list_rules least greatest e) (open_with (cache_own ps) (one_child t)) cells b (after true (open_with (cache_own (b.place ∷ ps)) (one_child t)) cells)
unfolding free_list_rules
cached-freed least greatest e ps t cells b d h x =
    let old = open_with (cache_own ps) (one_child t) in
    let new = open_with (cache_own (b.place ∷ ps)) (one_child t) in
    let c = block b.place greatest in
    let far : ApartFrom e t greatest c ps = subst (λ k. ApartFrom e t greatest k ps) d x.apart in
    record {
      is_set = refl;
      settled = cache-settles greatest e (b.place ∷ ps) t cells h.parent (subst (λ k. e.is_out k t cells ≡ true) d x.below, h.out) (far, h.apart) h.below;
      extents = λ c o a. refl;
      routes = λ c o a. refl;
      stays = λ k o a.
          let y = out-free_list least greatest e k old cells o in
          let kd = cache_down least greatest k in
          let z : AreApart e t c kd = record { either = subst (λ q. is_apart (e.extent q t) (e.extent kd t) ≡ true) d a.either } in
          free_list-out least greatest e k new cells (record { is_set = refl; some = y.some; below = y.below; apart = (apart-flip e t c kd z, y.apart) });
      table = λ c. inl refl;
    }

given-case : (least greatest : ℕ) (e : Rules) (ps : List ℕ) (t : State) (cells : Cells) (b : Block) (q : Bool) → is_between least greatest b.len ≡ q → Freeing e → IsSoundCache greatest e (open_with (cache_own ps) (one_child t)) cells → IsOutCache least greatest e b (open_with (cache_own ps) (one_child t)) cells
    → IsFreed (free_list_rules least greatest e) (open_with (cache_own ps) (one_child t)) cells b (elim q as (λ _. After Bool) [ true ↦ after true (open_with (cache_own (b.place ∷ ps)) (one_child t)) cells | false ↦ change_child 0 e.deallocate b (open_with (cache_own ps) (one_child t)) cells ])
given-case least greatest e ps t cells b true q law h x = cached-freed least greatest e ps t cells b (cached-size least greatest b.len q b.place) h x
given-case least greatest e ps t cells b false q law h x =
    let d : cache_down least greatest b ≡ b = uncached-size least greatest b.len q b.place in
    uncached-freed least greatest e ps t cells b (e.deallocate b t cells) d h x (law b t cells h.parent h.below (subst (λ k. e.is_out k t cells ≡ true) d x.below))

pub free_list-freed : (least greatest : ℕ) (e : Rules) → Freeing e → Freeing (free_list_rules least greatest e)
unfolding free_list_rules
free_list-freed least greatest e law b s cells o h x =
    let f = free_list_rules least greatest e in
    let y = cache-opened least greatest e s cells o h in
    subst (λ s. IsSoundCache greatest e s cells → f.is_out b s cells ≡ true → IsFreed f s cells b (f.deallocate b s cells)) (sym y.form)
    (λ y x. given-case least greatest e (cached_of s) (child s 0) cells b _ refl law y (out-free_list least greatest e b _ cells x)) y x

-- ---- a block grows

all-beside : (e : Rules) (s : State) (cells : Cells) (b : Block) (d m : ℕ) (r : After Bool) (ps : List ℕ) → IsGrown e s cells b d r → AllOut e s cells m ps → ApartFrom e s m b ps → AllOut e r.state r.cells m ps
all-beside e s cells b d m r [] g a f = tt
all-beside e s cells b d m r (p ∷ ps) g a f = (g.stays (block p m) a.0 (λ q. f.0), all-beside e s cells b d m r ps g a.1 f.1)

apart-still : (e : Rules) (s : State) (cells : Cells) (b : Block) (d m : ℕ) (r : After Bool) (ps : List ℕ) → IsGrown e s cells b d r → AllOut e s cells m ps → ApartFrom e s m b ps → ApartFrom e r.state m (longer_if r.answer d b) ps
apart-still e s cells b d m r [] g a f = tt
apart-still e s cells b d m r (p ∷ ps) g a f = (g.fresh (block p m) a.0 f.0, apart-still e s cells b d m r ps g a.1 f.1)

pub cache-size-rises : (least greatest m n : ℕ) → m ≤ n → cache_size least greatest m ≤ cache_size least greatest n
cache-size-rises least greatest m n h = grind (arith, nat_tests)

pub cache-lacks : (least greatest : ℕ) (q : Bool) (delta : ℕ) (b : Block) → cache_size least greatest b.len ≤ cache_size least greatest (b.len + delta)
    → cache_down least greatest (longer_if q delta b) ≡ longer_if q (cache_size least greatest (b.len + delta) - cache_size least greatest b.len) (cache_down least greatest b)
cache-lacks least greatest true delta b l =
    ap (block b.place) (let k : cache_size least greatest (b.len + delta) ≡ cache_size least greatest b.len + (cache_size least greatest (b.len + delta) - cache_size least greatest b.len) = omega arith in k)
cache-lacks least greatest false delta b l = refl

cache-expanded : (least greatest : ℕ) (e : Rules) (ps : List ℕ) (t : State) (cells : Cells) (b : Block) (delta d : ℕ) (r : After Bool) → cache_down least greatest (longer_if r.answer delta b) ≡ longer_if r.answer d (cache_down least greatest b)
    → IsSoundCache greatest e (open_with (cache_own ps) (one_child t)) cells → IsOutCache least greatest e b (open_with (cache_own ps) (one_child t)) cells → IsGrown e t cells (cache_down least greatest b) d r
    → IsGrown (free_list_rules least greatest e) (open_with (cache_own ps) (one_child t)) cells b delta (after r.answer (open_with (cache_own ps) (one_child r.state)) r.cells)
unfolding free_list_rules
cache-expanded least greatest e ps t cells b delta d r same h x g =
    let down = cache_down least greatest in
    let old = open_with (cache_own ps) (one_child t) in
    let new = open_with (cache_own ps) (one_child r.state) in
    let move = same-apart e t r.state cells greatest (down b) ps (λ c o a. g.extents c o (λ q. a)) h.out x.apart in
    let grown = longer_if r.answer delta b in
    record {
      is_set = refl;
      settled = cache-settles greatest e ps r.state r.cells g.is_set (all-beside e t cells (down b) d greatest r ps g h.out x.apart) (all-apart-moved e t r.state greatest ps move h.apart) g.settled;
      extents = λ c p a. g.extents (down c) (out-free_list least greatest e c old cells p).below (λ q. record { either = (a q).either });
      routes = λ c p a. ap (λ r. 0 ∷ r) (g.routes (down c) (out-free_list least greatest e c old cells p).below (λ q. record { either = (a q).either }));
      stays = λ c p a.
          let y = out-free_list least greatest e c old cells p in
          free_list-out least greatest e c new r.cells (record { is_set = refl; some = y.some; below = g.stays (down c) y.below (λ q. record { either = (a q).either }); apart = apart-from-moved e t r.state greatest (down c) ps (g.extents (down c) y.below (λ q. record { either = (a q).either })) move y.apart });
      out = free_list-out least greatest e grown new r.cells (record {
        is_set = refl;
        some = longer-some r.answer delta b x.some;
        below = subst (λ k. e.is_out k r.state r.cells ≡ true) (sym same) g.out;
        apart = subst (λ k. ApartFrom e r.state greatest k ps) (sym same) (apart-still e t cells (down b) d greatest r ps g h.out x.apart);
      });
      found = ap (λ r. 0 ∷ r) (ap (λ k. e.route k r.state) same ∙ g.found);
      fresh = λ c p a.
          let y = out-free_list least greatest e c old cells p in
          let z = g.fresh (down c) y.below (record { either = a.either }) in
          record { either = subst (λ k. is_apart (e.extent k r.state) (e.extent (down c) r.state) ≡ true) (sym same) z.either };
      table = record { count = g.table.count; each = λ k. g.table.each k };
    }

cache-expand-case : (least greatest : ℕ) (e : Rules) (ps : List ℕ) (t : State) (cells : Cells) (b : Block) (delta : ℕ) (q : Bool) → nat_eq (cache_size least greatest b.len) (cache_size least greatest (b.len + delta)) ≡ q → Growing e
    → IsSoundCache greatest e (open_with (cache_own ps) (one_child t)) cells → IsSettled (free_list_rules least greatest e) (open_with (cache_own ps) (one_child t)) cells → IsOutCache least greatest e b (open_with (cache_own ps) (one_child t)) cells
    → IsGrown (free_list_rules least greatest e) (open_with (cache_own ps) (one_child t)) cells b delta
    (expand_lack q (e.expand (cache_size least greatest (b.len + delta) - cache_size least greatest b.len)) (cache_down least greatest b) (open_with (cache_own ps) (one_child t)) cells)
unfolding free_list_rules
cache-expand-case least greatest e ps t cells b delta true q law h k x =
    let old = open_with (cache_own ps) (one_child t) in
    let c = with_len b (b.len + delta) in
    let n : cache_size least greatest (b.len + delta) ≡ cache_size least greatest b.len = grind (arith, nat_tests) in
    let same : cache_down least greatest c ≡ cache_down least greatest b = ap (block b.place) n in
    kept-long (free_list_rules least greatest e) old cells b delta refl k
    (free_list-out least greatest e c old cells (record {
      is_set = refl;
      some = omega (arith, x.some);
      below = subst (λ k. e.is_out k t cells ≡ true) (sym same) x.below;
      apart = subst (λ k. ApartFrom e t greatest k ps) (sym same) x.apart;
    })) (ap (λ k. e.extent k t) same) (ap (λ k. 0 ∷ e.route k t) same)
cache-expand-case least greatest e ps t cells b delta false q law h k x =
    let d = cache_size least greatest (b.len + delta) - cache_size least greatest b.len in
    let c = cache_down least greatest b in
    let r = e.expand d c t cells in
    cache-expanded least greatest e ps t cells b delta d r (cache-lacks least greatest r.answer delta b (cache-size-rises least greatest b.len (b.len + delta) (omega arith))) h x (law d c t cells h.parent h.below x.below)

pub free_list-grown : (least greatest : ℕ) (e : Rules) → Growing e → Growing (free_list_rules least greatest e)
unfolding free_list_rules
free_list-grown least greatest e law delta b s cells o h x =
    let f = free_list_rules least greatest e in
    let y = cache-opened least greatest e s cells o h in
    subst (λ s. IsSettled f s cells → is_open s ≡ true → IsSoundCache greatest e s cells → f.is_out b s cells ≡ true → IsGrown f s cells b delta (f.expand delta b s cells)) (sym y.form)
    (λ h o y x. asked-grown f delta _ b _ cells o h x (λ l m. cache-expand-case least greatest e (cached_of s) (child s 0) cells b delta _ refl law y h (out-free_list least greatest e b (open_with (cache_own (cached_of s)) (one_child (child s 0))) cells x))) h o y x

pub free_list-emptied : (least greatest : ℕ) (e : Rules) → Emptying e → Emptying (free_list_rules least greatest e)
unfolding free_list_rules
free_list-emptied least greatest e law s cells o h =
    let f = free_list_rules least greatest e in
    let y = cache-opened least greatest e s cells o h in
    let g = law (child s 0) cells y.parent y.below in
    let r = e.deallocate_all (child s 0) cells in
    subst (λ s. IsEmptied f cells (f.deallocate_all s cells)) (sym y.form)
    (record {
      is_set = refl;
      settled = cache-settles greatest e [] r.state r.cells g.is_set tt tt g.settled;
      none = λ b x. g.none (cache_down least greatest b) (out-free_list least greatest e b (open_with (cache_own []) (one_child r.state)) r.cells x).below;
      table = λ c. g.table c;
    })
