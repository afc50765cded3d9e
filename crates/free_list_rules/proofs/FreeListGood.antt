-- A request of a free list, served from the cache or by the parent.
use Rattle.size_round.specs.Sizes.{is_between}
use Rattle.std.proofs.Common.{◌≡◌, refl, sym, ap, subst, ◌∙◌, ℕ, ◌≤◌, Bool, true, false, arith, List, [], ◌∷◌, Option, Some, option_map}
use Rattle.space_core.specs.Cells.{Cells}
use Rattle.layer_rules.specs.declared.Block.{Block}
use Rattle.layer_rules.specs.Blocks.{block, is_apart}
use Rattle.layer_rules.specs.State.{State, cache_own, open_with, one_child, is_open, child, cached_of}
use Rattle.layer_rules.specs.After.{After, after, placed, Placed, from_child}
use Rattle.layer_rules.specs.Allocating.{truncated}
use Rattle.layer_rules.specs.Rules.{Rules, IsSettled, AreApart}
use Rattle.layer_laws.proofs.Apart.{apart-flip}
use Rattle.layer_laws.proofs.Children.{IsShown, shown-of}
use Rattle.layer_laws.specs.Lawful.{IsGood, Good}
use Rattle.layer_laws.proofs.Steps.{asked-good}
use Rattle.free_list_rules.specs.FreeListRules.{cache_down, cache_allocate, free_list_rules}
use Rattle.free_list_rules.specs.FreeListMeanings.{ApartFrom, AllOut, IsSoundCache}
use Rattle.free_list_rules.proofs.CacheParts.{cache-settles, cache-opened, out-free_list, free_list-out, same-out, apart-from-moved, all-apart-moved, cached-size, all-out-moved}

-- ---- a block of the parent

-- a block of m bytes is shown with n, and is handed down as it was
pub record FitsDown (down shown : Block → Block) (m n : ℕ) : Type 0 where
  pub same : (b : Block) → b.len ≡ m → down (shown b) ≡ b
  pub len : (b : Block) → b.len ≡ m → (shown b).len ≡ n

truncated-fits : (down : Block → Block) (n m : ℕ) → ((p : ℕ) → down (block p n) ≡ block p m) → FitsDown down (truncated n) m n
truncated-fits down n m h = record { same = λ b e. h b.place ∙ ap (block b.place) (sym e); len = λ b e. refl }

-- ---- a request

fresh-from : (e : Rules) (s : State) (cells : Cells) (n m : ℕ) (r : After (Option Placed)) (q : Placed) (ps : List ℕ) → IsGood e s cells n r → r.answer ≡ Some q → AllOut e s cells m ps → ApartFrom e r.state m q.block ps
fresh-from e s cells n m r q [] g z a = tt
fresh-from e s cells n m r q (p ∷ ps) g z a = (g.fresh q z (block p m) a.0, fresh-from e s cells n m r q ps g z a.1)

over-good : (least greatest : ℕ) (e : Rules) (shown : Block → Block) (ps : List ℕ) (t : State) (cells : Cells) (n m : ℕ) (r : After (Option Placed)) → FitsDown (cache_down least greatest) shown m n → 1 ≤ n
    → IsSoundCache greatest e (open_with (cache_own ps) (one_child t)) cells → IsGood e t cells m r
    → IsGood (free_list_rules least greatest e) (open_with (cache_own ps) (one_child t)) cells n (after (option_map (from_child shown 0) r.answer) (open_with (cache_own ps) (one_child r.state)) r.cells)
unfolding free_list_rules
over-good least greatest e shown ps t cells n m r fit l h g =
    let f = free_list_rules least greatest e in
    let down = cache_down least greatest in
    let old = open_with (cache_own ps) (one_child t) in
    let new = open_with (cache_own ps) (one_child r.state) in
    let same = same-out e t r.state cells greatest ps g.extents h.out in
    let seen = λ (q : Placed) (x : IsShown 0 shown r.answer q). let y : down q.block ≡ x.below.block = ap down x.block ∙ fit.same x.below.block (g.len x.below x.answered) in y in
    record {
      is_set = refl;
      settled = cache-settles greatest e ps r.state r.cells g.is_set (all-out-moved e t r.state cells r.cells greatest ps g.stays h.out) (all-apart-moved e t r.state greatest ps same h.apart) g.settled;
      extents = λ b o. g.extents (down b) (out-free_list least greatest e b old cells o).below;
      routes = λ b o. ap (λ r. 0 ∷ r) (g.routes (down b) (out-free_list least greatest e b old cells o).below);
      stays = λ b o. let x = out-free_list least greatest e b old cells o in free_list-out least greatest e b new r.cells (record { is_set = refl; some = x.some; below = g.stays (down b) x.below; apart = apart-from-moved e t r.state greatest (down b) ps (g.extents (down b) x.below) same x.apart });
      len = λ q z. let x = shown-of 0 shown r.answer q z in ap (λ (b : Block). b.len) x.block ∙ fit.len x.below.block (g.len x.below x.answered);
      out = λ q z.
          let x = shown-of 0 shown r.answer q z in
          let k : q.block.len ≡ n = ap (λ (b : Block). b.len) x.block ∙ fit.len x.below.block (g.len x.below x.answered) in
          free_list-out least greatest e q.block new r.cells (record {
            is_set = refl;
            some = omega arith;
            below = rw (seen q x) (g.out x.below x.answered);
            apart = subst (λ b. ApartFrom e r.state greatest b ps) (sym (seen q x)) (fresh-from e t cells m greatest r x.below ps g x.answered h.out);
          });
      found = λ q z.
          let x = shown-of 0 shown r.answer q z in
          ap (λ (b : Block). 0 ∷ e.route b r.state) (seen q x) ∙ (ap (λ k. 0 ∷ k) (g.found x.below x.answered) ∙ sym x.route);
      fresh = λ q z b o.
          let x = shown-of 0 shown r.answer q z in
          let y = g.fresh x.below x.answered (down b) (out-free_list least greatest e b old cells o).below in
          record { either = subst (λ c. is_apart (e.extent c r.state) (e.extent (down b) r.state) ≡ true) (sym (seen q x)) y.either };
    }

front-good : (least greatest : ℕ) (e : Rules) (p : ℕ) (ps : List ℕ) (way : List ℕ) (t : State) (cells : Cells) (n : ℕ) → 1 ≤ n → is_between least greatest n ≡ true → way ≡ 0 ∷ e.route (block p greatest) t
    → IsSoundCache greatest e (open_with (cache_own (p ∷ ps)) (one_child t)) cells
    → IsGood (free_list_rules least greatest e) (open_with (cache_own (p ∷ ps)) (one_child t)) cells n (after (Some (placed (block p n) way)) (open_with (cache_own ps) (one_child t)) cells)
unfolding free_list_rules
front-good least greatest e p ps way t cells n l i at_way h =
    let f = free_list_rules least greatest e in
    let down = cache_down least greatest in
    let old = open_with (cache_own (p ∷ ps)) (one_child t) in
    let new = open_with (cache_own ps) (one_child t) in
    let d : down (block p n) ≡ block p greatest = cached-size least greatest n i p in
    record {
      is_set = refl;
      settled = cache-settles greatest e ps t cells h.parent h.out.1 h.apart.1 h.below;
      extents = λ b o. refl;
      routes = λ b o. refl;
      stays = λ b o. let x = out-free_list least greatest e b old cells o in free_list-out least greatest e b new cells (record { is_set = refl; some = x.some; below = x.below; apart = x.apart.1 });
      len = λ q z. let y : placed (block p n) way ≡ q = cc in sym (ap (λ (q : Placed). q.block.len) y);
      out = λ q z. let y : placed (block p n) way ≡ q = cc in subst (λ (q : Placed). f.is_out q.block new cells ≡ true) y
          (free_list-out least greatest e (block p n) new cells (record { is_set = refl; some = l; below = subst (λ b. e.is_out b t cells ≡ true) (sym d) h.out.0; apart = subst (λ b. ApartFrom e t greatest b ps) (sym d) h.apart.0 }));
      found = λ q z. let y : placed (block p n) way ≡ q = cc in subst (λ (q : Placed). f.route q.block new ≡ q.route) y (ap (λ c. 0 ∷ e.route c t) d ∙ sym at_way);
      fresh = λ q z b o. let y : placed (block p n) way ≡ q = cc in subst (λ (q : Placed). AreApart f new q.block b) y
          (let x = out-free_list least greatest e b old cells o in
          let a = apart-flip e t (down b) (block p greatest) x.apart.0 in
          record { either = subst (λ c. is_apart (e.extent c t) (e.extent (down b) t) ≡ true) (sym d) a.either });
    }

cache-case : (least greatest : ℕ) (e : Rules) (ps : List ℕ) (t : State) (cells : Cells) (n : ℕ) (b : Bool) (route_of : State → ℕ → List ℕ) → is_between least greatest n ≡ b → 1 ≤ n → IsSoundCache greatest e (open_with (cache_own ps) (one_child t)) cells
    → ((p : ℕ) → route_of (open_with (cache_own ps) (one_child t)) p ≡ e.route (block p greatest) t)
    → IsGood e t cells greatest (e.allocate greatest t cells) → IsGood e t cells n (e.allocate n t cells)
    → IsGood (free_list_rules least greatest e) (open_with (cache_own ps) (one_child t)) cells n (cache_allocate b n route_of (e.allocate greatest) (e.allocate n) (open_with (cache_own ps) (one_child t)) cells)
cache-case least greatest e [] t cells n true way i l h w g k = over-good least greatest e (truncated n) [] t cells n greatest (e.allocate greatest t cells) (truncated-fits (cache_down least greatest) n greatest (cached-size least greatest n i)) l h g
cache-case least greatest e (p ∷ ps) t cells n true way i l h w g k = front-good least greatest e p ps _ t cells n l i (ap (λ r. 0 ∷ r) (w p)) h
cache-case least greatest e ps t cells n false way i l h w g k =
    over-good least greatest e (λ b. b) ps t cells n n (e.allocate n t cells) (record { same = λ b q. rw (ap (λ m. is_between least greatest m) q ∙ i) (refl); len = λ b q. q }) l h k

pub free_list-good : (least greatest : ℕ) (e : Rules) → Good e → Good (free_list_rules least greatest e)
unfolding free_list_rules
free_list-good least greatest e law n s cells o h =
    let f = free_list_rules least greatest e in
    let x = cache-opened least greatest e s cells o h in
    subst (λ s. is_open s ≡ true → IsSettled f s cells → IsSoundCache greatest e s cells → IsGood f s cells n (f.allocate n s cells)) (sym x.form)
    (λ o h x. asked-good f n _ _ cells o h (λ l m. cache-case least greatest e (cached_of s) (child s 0) cells n _ _ refl l x (λ p. refl) (law greatest (child s 0) cells x.parent x.below) (law n (child s 0) cells x.parent x.below))) o h x
