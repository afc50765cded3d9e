-- Steps that the forms share: the guards of a request, and what an opening says of the steps before it.
use Rattle.std.proofs.Common.{◌≡◌, refl, sym, subst, ◌∙◌, ap, ℕ, suc, ◌≤◌, ◌<◌, ◌+◌, ◌-◌, inl, Bool, true, false, arith, List, Option, Some, None, Result, Ok, Err, nat_eq, nat_lt, nat_le}
use Rattle.std.proofs.lemmas.Bool.Decides.{nat_tests}
use Rattle.layer_rules.specs.declared.Block.{Block}
use Rattle.layer_rules.specs.Blocks.{end_of, is_apart, with_len}
use Rattle.layer_rules.specs.Expanding.{expanded_unless, asked_to_expand, change_if}
use Rattle.size_round.specs.Sizes.{limit}
use Rattle.space_core.specs.Cells.{Cells}
use Rattle.layer_rules.specs.State.{State, States, Own, open_with, one_child, child_and, is_open}
use Rattle.layer_rules.specs.After.{After, after, Placed, Serve, refuse, Opened, opened, Opening, Change}
use Rattle.layer_rules.specs.Allocating.{asked_for, served_unless}
use Rattle.layer_rules.specs.Setting.{then_open, then_members, within_limit, chunk_given, open_parent, open_chunk, open_group}
use Rattle.layer_rules.specs.Rules.{Rules, IsSettled, longer_if}
use Rattle.layer_laws.specs.Lawful.{IsGood, IsAlignedGood, KeepsTold, IsFreed, IsGrown, ChangesInside}
use Rattle.layer_laws.proofs.Tests.{takes-none}

pub refuse-good : (e : Rules) (n : ℕ) (s : State) (cells : Cells) → is_open s ≡ true → IsSettled e s cells → IsGood e s cells n (refuse s cells)
refuse-good e n s cells o h =
    record { is_set = o; settled = h; extents = λ b x. refl; routes = λ b x. refl; stays = λ b x. x; len = λ p q. absurd (cc); out = λ p q. absurd (cc); found = λ p q. absurd (cc); fresh = λ p q. absurd (cc) }

-- one request after another that was refused
pub good-then : (e : Rules) (n : ℕ) (s : State) (cells : Cells) (t : State) (c : Cells) (r : After (Option Placed)) → IsGood e s cells n (after None t c) → IsGood e t c n r → IsGood e s cells n r
good-then e n s cells t c r g k = record {
  is_set = k.is_set;
  settled = k.settled;
  extents = λ b o. k.extents b (g.stays b o) ∙ g.extents b o;
  routes = λ b o. k.routes b (g.stays b o) ∙ g.routes b o;
  stays = λ b o. k.stays b (g.stays b o);
  len = k.len;
  out = k.out;
  found = k.found;
  fresh = λ p q b o. k.fresh p q b (g.stays b o);
}

-- what holds of a refusal and of what is served holds of an answer
unless-by : (P : After (Option Placed) → Type 0) (n : ℕ) (serve : Serve) (s : State) (cells : Cells) (a b : Bool) → nat_eq n 0 ≡ a → nat_lt limit n ≡ b → P (refuse s cells) → (1 ≤ n → n ≤ limit → P (serve s cells)) → P (served_unless a b serve s cells)
unless-by P n serve s cells true b x y h g = h
unless-by P n serve s cells false true x y h g = h
unless-by P n serve s cells false false x y h g = g (grind (arith, nat_tests)) (grind (arith, nat_tests))

asked-by : (P : After (Option Placed) → Type 0) (n : ℕ) (serve : Serve) (s : State) (cells : Cells) → P (refuse s cells) → (1 ≤ n → n ≤ limit → P (serve s cells)) → P (asked_for n serve s cells)
asked-by P n serve s cells h g = unless-by P n serve s cells _ _ refl refl h g

pub asked-good : (e : Rules) (n : ℕ) (serve : Serve) (s : State) (cells : Cells) → is_open s ≡ true → IsSettled e s cells → (1 ≤ n → n ≤ limit → IsGood e s cells n (serve s cells)) → IsGood e s cells n (asked_for n serve s cells)
asked-good e n serve s cells o h g = asked-by (IsGood e s cells n) n serve s cells (refuse-good e n s cells o h) g

pub refuse-aligned : (e : Rules) (n a : ℕ) (s : State) (cells : Cells) → is_open s ≡ true → IsSettled e s cells → IsAlignedGood e s cells n a (refuse s cells)
refuse-aligned e n a s cells o h = record { good = refuse-good e n s cells o h; aligned = λ p q. absurd (cc) }

pub asked-aligned : (e : Rules) (n a : ℕ) (serve : Serve) (s : State) (cells : Cells) → is_open s ≡ true → IsSettled e s cells → (1 ≤ n → n ≤ limit → IsAlignedGood e s cells n a (serve s cells)) → IsAlignedGood e s cells n a (asked_for n serve s cells)
asked-aligned e n a serve s cells o h g = asked-by (IsAlignedGood e s cells n a) n serve s cells (refuse-aligned e n a s cells o h) g

-- ---- who owns a block

-- nothing changes
pub same-told : (e : Rules) (s : State) (cells : Cells) → IsSettled e s cells → KeepsTold e s s cells
same-told e s cells h = record { settled = h; holds = λ c. refl; extents = λ c. refl; routes = λ c o. refl; out = λ c. refl; clean = λ c bytes. refl; marked = λ c bytes. refl }

-- one question after another
pub told-then : (e : Rules) (s t u : State) (cells : Cells) → KeepsTold e s t cells → KeepsTold e t u cells → KeepsTold e s u cells
told-then e s t u cells h k = record {
  settled = k.settled;
  holds = λ c. k.holds c ∙ h.holds c;
  extents = λ c. k.extents c ∙ h.extents c;
  routes = λ c o. k.routes c (h.out c ∙ o) ∙ h.routes c o;
  out = λ c. k.out c ∙ h.out c;
  clean = λ c bytes. k.clean c bytes ∙ h.clean c bytes;
  marked = λ c bytes. k.marked c bytes ∙ h.marked c bytes;
}

pub unchanged : (e : Rules) (s : State) (cells : Cells) (b : Block) (x : Bool) → is_open s ≡ true → IsSettled e s cells → IsFreed e s cells b (after x s cells)
unchanged e s cells b x o h = record { is_set = o; settled = h; extents = λ c p a. refl; routes = λ c p a. refl; stays = λ c p a. p; table = λ c. inl refl }

pub inside-wider : (b c : Block) (old new : List ℕ) → c.place ≤ b.place → end_of b ≤ end_of c → ChangesInside b old new → ChangesInside c old new
inside-wider b c old new l m k = record { length_same = k.length_same; below = λ i x. k.below i (omega arith); above = λ i x. k.above i (omega arith) }

-- ---- a block grows

-- it is refused
pub kept-short : (e : Rules) (s : State) (cells : Cells) (b : Block) (delta : ℕ) → is_open s ≡ true → IsSettled e s cells → e.is_out b s cells ≡ true → IsGrown e s cells b delta (after false s cells)
kept-short e s cells b delta o h x = record { is_set = o; settled = h; extents = λ c p a. refl; routes = λ c p a. refl; stays = λ c p a. p; out = x; found = refl; fresh = λ c p a. a; table = takes-none e cells }

-- the block is seen as before from what serves it
pub kept-long : (e : Rules) (s : State) (cells : Cells) (b : Block) (delta : ℕ) → is_open s ≡ true → IsSettled e s cells → e.is_out (with_len b (b.len + delta)) s cells ≡ true
    → e.extent (with_len b (b.len + delta)) s ≡ e.extent b s → e.route (with_len b (b.len + delta)) s ≡ e.route b s → IsGrown e s cells b delta (after true s cells)
kept-long e s cells b delta o h x q z = record {
  is_set = o;
  settled = h;
  extents = λ c p a. refl;
  routes = λ c p a. refl;
  stays = λ c p a. p;
  out = x;
  found = z;
  fresh = λ c p a. record { either = subst (λ k. is_apart k (e.extent c s) ≡ true) (sym q) a.either };
  table = takes-none e cells;
}

pub by-nothing : (e : Rules) (s : State) (cells : Cells) (b : Block) (delta : ℕ) → nat_eq delta 0 ≡ true → is_open s ≡ true → IsSettled e s cells → e.is_out b s cells ≡ true → IsGrown e s cells b delta (after true s cells)
by-nothing e s cells b delta z o h x =
    let q : b.len + delta ≡ b.len = grind (arith, nat_tests) in
    let k : with_len b (b.len + delta) ≡ b = ap (with_len b) q in
    kept-long e s cells b delta o h (subst (λ c. e.is_out c s cells ≡ true) (sym k) x) (ap (λ c. e.extent c s) k) (ap (λ c. e.route c s) k)

unless-grown : (e : Rules) (delta : ℕ) (change : Change) (b : Block) (s : State) (cells : Cells) (p q : Bool) → nat_eq delta 0 ≡ p → nat_lt limit (b.len + delta) ≡ q → is_open s ≡ true → IsSettled e s cells → e.is_out b s cells ≡ true
    → (1 ≤ delta → b.len + delta ≤ limit → IsGrown e s cells b delta (change b s cells)) → IsGrown e s cells b delta (expanded_unless p q change b s cells)
unless-grown e delta change b s cells true q y z o h x g = by-nothing e s cells b delta y o h x
unless-grown e delta change b s cells false true y z o h x g = kept-short e s cells b delta o h x
unless-grown e delta change b s cells false false y z o h x g = g (grind (arith, nat_tests)) (grind (arith, nat_tests))

pub asked-grown : (e : Rules) (delta : ℕ) (change : Change) (b : Block) (s : State) (cells : Cells) → is_open s ≡ true → IsSettled e s cells → e.is_out b s cells ≡ true
    → (1 ≤ delta → b.len + delta ≤ limit → IsGrown e s cells b delta (change b s cells)) → IsGrown e s cells b delta (asked_to_expand delta change b s cells)
asked-grown e delta change b s cells o h x g = unless-grown e delta change b s cells _ _ refl refl o h x g

-- a call that is made only where it is offered
pub offered-grown : (e : Rules) (q : Bool) (change : Change) (d : ℕ) (b : Block) (t : State) (cells : Cells) → is_open t ≡ true → IsSettled e t cells → e.is_out b t cells ≡ true → IsGrown e t cells b d (change b t cells) → IsGrown e t cells b d (change_if q change b t cells)
offered-grown e true change d b t cells o h x g = g
offered-grown e false change d b t cells o h x g = kept-short e t cells b d o h x

pub longer-some : (q : Bool) (delta : ℕ) (b : Block) → 1 ≤ b.len → 1 ≤ (longer_if q delta b).len
longer-some true delta b h = omega arith
longer-some false delta b h = h

-- a block that is handed down as it is grows there by as much
pub as-long : (b : Block) (delta : ℕ) → with_len b (b.len + delta) ≡ with_len b (b.len + (b.len + delta - b.len))
as-long b delta = let q : b.len + delta ≡ b.len + (b.len + delta - b.len) = omega arith in ap (with_len b) q

-- ---- what an answer says of the steps before it

within-case : (x : Opening) (o : Opened) (b : Bool) → elim b as (λ _. Opening) [ true ↦ x | false ↦ Err 0 ] ≡ Ok o → (b ≡ true) × (x ≡ Ok o)
within-case x o true e = (refl, e)
within-case x o false e = absurd (cc)

pub within-ok : (size : ℕ) (x : Opening) (o : Opened) → within_limit size x ≡ Ok o → (size ≤ limit) × (x ≡ Ok o)
within-ok size x o e = let r = within-case x o (nat_le size limit) e in let q = r.0 in (grind (arith, nat_tests), r.1)

pub then-ok : (node : ℕ) (x : Opening) (next : Opened → Opening) (o : Opened) → then_open node x next ≡ Ok o → (p : Opened) × (x ≡ Ok p) × (next p ≡ Ok o)
then-ok node (Err k) next o e = absurd (cc)
then-ok node (Ok p) next o e = (p, refl, e)

pub parent-ok : (own : Own) (x : Opening) (o : Opened) → open_parent own x ≡ Ok o → (p : Opened) × (x ≡ Ok p) × (opened (open_with own (one_child p.state)) p.cells ≡ o)
parent-ok own (Err k) o e = absurd (cc)
parent-ok own (Ok p) o e = let q : opened (open_with own (one_child p.state)) p.cells ≡ o = cc in (p, refl, q)

chunk-case : (own : Block → Own) (a : Option Placed) (s : State) (cells : Cells) (o : Opened) → chunk_given own (after a s cells) ≡ Ok o → (p : Placed) × (a ≡ Some p) × (opened (open_with (own p.block) (one_child s)) cells ≡ o)
chunk-case own None s cells o e = absurd (cc)
chunk-case own (Some p) s cells o e = let q : opened (open_with (own p.block) (one_child s)) cells ≡ o = cc in (p, refl, q)

pub chunk-ok : (own : Block → Own) (r : After (Option Placed)) (o : Opened) → chunk_given own r ≡ Ok o → (p : Placed) × (r.answer ≡ Some p) × (opened (open_with (own p.block) (one_child r.state)) r.cells ≡ o)
chunk-ok own r o e = chunk-case own r.answer r.state r.cells o e

-- ---- a refusal names a node

within-refuses : (x : Opening) (k n : ℕ) (b : Bool) → 0 < n → (x ≡ Err k → k < n) → elim b as (λ _. Opening) [ true ↦ x | false ↦ Err 0 ] ≡ Err k → k < n
within-refuses x k n true h f e = f e
within-refuses x k n false h f e = let z : 0 ≡ k = cc in omega arith

then-refuses : (x : Opening) (next : Opened → Opening) (node k n : ℕ) → ((j : ℕ) → x ≡ Err j → node + j < n) → ((o : Opened) → next o ≡ Err k → k < n) → then_open node x next ≡ Err k → k < n
then-refuses (Err j) next node k n f g e = let z : node + j ≡ k = cc in let w = f j refl in omega arith
then-refuses (Ok o) next node k n f g e = g o e

given-refuses : (own : Block → Own) (r : After (Option Placed)) (k n : ℕ) (o : Option Placed) → 0 < n → elim o as (λ _. Opening) [ None ↦ Err 0 | Some p ↦ Ok (opened (open_with (own p.block) (one_child r.state)) r.cells) ] ≡ Err k → k < n
given-refuses own r k n None h e = let z : 0 ≡ k = cc in omega arith
given-refuses own r k n (Some p) h e = absurd (cc)

pub chunk-refuses : (size : ℕ) (own : Block → Own) (parent : Opening) (serve : Serve) (k n : ℕ) → ((j : ℕ) → parent ≡ Err j → j < n) → open_chunk size own parent serve ≡ Err k → k < n + 1
chunk-refuses size own parent serve k n f e =
    within-refuses _ k (n + 1) (nat_le size limit) (omega arith)
    (then-refuses parent _ 1 k (n + 1) (λ j q. let w = f j q in omega arith) (λ o. given-refuses own (serve o.state o.cells) k (n + 1) (serve o.state o.cells).answer (omega arith))) e

pub parent-refuses : (own : Own) (parent : Opening) (k n : ℕ) → ((j : ℕ) → parent ≡ Err j → j < n) → open_parent own parent ≡ Err k → k < n + 1
parent-refuses own parent k n f e = then-refuses parent _ 1 k (n + 1) (λ j q. let w = f j q in omega arith) (λ o q. absurd (cc)) e

pub group-refuses : (own : Own) (x : Result (States × Cells) ℕ) (k : ℕ) → open_group own x ≡ Err k → x ≡ Err k
group-refuses own (Err j) k e = let z : j ≡ k = cc in ap Err z
group-refuses own (Ok p) k e = absurd (cc)

rest-refuses : (o : Opened) (x : Result (States × Cells) ℕ) (k : ℕ) → elim x as (λ _. Result (States × Cells) ℕ) [ Err k ↦ Err k | Ok p ↦ Ok (child_and o.state p.0, p.1) ] ≡ Err k → x ≡ Err k
rest-refuses o (Err j) k e = e
rest-refuses o (Ok p) k e = absurd (cc)

pub members-refuses : (node : ℕ) (x : Opening) (rest : Cells → Result (States × Cells) ℕ) (k n : ℕ) → ((j : ℕ) → x ≡ Err j → node + j < n) → ((c : Cells) → rest c ≡ Err k → k < n) → then_members node x rest ≡ Err k → k < n
members-refuses node (Err j) rest k n f g e = let z : node + j ≡ k = cc in let w = f j refl in omega arith
members-refuses node (Ok o) rest k n f g e = g o.cells (rest-refuses o (rest o.cells) k e)

-- one more
pub one-more : (n most : ℕ) → n + 1 ≤ most → suc n ≤ most
one-more n most h = omega arith
