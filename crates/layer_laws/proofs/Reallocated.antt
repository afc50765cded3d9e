-- What reallocating keeps and gives: the guards, and the general form over any rules.
use Rattle.std.proofs.Common.{◌≡◌, refl, sym, ap, subst, ◌∙◌, ℕ, ◌≤◌, ◌<◌, ◌+◌, ◌-◌, inl, inr, Bool, true, false, ◌&&◌, arith, length, Option, Some, None, nat_eq, nat_lt}
use Rattle.std.proofs.lemmas.Bool.Decides.{nat_tests}
use Rattle.size_round.specs.Sizes.{limit}
use Rattle.space_core.specs.Cells.{Cells}
use Rattle.layer_rules.specs.declared.Block.{Block}
use Rattle.layer_rules.specs.declared.Offers.{Offers}
use Rattle.layer_rules.specs.Blocks.{with_len, is_apart}
use Rattle.layer_rules.specs.State.{State, is_open}
use Rattle.layer_rules.specs.After.{After, after, answering, Placed, Change, Reallocated, moved_to, emptied, unmoved, Reallocate}
use Rattle.layer_rules.specs.Handing.{shown_by}
use Rattle.layer_rules.specs.Layering.{is_done}
use Rattle.layer_rules.specs.Reallocating.{reallocated_unless, asked_to_reallocate, move_to, then_give, or_move, expand_or_move, general_reallocate}
use Rattle.layer_rules.specs.Rules.{Rules, IsSettled, AreApart}
use Rattle.layer_laws.proofs.Apart.{apart-moved, apart-flip}
use Rattle.layer_laws.specs.Lawful.{OnlyOwnCells, OnlyOwnChanged, IsGood, Good, IsFreed, Freeing, IsGrown, Growing, IsReallocated, IsMovedApart}
use Rattle.layer_laws.proofs.Takings.{TakesOwn}
use Rattle.layer_laws.proofs.OwnChanges.{changed-none, changed-taken, changed-freed, changed-then}

-- ---- what is refused, and what stays in place

pub kept-unmoved : (e : Rules) (s : State) (cells : Cells) (b : Block) (n : ℕ) → 1 ≤ n → is_open s ≡ true → IsSettled e s cells → IsReallocated e s cells b n (after unmoved s cells)
kept-unmoved e s cells b n l o h = record {
  is_set = o;
  settled = h;
  extents = λ c p a. refl;
  routes = λ c p a. refl;
  stays = λ c p a. p;
  len = λ c q. absurd (cc);
  out = λ c q. absurd (cc);
  fresh = λ c q. absurd (cc);
  place = λ c q. absurd (cc);
  empty = λ z. absurd (omega arith);
  some = λ q. absurd (cc);
  count = refl;
  table = changed-none e cells;
}

-- the block with another length, which takes up as much as before
pub kept-in_place : (e : Rules) (s : State) (cells : Cells) (b : Block) (n : ℕ) → 1 ≤ n → is_open s ≡ true → IsSettled e s cells → e.is_out (with_len b n) s cells ≡ true → e.extent (with_len b n) s ≡ e.extent b s
    → IsReallocated e s cells b n (after (moved_to (with_len b n)) s cells)
kept-in_place e s cells b n l o h x z = record {
  is_set = o;
  settled = h;
  extents = λ d p a. refl;
  routes = λ d p a. refl;
  stays = λ d p a. p;
  len = λ d y. let k : with_len b n ≡ d = cc in ap (λ (x : Block). x.len) (sym k);
  out = λ d y. let k : with_len b n ≡ d = cc in subst (λ d. e.is_out d s cells ≡ true) k x;
  fresh = λ d y f p a. let k : with_len b n ≡ d = cc in subst (λ d. AreApart e s d f) k (record { either = subst (λ m. is_apart m (e.extent f s) ≡ true) (sym z) a.either });
  place = λ d y. let k : with_len b n ≡ d = cc in inl (ap (λ (x : Block). x.place) (sym k));
  empty = λ z. absurd (omega arith);
  some = λ q. absurd (cc);
  count = refl;
  table = changed-none e cells;
}

-- ---- the guards

-- the block is given back
freed-empty : (e : Rules) (s : State) (cells : Cells) (b : Block) (n : ℕ) (r : After Bool) → n ≡ 0 → IsFreed e s cells b r → length r.cells.tags ≡ length cells.tags → IsReallocated e s cells b n (answering (λ gone. emptied) r)
freed-empty e s cells b n r q g k = record {
  is_set = g.is_set;
  settled = g.settled;
  extents = λ c p a. g.extents c p (a refl);
  routes = λ c p a. g.routes c p (a refl);
  stays = λ c p a. g.stays c p (a refl);
  len = λ c q. absurd (cc);
  out = λ c q. absurd (cc);
  fresh = λ c q. absurd (cc);
  place = λ c q. absurd (cc);
  empty = λ z. refl;
  some = λ z. q;
  count = k;
  table = changed-freed e cells r.cells g.table;
}

unless-reallocated : (e : Rules) (n : ℕ) (give : Change) (move : Reallocate) (b : Block) (s : State) (cells : Cells) (x y z : Bool) → nat_eq n b.len ≡ x → nat_eq n 0 ≡ y → nat_lt limit n ≡ z → 1 ≤ b.len → is_open s ≡ true → IsSettled e s cells → e.is_out b s cells ≡ true
    → IsFreed e s cells b (give b s cells) → length (give b s cells).cells.tags ≡ length cells.tags → (1 ≤ n → n ≤ limit → IsReallocated e s cells b n (move b s cells)) → IsReallocated e s cells b n (reallocated_unless x y z give move b s cells)
unless-reallocated e n give move b s cells true y z p q r l o h x f k g =
    let y : b.len ≡ n = grind (arith, nat_tests) in subst (λ m. IsReallocated e s cells b m (after (moved_to b) s cells)) y (kept-in_place e s cells b b.len l o h x refl)
unless-reallocated e n give move b s cells false true z p q r l o h x f k g = freed-empty e s cells b n (give b s cells) (grind (arith, nat_tests)) f k
unless-reallocated e n give move b s cells false false true p q r l o h x f k g = kept-unmoved e s cells b n (grind (arith, nat_tests)) o h
unless-reallocated e n give move b s cells false false false p q r l o h x f k g = g (grind (arith, nat_tests)) (grind (arith, nat_tests))

pub asked-reallocated : (e : Rules) (n : ℕ) (give : Change) (move : Reallocate) (b : Block) (s : State) (cells : Cells) → 1 ≤ b.len → is_open s ≡ true → IsSettled e s cells → e.is_out b s cells ≡ true
    → IsFreed e s cells b (give b s cells) → length (give b s cells).cells.tags ≡ length cells.tags → (1 ≤ n → n ≤ limit → IsReallocated e s cells b n (move b s cells)) → IsReallocated e s cells b n (asked_to_reallocate n give move b s cells)
asked-reallocated e n give move b s cells l o h x f k g = unless-reallocated e n give move b s cells _ _ _ refl refl refl l o h x f k g

-- a block that is to have the length that it has stays as it is
pub asked-same : (give : Change) (move : Reallocate) (b : Block) (s : State) (cells : Cells) → asked_to_reallocate b.len give move b s cells ≡ after (moved_to b) s cells
asked-same give move b s cells =
    let same : nat_eq b.len b.len ≡ true = grind (arith, nat_tests) in ap (λ q. reallocated_unless q (nat_eq b.len 0) (nat_lt limit b.len) give move b s cells) same

-- ---- moving

-- the calls of which the general form is made, and what they keep
pub record KeepsByCalls (e : Rules) : Type 0 where
  pub some : (b : Block) (s : State) (cells : Cells) → e.is_out b s cells ≡ true → 1 ≤ b.len
  pub takes : (n : ℕ) → TakesOwn e (e.allocate n)
  pub good : Good e
  pub freed : Freeing e
  pub gives : (b : Block) (s : State) (cells : Cells) → length (e.deallocate b s cells).cells.tags ≡ length cells.tags
  pub grown : Growing e

-- a new block was served, and the old one is given back
given-back : (e : Rules) (s : State) (cells : Cells) (b : Block) (n : ℕ) (a : After (Option Placed)) (p : Placed) (f : After Bool) → 1 ≤ n → a.answer ≡ Some p → e.is_out b s cells ≡ true → IsGood e s cells n a → OnlyOwnCells e cells a.cells
    → IsFreed e a.state a.cells b f → length f.cells.tags ≡ length a.cells.tags → IsReallocated e s cells b n (answering (λ given. moved_to p.block) f)
given-back e s cells b n a p f l q x g taken k same =
    let near = λ (c : Block) (o : e.is_out c s cells ≡ true) (y : AreApart e s b c). apart-moved e s a.state b c (g.extents b x) (g.extents c o) y in
    let new_apart : AreApart e a.state p.block b = g.fresh p q b x in
    let old_apart = apart-flip e a.state p.block b new_apart in
    let there = k.extents p.block (g.out p q) old_apart in
    record {
      is_set = k.is_set;
      settled = k.settled;
      extents = λ c o y. k.extents c (g.stays c o) (near c o (y refl)) ∙ g.extents c o;
      routes = λ c o y. k.routes c (g.stays c o) (near c o (y refl)) ∙ g.routes c o;
      stays = λ c o y. k.stays c (g.stays c o) (near c o (y refl));
      len = λ c z. let w : p.block ≡ c = cc in ap (λ (d : Block). d.len) (sym w) ∙ g.len p q;
      out = λ c z. let w : p.block ≡ c = cc in subst (λ c. e.is_out c f.state f.cells ≡ true) w (k.stays p.block (g.out p q) old_apart);
      fresh = λ c z d o y.
          let w : p.block ≡ c = cc in
          subst (λ c. AreApart e f.state c d) w (apart-moved e a.state f.state p.block d there (k.extents d (g.stays d o) (near d o y)) (g.fresh p q d o));
      place = λ c z. let w : p.block ≡ c = cc in inr (subst (λ c. IsMovedApart e s f.state b c) w (record { either = rw (there, sym (g.extents b x)) new_apart.either }));
      empty = λ z. absurd (omega arith);
      some = λ z. absurd (cc);
      count = same ∙ taken.count;
      table = changed-then e cells a.cells f.cells (changed-taken e cells a.cells taken) (changed-freed e a.cells f.cells k.table);
    }

not-served : (e : Rules) (s : State) (cells : Cells) (b : Block) (n : ℕ) (a : After (Option Placed)) → 1 ≤ n → IsGood e s cells n a → OnlyOwnCells e cells a.cells → IsReallocated e s cells b n (after unmoved a.state a.cells)
not-served e s cells b n a l g taken = record {
  is_set = g.is_set;
  settled = g.settled;
  extents = λ c p y. g.extents c p;
  routes = λ c p y. g.routes c p;
  stays = λ c p y. g.stays c p;
  len = λ c q. absurd (cc);
  out = λ c q. absurd (cc);
  fresh = λ c q. absurd (cc);
  place = λ c q. absurd (cc);
  empty = λ z. absurd (omega arith);
  some = λ q. absurd (cc);
  count = taken.count;
  table = changed-taken e cells a.cells taken;
}

-- a new block was asked for, and where it was served the old one is given back
pub then-given : (e : Rules) (give : Change) (s : State) (cells : Cells) (b : Block) (n : ℕ) (o : Option Placed) (t : State) (c : Cells) → 1 ≤ n → e.is_out b s cells ≡ true → IsGood e s cells n (after o t c) → OnlyOwnCells e cells c
    → IsFreed e t c b (give b t c) → length (give b t c).cells.tags ≡ length c.tags → IsReallocated e s cells b n (then_give give b (after o t c))
then-given e give s cells b n None t c l x g taken k same = not-served e s cells b n (after None t c) l g taken
then-given e give s cells b n (Some p) t c l x g taken k same = given-back e s cells b n (after (Some p) t c) p (give b t c) l refl x g taken k same

move-reallocated : (e : Rules) (n : ℕ) (b : Block) (s : State) (cells : Cells) → KeepsByCalls e → 1 ≤ n → is_open s ≡ true → IsSettled e s cells → e.is_out b s cells ≡ true → IsReallocated e s cells b n (move_to (e.allocate n) e.deallocate b s cells)
move-reallocated e n b s cells w l o h x =
    let r = e.allocate n s cells in
    let g = w.good n s cells o h in
    then-given e e.deallocate s cells b n r.answer r.state r.cells l x g (w.takes n s cells) (w.freed b r.state r.cells g.is_set g.settled (g.stays b x)) (w.gives b r.state r.cells)

-- ---- the general form

-- a call that was refused: each block is out still, with its extent and its route
pub record KeepsAll (e : Rules) (s : State) (cells : Cells) (t : State) (new : Cells) : Type 0 where
  pub stays : (c : Block) → e.is_out c s cells ≡ true → e.is_out c t new ≡ true
  pub extents : (c : Block) → e.is_out c s cells ≡ true → e.extent c t ≡ e.extent c s
  pub routes : (c : Block) → e.is_out c s cells ≡ true → e.route c t ≡ e.route c s
  pub count : length new.tags ≡ length cells.tags
  pub table : OnlyOwnChanged e cells new

-- what is done after that is done
pub after-refused : (e : Rules) (s : State) (cells : Cells) (b : Block) (n : ℕ) (t : State) (c : Cells) (z : After Reallocated) → e.is_out b s cells ≡ true → KeepsAll e s cells t c → IsReallocated e t c b n z → IsReallocated e s cells b n z
after-refused e s cells b n t c z x g k =
    let near = λ (c : Block) (p : e.is_out c s cells ≡ true) (y : AreApart e s b c). apart-moved e s t b c (g.extents b x) (g.extents c p) y in
    record {
      is_set = k.is_set;
      settled = k.settled;
      extents = λ c p y. k.extents c (g.stays c p) (λ w. near c p (y w)) ∙ g.extents c p;
      routes = λ c p y. k.routes c (g.stays c p) (λ w. near c p (y w)) ∙ g.routes c p;
      stays = λ c p y. k.stays c (g.stays c p) (λ w. near c p (y w));
      len = k.len;
      out = k.out;
      fresh = λ c w f p y. k.fresh c w f (g.stays f p) (near f p y);
      place = λ c w. elim (k.place c w) [ inl v ↦ inl v | inr v ↦ inr (record { either = subst (λ q. is_apart (e.extent c z.state) q ≡ true) (g.extents b x) v.either }) ];
      empty = k.empty;
      some = k.some;
      count = k.count ∙ g.count;
      table = changed-then e cells c z.cells g.table k.table;
    }

after-short : (e : Rules) (s : State) (cells : Cells) (b : Block) (n d : ℕ) (t : State) (c : Cells) (z : After Reallocated) → e.is_out b s cells ≡ true → IsGrown e s cells b d (after false t c) → IsReallocated e t c b n z → IsReallocated e s cells b n z
after-short e s cells b n d t c z x g k =
    after-refused e s cells b n t c z x (record {
      stays = λ c p. g.stays c p (λ w. absurd (cc));
      extents = λ c p. g.extents c p (λ w. absurd (cc));
      routes = λ c p. g.routes c p (λ w. absurd (cc));
      count = g.table.count;
      table = changed-taken e cells c g.table;
    }) k

pub after-unmoved : (e : Rules) (s : State) (cells : Cells) (b : Block) (n : ℕ) (t : State) (c : Cells) (z : After Reallocated) → e.is_out b s cells ≡ true → IsReallocated e s cells b n (after unmoved t c) → IsReallocated e t c b n z → IsReallocated e s cells b n z
after-unmoved e s cells b n t c z x g k =
    after-refused e s cells b n t c z x (record {
      stays = λ c p. g.stays c p (λ w. absurd (cc));
      extents = λ c p. g.extents c p (λ w. absurd (cc));
      routes = λ c p. g.routes c p (λ w. absurd (cc));
      count = g.count;
      table = g.table;
    }) k

-- it grew
after-long : (e : Rules) (s : State) (cells : Cells) (b : Block) (n : ℕ) (t : State) (c : Cells) → b.len < n → IsGrown e s cells b (n - b.len) (after true t c) → IsReallocated e s cells b n (after (moved_to (with_len b n)) t c)
after-long e s cells b n t c l g =
    let k : with_len b (b.len + (n - b.len)) ≡ with_len b n = ap (with_len b) (let v : b.len + (n - b.len) ≡ n = omega arith in v) in
    record {
      is_set = g.is_set;
      settled = g.settled;
      extents = λ d p y. g.extents d p (λ w. y refl);
      routes = λ d p y. g.routes d p (λ w. y refl);
      stays = λ d p y. g.stays d p (λ w. y refl);
      len = λ d y. let w : with_len b n ≡ d = cc in ap (λ (x : Block). x.len) (sym w);
      out = λ d y. let w : with_len b n ≡ d = cc in subst (λ d. e.is_out d t c ≡ true) (k ∙ w) g.out;
      fresh = λ d y f p a. let w : with_len b n ≡ d = cc in subst (λ d. AreApart e t d f) (k ∙ w) (g.fresh f p a);
      place = λ d y. let w : with_len b n ≡ d = cc in inl (ap (λ (x : Block). x.place) (sym w));
      empty = λ z. absurd (omega arith);
      some = λ z. absurd (cc);
      count = g.table.count;
      table = changed-taken e cells c g.table;
    }

or_move-case : (e : Rules) (s : State) (cells : Cells) (b : Block) (n : ℕ) (q : Bool) (t : State) (c : Cells) → KeepsByCalls e → b.len < n → e.is_out b s cells ≡ true → IsGrown e s cells b (n - b.len) (after q t c)
    → IsReallocated e s cells b n (or_move n (e.allocate n) e.deallocate b (after q t c))
or_move-case e s cells b n true t c w l x g = after-long e s cells b n t c l g
or_move-case e s cells b n false t c w l x g =
    after-short e s cells b n (n - b.len) t c _ x g (move-reallocated e n b t c w (omega arith) g.is_set g.settled (g.stays b x (λ w. absurd (cc))))

tries-case : (e : Rules) (n : ℕ) (b : Block) (s : State) (cells : Cells) (x q : Bool) → (nat_lt b.len n && x) ≡ q → KeepsByCalls e → 1 ≤ n → is_open s ≡ true → IsSettled e s cells → e.is_out b s cells ≡ true
    → IsReallocated e s cells b n (expand_or_move q n e.expand (e.allocate n) e.deallocate b s cells)
tries-case e n b s cells x true q w l o h y =
    let r = e.expand (n - b.len) b s cells in or_move-case e s cells b n r.answer r.state r.cells w (grind (arith, nat_tests)) y (w.grown (n - b.len) b s cells o h y)
tries-case e n b s cells x false q w l o h y = move-reallocated e n b s cells w l o h y

pub general-reallocated : (e : Rules) (offered : Offers) (n : ℕ) (b : Block) (s : State) (cells : Cells) → KeepsByCalls e → 1 ≤ n → is_open s ≡ true → IsSettled e s cells → e.is_out b s cells ≡ true
    → IsReallocated e s cells b n (general_reallocate n offered e.expand (e.allocate n) e.deallocate b s cells)
general-reallocated e offered n b s cells w l o h x = tries-case e n b s cells offered.expand _ refl w l o h x

-- and with the guards, which is the rule of a form
pub generally-reallocated : (e : Rules) (offered : Offers) → KeepsByCalls e → (n : ℕ) (b : Block) (s : State) (cells : Cells) → is_open s ≡ true → IsSettled e s cells → e.is_out b s cells ≡ true
    → IsReallocated e s cells b n (asked_to_reallocate n e.deallocate (general_reallocate n offered e.expand (e.allocate n) e.deallocate) b s cells)
generally-reallocated e offered w n b s cells o h x =
    asked-reallocated e n e.deallocate (general_reallocate n offered e.expand (e.allocate n) e.deallocate) b s cells (w.some b s cells x) o h x (w.freed b s cells o h x) (w.gives b s cells) (λ l m. general-reallocated e offered n b s cells w l o h x)

-- ---- what a child answered, shown by its parent

-- the child's block
pub record IsShownMoved (shown : Block → Block) (r : Reallocated) (c : Block) : Type 0 where
  pub below : Block
  pub answered : r ≡ moved_to below
  pub block : c ≡ shown below

pub shown-moved : (shown : Block → Block) (r : Reallocated) (c : Block) → shown_by shown r ≡ moved_to c → IsShownMoved shown r c
shown-moved shown (moved_to d) c q = let k : shown d ≡ c = cc in record { below = d; answered = refl; block = sym k }
shown-moved shown emptied c q = absurd (cc)
shown-moved shown unmoved c q = absurd (cc)

pub shown-done : (shown : Block → Block) (r : Reallocated) → is_done (shown_by shown r) ≡ is_done r
shown-done shown (moved_to d) = refl
shown-done shown emptied = refl
shown-done shown unmoved = refl

pub shown-emptied : (shown : Block → Block) (r : Reallocated) → shown_by shown r ≡ emptied → r ≡ emptied
shown-emptied shown (moved_to d) q = absurd (cc)
shown-emptied shown emptied q = refl
shown-emptied shown unmoved q = absurd (cc)
