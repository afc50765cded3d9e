-- A list's blocks are held by its members: what it shows for that, over members that are lawful.
use Rattle.std.proofs.Common.{◌≡◌, refl, sym, ap, subst, ◌∙◌, ℕ, zero, suc, ◌+◌, ◌<◌, inl, Bool, true, false, ◌&&◌, arith, List, [], ◌∷◌, length, Option, Some, None, is_some, unwrap_or, nat_le}
use Rattle.std.proofs.lemmas.Bool.{and_from}
use Rattle.std.specs.List.{list_any}
use Rattle.std.specs.Option.{option_map_or}
use Rattle.size_round.specs.Sizes.{limit}
use Rattle.space_core.specs.Cells.{Cells}
use Rattle.layer_rules.specs.declared.Block.{Block}
use Rattle.layer_rules.specs.Blocks.{no_block}
use Rattle.layer_rules.specs.Fields.{kept_of, kept_members}
use Rattle.layer_rules.specs.State.{State, order_own, is_open, child, order_of, with_child}
use Rattle.layer_rules.specs.Members.{nth, tags_of}
use Rattle.layer_rules.specs.Owning.{is_some_block, is_plausible, may_hold}
use Rattle.layer_rules.specs.Rules.{Rules, IsSettled}
use Rattle.layer_laws.proofs.Basics.{and-fst, and-snd}
use Rattle.layer_laws.proofs.HeldTurns.{served-asked_for}
use Rattle.layer_laws.proofs.Owners.{may-hold}
use Rattle.layer_laws.proofs.Reallocated.{asked-same}
use Rattle.layer_laws.proofs.Tests.{opened, settle}
use Rattle.layer_laws.specs.HeldByMembers.{TellsByHolder, FindsHolder, StandsByMembers, IsWithMember, IsCallOfMember, CallsMembers, HeldByMembers}
use Rattle.list_rules.proofs.ListEmptied.{AreListed, list-all_back, list-set_up}
use Rattle.list_rules.proofs.ListHolder.{find-only, find-none, any-passes, passes-any}
use Rattle.list_rules.proofs.ListOrder.{ordered-parts}
use Rattle.list_rules.proofs.ListTurns.{fits, by-order, with-kept, with-front, list-turn, list-asked}
use Rattle.list_rules.specs.ListRules.{used_last, holder, change_holder, list_deallocate, list_offers, route_from, extent_from, each_settled, list_rules}

-- ---- what is told of a block

holder-test : (o : Option ℕ) (f : ℕ → Bool) → (is_some o && f (unwrap_or o 0)) ≡ option_map_or f o false
holder-test None f = refl
holder-test (Some i) f = refl

route-told : (o : Option ℕ) (f : ℕ → List ℕ) → route_from o f ≡ option_map_or (λ i. i ∷ f i) o []
route-told None f = refl
route-told (Some i) f = refl

extent-told : (o : Option ℕ) (f : ℕ → Block) → extent_from o f ≡ option_map_or f o no_block
extent-told None f = refl
extent-told (Some i) f = refl

list-tells : (es : List Rules) → TellsByHolder (list_rules es) es (holder es)
unfolding list_rules
list-tells es = record {
  out = λ b s cells. ap (λ x. is_some_block b s && x) (holder-test (holder es b s) (λ i. (nth es i).is_out b (child s i) cells));
  routed = λ b s. ap (λ x. is_plausible b && x) (holder-test (holder es b s) (λ i. (nth es i).is_routed b (child s i)));
  route = λ b s. route-told (holder es b s) (λ i. (nth es i).route b (child s i));
  extent = λ b s. extent-told (holder es b s) (λ i. (nth es i).extent b (child s i));
  clean = λ b s bytes. refl;
  marked = λ b s bytes. refl;
}

list-finds : (es : List Rules) → AreListed es → FindsHolder (list_rules es) es (holder es) None (fits es)
unfolding list_rules
list-finds es w = record {
  owns = λ j l. inl (w.owns j l);
  one = λ b s j o f l oj h others. find-only (λ i. (nth es i).holds b (child s i)) j (order_of s) (sym ((ordered-parts (length es) s f).those_open j l) ∙ oj) h others;
  none = λ b s o f h. find-none (λ i. (nth es i).holds b (child s i)) (order_of s) h;
  held = λ b s h. let p = λ (i : ℕ). (nth es i).holds b (child s i) in any-passes p (order_of s) (may-hold b s (list_any p (order_of s)) h).rest;
  holds = λ b s i o f l size h.
      let here = sym ((ordered-parts (length es) s f).those_open i l) ∙ (w.regular i).owning.open_holds b (child s i) h in
      and_from _ _ (and_from _ _ o size) (passes-any (λ i. (nth es i).holds b (child s i)) i (order_of s) here h);
  offered = λ h. w.owns;
}

-- ---- what stands between calls

each-at : (es : List Rules) (k : ℕ) (s : State) (cells : Cells) → each_settled es k s cells ≡ true → (i j : ℕ) → j ≡ k + i → i < length es → IsSettled (nth es i) (child s j) cells
each-at [] k s cells h i j q l = absurd (omega arith)
each-at (e ∷ es) k s cells h zero j q l =
    let z : k ≡ j = omega arith in subst (λ x. e.is_settled (child s x) cells ≡ true) z (and-fst (e.is_settled (child s k) cells) (each_settled es (suc k) s cells) h)
each-at (e ∷ es) k s cells h (suc i) j q l = each-at es (suc k) s cells (and-snd (e.is_settled (child s k) cells) (each_settled es (suc k) s cells) h) i j (omega arith) (omega arith)

at-each : (es : List Rules) (k : ℕ) (s : State) (cells : Cells) → ((i j : ℕ) → j ≡ k + i → i < length es → IsSettled (nth es i) (child s j) cells) → each_settled es k s cells ≡ true
at-each [] k s cells h = refl
at-each (e ∷ es) k s cells h = and_from _ _ (h 0 k (omega arith) (omega arith)) (at-each es (suc k) s cells (λ i j q l. h (suc i) j (omega arith) (omega arith)))

list-stands : (es : List Rules) → StandsByMembers (list_rules es) es (fits es)
unfolding list_rules
list-stands es = record {
  parts = λ s cells o z.
      let h = opened s (tags_of es) cells (fits es s && each_settled es 0 s cells) o z in
      record { is_set = o; in_order = and-fst (fits es s) (each_settled es 0 s cells) h; members = λ j l. each-at es 0 s cells (and-snd (fits es s) (each_settled es 0 s cells) h) j j (omega arith) l };
  sound = λ s cells k.
      settle s (tags_of es) cells (fits es s && each_settled es 0 s cells) k.is_set
      (and_from _ _ k.in_order (at-each es 0 s cells (λ i j q l. let z : i ≡ j = omega arith in subst (λ x. IsSettled (nth es i) (child s x) cells) z (k.members i l))));
  shut = λ cells. refl;
  own = λ fs. order_own (kept_members (kept_of fs));
  read = λ fs bytes. refl;
  image = λ fs s bytes. refl;
}

-- ---- the calls

list-calls : (es : List Rules) → AreListed es → CallsMembers (list_rules es) es (holder es) (fits es)
unfolding list_rules
list-calls es w = record {
  allocate = λ n s cells k. served-asked_for es (fits es) (λ i. (nth es i).allocate n) n _ s cells (list-turn es w.regular true (λ i. (nth es i).allocate n) (λ i. (w.regular i).openness.allocate n) n s cells k.in_order);
  aligned_allocate = λ n a s cells k.
      served-asked_for es (fits es) (λ i. (nth es i).aligned_allocate n a) n _ s cells
      (list-turn es w.regular (nat_le (n + a) limit) (λ i. (nth es i).aligned_allocate n a) (λ i. (w.regular i).openness.aligned_allocate n a) (n + a) s cells k.in_order);
  deallocate = λ i b s cells k held l o.
      let r = (nth es i).deallocate b (child s i) cells in
      subst (λ q. IsCallOfMember (fits es) i s r (list_deallocate q (λ i. (nth es i).deallocate) b s cells)) (sym held)
      (record {
        state = used_last i (with_child s i r.state);
        same = refl;
        changed = by-order es (λ s. is_open (child s i) ≡ true → let r = (nth es i).deallocate b (child s i) cells in IsWithMember (fits es) i r.state s (used_last i (with_child s i r.state))) s k.in_order
            (λ order ss h o. with-front es order ss i _ h l ((w.regular i).openness.deallocate b _ cells ∙ o)) o;
      });
  expand = λ delta i b s cells k held l o.
      let r = (nth es i).expand delta b (child s i) cells in
      record {
        change = λ b s. change_holder (holder es b s) (λ i. (nth es i).expand delta) b s;
        guarded = refl;
        by_holder = subst (λ q. IsCallOfMember (fits es) i s r (change_holder q (λ i. (nth es i).expand delta) b s cells)) (sym held)
            (record {
              state = with_child s i r.state;
              same = refl;
              changed = by-order es (λ s. is_open (child s i) ≡ true → let r = (nth es i).expand delta b (child s i) cells in IsWithMember (fits es) i r.state s (with_child s i r.state)) s k.in_order
                  (λ order ss h o. with-kept es order ss i _ h l o ((w.regular i).openness.expand delta b _ cells ∙ o)) o;
            });
      };
  reallocate = inl (record { offered = list_offers es; general = λ n b s cells. refl });
  same_length = λ b s cells. asked-same _ _ b s cells;
  owns = λ b s cells k. list-asked es w.regular b s k.in_order (may_hold b s);
  deallocate_all = list-all_back es w;
  set_up = list-set_up es w;
}

-- ---- the whole

pub list-held : (es : List Rules) → AreListed es → HeldByMembers (list_rules es) es
unfolding list_rules
list-held es w = record {
  holder = holder es;
  otherwise = None;
  fits = fits es;
  leaves = refl;
  alignment = refl;
  tells = list-tells es;
  finds = list-finds es w;
  walks = record { ends = λ b s. refl; steps = λ i path b s. refl };
  stands = list-stands es;
  calls = list-calls es w;
}
