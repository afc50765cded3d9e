-- Owning: a heap is owned after each call, and each block but the one that was named keeps its bytes.
use Rattle.std.proofs.Common.{◌≡◌, ◌≢◌, refl, sym, ap, subst, ◌∙◌, ℕ, ◌+◌, ◌%◌, ◌≤◌, ◌<◌, Bool, true, false, ◌||◌, ◌&&◌, not, nat_eq, cond, List, [], ◌∷◌, length, set, take, min, Option, Some, None, is_none, Result, is_ok, ◌⊎◌, inl, inr, arith}
use Rattle.std.proofs.lemmas.Bool.Decides.{nat_tests}
use Rattle.std.proofs.lemmas.List.{length-set, get_or-set_other}
use Rattle.std.specs.List.{slice_range}
use Rattle.space_core.specs.Memory.{Memory}
use Rattle.space_core.specs.Words.{write_from}
use Rattle.layer_rules.specs.declared.Block.{Block}
use Rattle.layer_rules.specs.declared.Refused.{Refused}
use Rattle.layer_rules.specs.Blocks.{end_of, with_len, is_apart}
use Rattle.layer_rules.specs.Rows.{Each, EachPair}
use Rattle.layer_rules.specs.After.{Placed}
use Rattle.layer_rules.specs.Layering.{LayerModel, state_of, Stands, IsSetUp, IsShut, IsOutOf, IsCleanOf, IsMarkedOf, IsRoutedIn, AreApartIn, KeepsBytes, SetsUp, block_in, allocated, aligned_allocated, Allocates, AlignedAllocates, Expands, Reallocates, Deallocates, DeallocatesAll, Owns}
use Rattle.layer_laws.specs.Lawful.{IsMade}
use Rattle.layer_laws.specs.Standing.{extent_of, Writes, IsNewBlock, AlignedAllocateKeeps, ExpandKeeps, ReallocateKeeps}
use Rattle.layer_laws.proofs.StandingLaws.{lawful, out-in_space, set_up-stands, allocated-stands, allocated-gives, allocated-keeps_out, allocated-keeps_extents, deallocated-stands, deallocated-keeps_out, deallocated-keeps_extents, all_deallocated-stands, expanded-keeps}
use Rattle.layer_laws.proofs.StandingReallocated.{reallocated-keeps}
use Rattle.layer_laws.proofs.FurtherLaws.{aligned_allocated-keeps, owned-keeps, refused-expand, refused-reallocate}
use Rattle.size_round.specs.Sizes.{is_power_of_two}
use Rattle.layer_laws.proofs.Placement.{write-keeps, apart-share_no_byte, out-routed}
use Rattle.layer_laws.proofs.Writing.{bytes-inside}
use Rattle.owned_heap.specs.Ticket.{Ticket}
use Rattle.owned_heap.specs.Events.{is_live, without, live_of, IsApartFromLive}
use Rattle.owned_heap.specs.Owned.{Owned, IsOwned, IsLive, bytes_of, WritesIn}
use Rattle.owned_heap.specs.declared.block.Event.{Event}
use Rattle.owned_heap.specs.declared.block.Event.TheVariants.{Made, Gone, Emptied}
use Rattle.owned_heap.proofs.Among.{each-from, each-both, each_pair-under, each_pair-from, each-among, among-pairs, same-self, other_number, each-without, each_pair-without, live-among}
use Rattle.owned_heap.proofs.Slices.{length-slice, slice-same, inside-keeps, take-carried, take-first}

-- ---- what is known of live blocks

apart-moved : (t t' : LayerModel) (m m' : Memory) (b c : Block) → extent_of t' m' b ≡ extent_of t m b → extent_of t' m' c ≡ extent_of t m c → AreApartIn t m b c → AreApartIn t' m' b c
apart-moved t t' m m' b c p q a = record { either = rw (p, q) a.either }

flip : (b c : Block) → is_apart b c ≡ true → is_apart c b ≡ true
flip b c h = grind (arith, nat_tests)

apart-turned : (t : LayerModel) (m : Memory) (b c : Block) → AreApartIn t m b c → AreApartIn t m c b
apart-turned t m b c a = record { either = flip (extent_of t m b) (extent_of t m c) a.either }

module _ (t : LayerModel) (m : Memory) (events : List Event) (l : IsMade t.rules) (h : IsOwned t m events) (b : Ticket) (k : is_live events b ≡ true) where
  pub live-out : IsOutOf t m b.block
  live-out = each-among (λ (x : Ticket). IsOutOf t m x.block) (live_of events) b h.out (live-among events b k)

  pub live-clean : IsCleanOf t m b.block
  live-clean = each-among (λ (x : Ticket). IsCleanOf t m x.block) (live_of events) b h.clean (live-among events b k)

  pub live-marked : IsMarkedOf t m b.block
  live-marked = (lawful t m l h.stands).framing.marked b.block (state_of t m) m.bytes live-clean

  pub live-room : end_of b.block ≤ length m.bytes
  live-room = out-in_space t m b.block l h.stands live-out

  -- each live block is this one or apart from it
  pub others-apart : Each (λ (c : Ticket). (c ≡ b) ⊎ AreApartIn t m b.block c.block) (live_of events)
  others-apart =
      among-pairs (λ (x y : Ticket). AreApartIn t m x.block y.block) (λ x y. apart-turned t m x.block y.block) (live_of events) b h.apart (live-among events b k)

other-apart : (t : LayerModel) (m : Memory) (events : List Event) (l : IsMade t.rules) (h : IsOwned t m events) (b : Ticket) → is_live events b ≡ true → (c : Ticket) → is_live events c ≡ true → c.number ≢ b.number
    → AreApartIn t m b.block c.block
other-apart t m events l h b k c j n =
    elim (each-among (λ (c : Ticket). (c ≡ b) ⊎ AreApartIn t m b.block c.block) (live_of events) c (others-apart t m events l h b k) (live-among events c j)) [
      | inl e ↦ absurd (n (ap (λ (x : Ticket). x.number) e))
      | inr a ↦ a
    ]

-- ---- what a call leaves

-- of the layer
pub record IsAgain (t t' : LayerModel) (m m' : Memory) : Type 0 where
  pub opened : IsSetUp t'
  pub stands : Stands t' m'
  pub size : length m'.bytes ≡ length m.bytes

-- of a block
pub record IsLeft (t t' : LayerModel) (m m' : Memory) (c : Block) : Type 0 where
  pub out : IsOutOf t' m' c
  pub extent : extent_of t' m' c ≡ extent_of t m c
  pub clean : IsCleanOf t' m' c
  pub bytes : KeepsBytes m.bytes m'.bytes c.place (end_of c)

pub record AreOwned (t : LayerModel) (m : Memory) (live : List Ticket) : Type 0 where
  pub out : Each (λ (x : Ticket). IsOutOf t m x.block) live
  pub clean : Each (λ (x : Ticket). IsCleanOf t m x.block) live
  pub apart : EachPair (λ (x y : Ticket). AreApartIn t m x.block y.block) live

left-owned : (t t' : LayerModel) (m m' : Memory) (live : List Ticket) → IsAgain t t' m m' → Each (λ (x : Ticket). IsLeft t t' m m' x.block) live → EachPair (λ (x y : Ticket). AreApartIn t m x.block y.block) live → AreOwned t' m' live
left-owned t t' m m' live g k apart = record {
  out = each-from (λ (x : Ticket). IsLeft t t' m m' x.block) (λ (x : Ticket). IsOutOf t' m' x.block) live (λ x l. l.out) k;
  clean = each-from (λ (x : Ticket). IsLeft t t' m m' x.block) (λ (x : Ticket). IsCleanOf t' m' x.block) live (λ x l. l.clean) k;
  apart = each_pair-under (λ (x : Ticket). IsLeft t t' m m' x.block) (λ (x y : Ticket). AreApartIn t m x.block y.block) (λ (x y : Ticket). AreApartIn t' m' x.block y.block) live
      (λ x y p q. apart-moved t t' m m' x.block y.block p.extent q.extent) k apart;
}

pub more-owned : (t t' : LayerModel) (m m' : Memory) (events : List Event) (x : Ticket) → IsAgain t t' m m' → AreOwned t' m' (live_of events) → IsOutOf t' m' x.block → IsCleanOf t' m' x.block
    → Each (λ (y : Ticket). AreApartIn t' m' x.block y.block) (live_of events) → IsOwned t' m' (Made x ∷ events)
more-owned t t' m m' events x g o out clean apart = record {
  opened = g.opened;
  stands = g.stands;
  out = (out, o.out);
  clean = (clean, o.clean);
  apart = (apart, o.apart);
}

-- the new block shares no byte with a live one
pub new-apart : (t : LayerModel) (m : Memory) (events : List Event) (x : Ticket) → IsMade t.rules → IsOwned t m (Made x ∷ events) → IsApartFromLive events x
unfolding IsApartFromLive
new-apart t m events x l h c k =
    let among = live-among events c k in
    let out = each-among (λ (y : Ticket). IsOutOf t m y.block) (live_of events) c h.out.1 among in
    let apart = each-among (λ (y : Ticket). AreApartIn t m x.block y.block) (live_of events) c h.apart.0 among in
    apart-share_no_byte t m x.block c.block l h.stands h.out.0 out apart

-- all live blocks are left
all-left : (t t' : LayerModel) (m m' : Memory) (events : List Event) → IsOwned t m events → ((c : Block) → IsOutOf t m c → IsCleanOf t m c → IsLeft t t' m m' c) → Each (λ (x : Ticket). IsLeft t t' m m' x.block) (live_of events)
all-left t t' m m' events h f =
    each-both (λ (x : Ticket). IsOutOf t m x.block) (λ (x : Ticket). IsCleanOf t m x.block) (λ (x : Ticket). IsLeft t t' m m' x.block) (live_of events) (λ x. f x.block) h.out h.clean

-- all but one
others-left : (t t' : LayerModel) (m m' : Memory) (events : List Event) (l : IsMade t.rules) (h : IsOwned t m events) (b : Ticket) → is_live events b ≡ true
    → ((c : Block) → IsOutOf t m c → IsCleanOf t m c → AreApartIn t m b.block c → IsLeft t t' m m' c) → Each (λ (x : Ticket). x ≢ b → IsLeft t t' m m' x.block) (live_of events)
others-left t t' m m' events l h b k f =
    let P : Ticket → Type 0 = λ x. IsOutOf t m x.block × IsCleanOf t m x.block in
    let Q : Ticket → Type 0 = λ x. (x ≡ b) ⊎ AreApartIn t m b.block x.block in
    let R : Ticket → Type 0 = λ x. x ≢ b → IsLeft t t' m m' x.block in
    each-both P Q R (live_of events) (λ x p q n. elim q [ inl e ↦ absurd (n e) | inr a ↦ f x.block p.0 p.1 a ])
    (each-both (λ (x : Ticket). IsOutOf t m x.block) (λ (x : Ticket). IsCleanOf t m x.block) P (live_of events) (λ x o c. (o, c)) h.out h.clean)
    (others-apart t m events l h b k)

-- ---- a new heap

pub opened-owned : (t t' : LayerModel) (m m' : Memory) (r : Result (Unit {0}) Refused) → IsMade t.rules → Stands t m → IsShut t → is_ok r ≡ true → SetsUp t t' m m' 0 r → IsOwned t' m' []
opened-owned t t' m m' r l h s o a = record { opened = a.opened ∙ o; stands = set_up-stands t t' m m' 0 r l h s a; out = tt; clean = tt; apart = tt }

-- ---- a request

module _ (t t' : LayerModel) (m m' : Memory) (events : List Event) (n : ℕ) (r : Option Block) (l : IsMade t.rules) (h : IsOwned t m events) (a : Allocates t t' m m' n r) where
  asked-again : IsAgain t t' m m'
  asked-again = record {
    opened = a.opened ∙ h.opened;
    stands = allocated-stands t t' m m' n r l h.stands h.opened a;
    size = a.frame.size;
  }

  asked-left : (c : Block) → IsOutOf t m c → IsCleanOf t m c → IsLeft t t' m m' c
  asked-left c o k = record { out = allocated-keeps_out t t' m m' n r l h.stands h.opened a c o; extent = allocated-keeps_extents t t' m m' n r l h.stands h.opened a c o; clean = (a.others c o).clean k; bytes = (a.others c o).bytes }

  asked-all : AreOwned t' m' (live_of events)
  asked-all = left-owned t t' m m' (live_of events) asked-again (all-left t t' m m' events h asked-left) h.apart

  pub asked-owned : IsOwned t' m' events
  asked-owned = record { opened = asked-again.opened; stands = asked-again.stands; out = asked-all.out; clean = asked-all.clean; apart = asked-all.apart }

  pub asked-bytes : (c : Ticket) → is_live events c ≡ true → slice_range m'.bytes c.block.place (end_of c.block) ≡ slice_range m.bytes c.block.place (end_of c.block)
  asked-bytes c k = slice-same m.bytes m'.bytes c.block.place (end_of c.block) a.frame.size (asked-left c.block (live-out t m events l h c k) (live-clean t m events l h c k)).bytes

module _ (t t' : LayerModel) (m m' : Memory) (events : List Event) (n : ℕ) (x : Ticket) (l : IsMade t.rules) (h : IsOwned t m events) (a : Allocates t t' m m' n (Some x.block)) where
  pub given-new : IsNewBlock t t' m m' n x.block
  given-new = allocated-gives t t' m m' n x.block l h.stands h.opened a

  pub given-owned : IsOwned t' m' (Made x ∷ events)
  given-owned =
      let again = asked-again t t' m m' events n (Some x.block) l h a in
      more-owned t t' m m' events x again (asked-all t t' m m' events n (Some x.block) l h a) given-new.out (a.made x.block refl)
      (each-from (λ (y : Ticket). IsOutOf t m y.block) (λ (y : Ticket). AreApartIn t' m' x.block y.block) (live_of events) (λ y. given-new.fresh y.block) h.out)

-- ---- a block is given back

module _ (t t' : LayerModel) (m m' : Memory) (events : List Event) (b : Ticket) (r : Bool) (l : IsMade t.rules) (h : IsOwned t m events) (k : is_live events b ≡ true) (a : Deallocates t t' m m' b.block r) where
  freed-again : IsAgain t t' m m'
  freed-again = record {
    opened = a.opened ∙ h.opened;
    stands = deallocated-stands t t' m m' b.block r l h.stands (live-out t m events l h b k) a;
    size = a.frame.size;
  }

  freed-left : (c : Block) → IsOutOf t m c → IsCleanOf t m c → AreApartIn t m b.block c → IsLeft t t' m m' c
  freed-left c o w p = record {
    out = deallocated-keeps_out t t' m m' b.block r l h.stands (live-out t m events l h b k) a c o p;
    extent = deallocated-keeps_extents t t' m m' b.block r l h.stands (live-out t m events l h b k) a c o p;
    clean = (a.others c o p).clean w;
    bytes = (a.others c o p).bytes;
  }

  pub freed-owned : IsOwned t' m' (Gone b ∷ events)
  freed-owned =
      let left = each-without (λ (x : Ticket). IsLeft t t' m m' x.block) b (live_of events) (others-left t t' m m' events l h b k freed-left) in
      let apart = each_pair-without (λ (x y : Ticket). AreApartIn t m x.block y.block) b (live_of events) h.apart in
      let o = left-owned t t' m m' (without b (live_of events)) freed-again left apart in
      record { opened = freed-again.opened; stands = freed-again.stands; out = o.out; clean = o.clean; apart = o.apart }

  pub freed-bytes : (c : Ticket) → is_live events c ≡ true → c.number ≢ b.number → slice_range m'.bytes c.block.place (end_of c.block) ≡ slice_range m.bytes c.block.place (end_of c.block)
  freed-bytes c j n =
      slice-same m.bytes m'.bytes c.block.place (end_of c.block) a.frame.size
      (freed-left c.block (live-out t m events l h c j) (live-clean t m events l h c j) (other-apart t m events l h b k c j n)).bytes

-- ---- all blocks are given back

pub emptied-owned : (t t' : LayerModel) (m m' : Memory) (events : List Event) → IsMade t.rules → IsOwned t m events → DeallocatesAll t t' m m' → IsOwned t' m' (Emptied ∷ events)
emptied-owned t t' m m' events l h a = record {
  opened = a.opened ∙ h.opened;
  stands = all_deallocated-stands t t' m m' l h.stands h.opened a;
  out = tt;
  clean = tt;
  apart = tt;
}

-- ---- a write into a block

module _ (t : LayerModel) (m m' : Memory) (events : List Event) (b : Ticket) (l : IsMade t.rules) (h : IsOwned t m events) (k : is_live events b ≡ true) (w : Writes b.block m m') where
  same-extents : (c : Block) → extent_of t m' c ≡ extent_of t m c
  same-extents c = ap (t.rules.extent c) (write-keeps t m m' b.block l h.stands (live-out t m events l h b k) w).state

  pub written-owned : IsOwned t m' events
  written-owned =
      let keeps = write-keeps t m m' b.block l h.stands (live-out t m events l h b k) w in
      let P : Ticket → Type 0 = λ x. IsOutOf t m x.block × ((x ≡ b) ⊎ AreApartIn t m b.block x.block) in
      record {
        opened = h.opened;
        stands = keeps.stands;
        out = each-from (λ (x : Ticket). IsOutOf t m x.block) (λ (x : Ticket). IsOutOf t m' x.block) (live_of events) (λ x o. keeps.out x.block o) h.out;
        clean = each-both P (λ (x : Ticket). IsCleanOf t m x.block) (λ (x : Ticket). IsCleanOf t m' x.block) (live_of events)
            (λ x p c. keeps.clean x.block p.0 (elim p.1 [ inl e ↦ inl (ap (λ (y : Ticket). y.block) e) | inr a ↦ inr a ]) c)
            (each-both (λ (x : Ticket). IsOutOf t m x.block) (λ (x : Ticket). (x ≡ b) ⊎ AreApartIn t m b.block x.block) P (live_of events) (λ x o s. (o, s)) h.out (others-apart t m events l h b k))
            h.clean;
        apart = each_pair-from (λ (x y : Ticket). AreApartIn t m x.block y.block) (λ (x y : Ticket). AreApartIn t m' x.block y.block) (live_of events) (λ x y. apart-moved t t m m' x.block y.block (same-extents x.block) (same-extents y.block)) h.apart;
      }

  pub written-others : (c : Ticket) → is_live events c ≡ true → c.number ≢ b.number → slice_range m'.bytes c.block.place (end_of c.block) ≡ slice_range m.bytes c.block.place (end_of c.block)
  written-others c j n =
      let apart = apart-share_no_byte t m b.block c.block l h.stands (live-out t m events l h b k) (live-out t m events l h c j) (other-apart t m events l h b k c j n) in
      slice-same m.bytes m'.bytes c.block.place (end_of c.block) w.bytes.length_same (inside-keeps m.bytes m'.bytes b.block c.block w.bytes apart)

-- ---- the same of what contracts see

-- a live block is live by the fields too
pub live-at : {L : Type 0} (h' h : Owned L) (b : Ticket) → h' ≡ h → IsLive h b → is_live h'.events b ≡ true
live-at {L} h' h b e k = subst (λ (u : Owned L). is_live u.events b ≡ true) (sym e) k

cond-true : (t : Bool) (xs ys : List ℕ) → t ≡ true → cond t xs ys ≡ xs
cond-true true xs ys e = refl
cond-true false xs ys e = absurd (cc)

pub bytes-live : {L : Type 0} (h : Owned L) (b : Ticket) → is_live h.events b ≡ true → bytes_of h b ≡ slice_range h.memory.bytes b.block.place (end_of b.block)
unfolding bytes_of
bytes-live h b k = cond-true (is_live h.events b) (slice_range h.memory.bytes b.block.place (end_of b.block)) [] k

cond-same : (t t' : Bool) (xs xs' : List ℕ) → t' ≡ t → (t ≡ true → xs' ≡ xs) → cond t' xs' [] ≡ cond t xs []
cond-same true true xs xs' e f = f refl
cond-same true false xs xs' e f = absurd (cc)
cond-same false true xs xs' e f = absurd (cc)
cond-same false false xs xs' e f = refl

-- a block that is live as before keeps its bytes, where the memory does
pub bytes-kept : {L : Type 0} (h h' : Owned L) (c : Ticket) → is_live h'.events c ≡ is_live h.events c
    → (is_live h.events c ≡ true → slice_range h'.memory.bytes c.block.place (end_of c.block) ≡ slice_range h.memory.bytes c.block.place (end_of c.block)) → bytes_of h' c ≡ bytes_of h c
unfolding bytes_of
bytes-kept h h' c e f = cond-same (is_live h.events c) (is_live h'.events c) _ _ e f

-- an event of another block leaves a block as it was
pub made-other : (events events' : List Event) (x c : Ticket) → events' ≡ Made x ∷ events → c.number ≢ x.number → is_live events' c ≡ is_live events c
made-other events events' x c e n = ap (λ (es : List Event). is_live es c) e ∙ ap (λ t. t || is_live events c) (other_number x c n)

pub gone-other : (events events' : List Event) (x c : Ticket) → events' ≡ Gone x ∷ events → c.number ≢ x.number → is_live events' c ≡ is_live events c
gone-other events events' x c e n = ap (λ (es : List Event). is_live es c) e ∙ ap (λ t. not t && is_live events c) (other_number x c n)

-- what stands for a new block
pub made-with : (events events' : List Event) (x y z : Ticket) → events' ≡ Made x ∷ events → x ≡ y → y ≡ z → events' ≡ Made z ∷ events
made-with events events' x y z e p q = e ∙ ap (λ (w : Ticket). Made w ∷ events) (p ∙ q)

-- a new block is live
pub made-live : (events events' : List Event) (x : Ticket) → events' ≡ Made x ∷ events → is_live events' x ≡ true
made-live events events' x e = ap (λ (es : List Event). is_live es x) e ∙ ap (λ t. t || is_live events x) (same-self x)

pub slice-size : (bytes : List ℕ) (b : Block) → end_of b ≤ length bytes → length (slice_range bytes b.place (end_of b)) ≡ b.len
slice-size bytes b room = omega (arith, length-slice bytes b.place (end_of b))

-- no block comes exactly where the rule says so
pub asked-none : (t t' : LayerModel) (m m' : Memory) (n : ℕ) (r : Option Block) → IsMade t.rules → Stands t m → Allocates t t' m m' n r → is_none r ≡ (nat_eq n 0 || t.rules.refuses n (state_of t m) m.cells)
asked-none t t' m m' n r l h a =
    ap is_none a.answer
    ∙ (none-of (allocated t m n).answer ∙ l.regular.refusing.none n (state_of t m) m.cells (l.regular.refusing.free_tails (state_of t m) m.cells h.sound.settled))
  where
    none-of : (o : Option Placed) → is_none (block_in o) ≡ is_none o
    none-of None = refl
    none-of (Some p) = refl

-- ---- writes

pub set-inside : (b : Block) (m m' : Memory) (i v : ℕ) → i < b.len → m' ≡ record m { bytes = set m.bytes (b.place + i) v } → Writes b m m'
set-inside b m m' i v lt e =
    subst (λ (u : Memory). Writes b m u) (sym e) (record {
      cells = refl;
      leaves = refl;
      bytes = record {
        length_same = length-set m.bytes (b.place + i) v;
        below = λ j l. get_or-set_other m.bytes (b.place + i) j v 0 (grind arith);
        above = λ j l. get_or-set_other m.bytes (b.place + i) j v 0 (grind arith);
      };
    })

pub put-inside : (b : Block) (m m' : Memory) (at : ℕ) (given : List ℕ) → at + length given ≤ b.len → m' ≡ record m { bytes = write_from m.bytes (b.place + at) given } → Writes b m m'
put-inside b m m' at given r e = subst (λ (u : Memory). Writes b m u) (sym e) (bytes-inside b m (b.place + at) given (omega arith) (omega arith))

pub replaced-inside : (b : Block) (m m' : Memory) (given : List ℕ) → length given ≡ b.len → m' ≡ record m { bytes = write_from m.bytes b.place given } → Writes b m m'
replaced-inside b m m' given r e = subst (λ (u : Memory). Writes b m u) (sym e) (bytes-inside b m b.place given (omega arith) (omega (arith, r)))

-- ---- a block at a multiple

module _ (t t' : LayerModel) (m m' : Memory) (events : List Event) (n a : ℕ) (r : Option Block) (l : IsMade t.rules) (h : IsOwned t m events) (p : is_power_of_two a ≡ true) (q : a ≤ 4096) (s : AlignedAllocates t t' m m' n a r) where
  aligned-keeps : AlignedAllocateKeeps t t' m m' n a r
  aligned-keeps = aligned_allocated-keeps t t' m m' n a r l h.stands h.opened p q s

  aligned-again : IsAgain t t' m m'
  aligned-again = record { opened = s.opened ∙ h.opened; stands = aligned-keeps.stands; size = s.frame.size }

  aligned-left : (c : Block) → IsOutOf t m c → IsCleanOf t m c → IsLeft t t' m m' c
  aligned-left c o k = record { out = aligned-keeps.out c o; extent = aligned-keeps.extents c o; clean = (s.others c o).clean k; bytes = (s.others c o).bytes }

  aligned-all : AreOwned t' m' (live_of events)
  aligned-all = left-owned t t' m m' (live_of events) aligned-again (all-left t t' m m' events h aligned-left) h.apart

  pub aligned-owned : IsOwned t' m' events
  aligned-owned = record { opened = aligned-again.opened; stands = aligned-again.stands; out = aligned-all.out; clean = aligned-all.clean; apart = aligned-all.apart }

  pub aligned-bytes : (c : Ticket) → is_live events c ≡ true → slice_range m'.bytes c.block.place (end_of c.block) ≡ slice_range m.bytes c.block.place (end_of c.block)
  aligned-bytes c k = slice-same m.bytes m'.bytes c.block.place (end_of c.block) s.frame.size (aligned-left c.block (live-out t m events l h c k) (live-clean t m events l h c k)).bytes

  pub aligned-none : is_none r ≡ (nat_eq n 0 || t.rules.refuses_aligned n a (state_of t m) m.cells)
  aligned-none = ap is_none s.answer ∙ (placed-none (aligned_allocated t m n a).answer ∙ l.regular.refusing.none_aligned n a (state_of t m) m.cells)
    where
      placed-none : (o : Option Placed) → is_none (block_in o) ≡ is_none o
      placed-none None = refl
      placed-none (Some p) = refl

  pub aligned-new : (b : Block) → r ≡ Some b → IsNewBlock t t' m m' n b × (b.place % a ≡ 0)
  aligned-new b e = aligned-keeps.gives b e

  pub aligned-more : (x : Ticket) → r ≡ Some x.block → IsOwned t' m' (Made x ∷ events)
  aligned-more x e =
      let new = (aligned-keeps.gives x.block e).0 in
      more-owned t t' m m' events x aligned-again aligned-all new.out (s.made x.block e)
      (each-from (λ (y : Ticket). IsOutOf t m y.block) (λ (y : Ticket). AreApartIn t' m' x.block y.block) (live_of events) (λ y. new.fresh y.block) h.out)

-- ---- a block that is changed

-- what stands where a live block became another
changed-owned : (t t' : LayerModel) (m m' : Memory) (events : List Event) (b x : Ticket) → IsMade t.rules → IsOwned t m events → is_live events b ≡ true → IsAgain t t' m m'
    → ((c : Block) → IsOutOf t m c → IsCleanOf t m c → AreApartIn t m b.block c → IsLeft t t' m m' c) → IsOutOf t' m' x.block → IsCleanOf t' m' x.block
    → ((c : Block) → IsOutOf t m c → AreApartIn t m b.block c → AreApartIn t' m' x.block c) → IsOwned t' m' (Made x ∷ (Gone b ∷ events))
changed-owned t t' m m' events b x l h k g left out clean apart =
    let others = each-without (λ (y : Ticket). IsLeft t t' m m' y.block) b (live_of events) (others-left t t' m m' events l h b k left) in
    let pairs = each_pair-without (λ (y z : Ticket). AreApartIn t m y.block z.block) b (live_of events) h.apart in
    let Q : Ticket → Type 0 = λ y. (y ≡ b) ⊎ AreApartIn t m b.block y.block in
    let R : Ticket → Type 0 = λ y. y ≢ b → AreApartIn t' m' x.block y.block in
    more-owned t t' m m' (Gone b ∷ events) x g (left-owned t t' m m' (without b (live_of events)) g others pairs) out clean
    (each-without (λ (y : Ticket). AreApartIn t' m' x.block y.block) b (live_of events)
    (each-both (λ (y : Ticket). IsOutOf t m y.block) Q R (live_of events) (λ y o q n. elim q [ inl e ↦ absurd (n e) | inr a ↦ apart y.block o a ]) h.out (others-apart t m events l h b k)))

-- an event of a change leaves a third block as it was
pub changed-other : (events gone events' : List Event) (b x c : Ticket) → gone ≡ Gone b ∷ events → events' ≡ Made x ∷ gone → c.number ≢ b.number → c.number ≢ x.number → is_live events' c ≡ is_live events c
changed-other events gone events' b x c e e' n k = made-other gone events' x c e' k ∙ gone-other events gone b c e n

module _ (t t' : LayerModel) (m m' : Memory) (events : List Event) (b : Ticket) (b' : Block) (delta : ℕ) (l : IsMade t.rules) (h : IsOwned t m events) (k : is_live events b ≡ true) where
  expanded-laws : (r : Bool) → Expands t t' m m' b.block b' delta r → ExpandKeeps t t' m m' b.block b' r
  expanded-laws r a = expanded-keeps t t' m m' b.block b' delta r l h.stands (live-out t m events l h b k) a

  expanded-again : (r : Bool) → Expands t t' m m' b.block b' delta r → IsAgain t t' m m'
  expanded-again r a = let s = expanded-laws r a in record { opened = a.opened ∙ h.opened; stands = s.stands; size = a.frame.size }

  expanded-left : (r : Bool) → Expands t t' m m' b.block b' delta r → (c : Block) → IsOutOf t m c → IsCleanOf t m c → (r ≡ true → AreApartIn t m b.block c) → IsLeft t t' m m' c
  expanded-left r a c o w p = record { out = (expanded-laws r a).out c o p; extent = (expanded-laws r a).extents c o p; clean = (a.others c o p).clean w; bytes = (a.others c o p).bytes }

  pub unexpanded-owned : Expands t t' m m' b.block b' delta false → IsOwned t' m' events
  unexpanded-owned a =
      let again = expanded-again false a in
      let o = left-owned t t' m m' (live_of events) again (all-left t t' m m' events h (λ c o w. expanded-left false a c o w (λ e. absurd (cc)))) h.apart in
      record { opened = again.opened; stands = again.stands; out = o.out; clean = o.clean; apart = o.apart }

  pub unexpanded-bytes : Expands t t' m m' b.block b' delta false → (c : Ticket) → is_live events c ≡ true → slice_range m'.bytes c.block.place (end_of c.block) ≡ slice_range m.bytes c.block.place (end_of c.block)
  unexpanded-bytes a c j =
      slice-same m.bytes m'.bytes c.block.place (end_of c.block) a.frame.size
      (expanded-left false a c.block (live-out t m events l h c j) (live-clean t m events l h c j) (λ e. absurd (cc))).bytes

  pub expanded-owned : (x : Ticket) → x.block ≡ b' → Expands t t' m m' b.block b' delta true → IsOwned t' m' (Made x ∷ (Gone b ∷ events))
  expanded-owned x e a =
      let s = expanded-laws true a in
      changed-owned t t' m m' events b x l h k (expanded-again true a) (λ c o w p. expanded-left true a c o w (λ q. p))
      (rw e s.gives) (rw e (a.carried.clean (live-clean t m events l h b k))) (rw e (λ c o p. s.apart c o p))

  pub expanded-bytes : Expands t t' m m' b.block b' delta true → (c : Ticket) → is_live events c ≡ true → c.number ≢ b.number
      → slice_range m'.bytes c.block.place (end_of c.block) ≡ slice_range m.bytes c.block.place (end_of c.block)
  expanded-bytes a c j n =
      slice-same m.bytes m'.bytes c.block.place (end_of c.block) a.frame.size
      (expanded-left true a c.block (live-out t m events l h c j) (live-clean t m events l h c j) (λ q. other-apart t m events l h b k c j n)).bytes

  pub expanded-block : Expands t t' m m' b.block b' delta true → b' ≡ with_len b.block (b.block.len + delta)
  expanded-block a = a.block

  pub expanded-carried : Expands t t' m m' b.block b' delta true → end_of b' ≤ length m'.bytes
      → take b.block.len (slice_range m'.bytes b'.place (end_of b')) ≡ slice_range m.bytes b.block.place (end_of b.block)
  expanded-carried a room =
      take-first m.bytes m'.bytes b.block.place b'.place b.block.len b'.len (live-room t m events l h b k) room (omega (arith, ap (λ (x : Block). x.len) a.block)) a.carried.bytes

module _ (t t' : LayerModel) (m m' : Memory) (events : List Event) (b : Ticket) (b' : Block) (n : ℕ) (l : IsMade t.rules) (h : IsOwned t m events) (k : is_live events b ≡ true) where
  moved-laws : (r : Bool) → Reallocates t t' m m' b.block b' n r → ReallocateKeeps t t' m m' b.block b' n r
  moved-laws r a = reallocated-keeps t t' m m' b.block b' n r l h.stands (live-out t m events l h b k) a

  moved-again : (r : Bool) → Reallocates t t' m m' b.block b' n r → IsAgain t t' m m'
  moved-again r a = let s = moved-laws r a in record { opened = a.opened ∙ h.opened; stands = s.stands; size = a.frame.size }

  moved-left : (r : Bool) → Reallocates t t' m m' b.block b' n r → (c : Block) → IsOutOf t m c → IsCleanOf t m c → (r ≡ true → AreApartIn t m b.block c) → IsLeft t t' m m' c
  moved-left r a c o w p = record { out = (moved-laws r a).out c o p; extent = (moved-laws r a).extents c o p; clean = (a.others c o p).clean w; bytes = (a.others c o p).bytes }

  pub unmoved-owned : Reallocates t t' m m' b.block b' n false → IsOwned t' m' events
  unmoved-owned a =
      let again = moved-again false a in
      let o = left-owned t t' m m' (live_of events) again (all-left t t' m m' events h (λ c o w. moved-left false a c o w (λ e. absurd (cc)))) h.apart in
      record { opened = again.opened; stands = again.stands; out = o.out; clean = o.clean; apart = o.apart }

  pub unmoved-bytes : Reallocates t t' m m' b.block b' n false → (c : Ticket) → is_live events c ≡ true → slice_range m'.bytes c.block.place (end_of c.block) ≡ slice_range m.bytes c.block.place (end_of c.block)
  unmoved-bytes a c j =
      slice-same m.bytes m'.bytes c.block.place (end_of c.block) a.frame.size
      (moved-left false a c.block (live-out t m events l h c j) (live-clean t m events l h c j) (λ e. absurd (cc))).bytes

  pub moved-len : Reallocates t t' m m' b.block b' n true → b'.len ≡ n
  moved-len a = (moved-laws true a).len refl

  pub moved-owned : (x : Ticket) → x.block ≡ b' → 1 ≤ n → Reallocates t t' m m' b.block b' n true → IsOwned t' m' (Made x ∷ (Gone b ∷ events))
  moved-owned x e some a =
      let s = moved-laws true a in
      let one : 1 ≤ b'.len = omega (arith, moved-len a, some) in
      changed-owned t t' m m' events b x l h k (moved-again true a) (λ c o w p. moved-left true a c o w (λ q. p))
      (rw e (s.gives one)) (rw e ((a.carried one).clean (live-clean t m events l h b k))) (rw e (λ c o p. s.apart one c o p))

  pub moved-bytes : Reallocates t t' m m' b.block b' n true → (c : Ticket) → is_live events c ≡ true → c.number ≢ b.number
      → slice_range m'.bytes c.block.place (end_of c.block) ≡ slice_range m.bytes c.block.place (end_of c.block)
  moved-bytes a c j d =
      slice-same m.bytes m'.bytes c.block.place (end_of c.block) a.frame.size
      (moved-left true a c.block (live-out t m events l h c j) (live-clean t m events l h c j) (λ q. other-apart t m events l h b k c j d)).bytes

  pub moved-carried : Reallocates t t' m m' b.block b' n true → 1 ≤ n → end_of b' ≤ length m'.bytes
      → take (min b.block.len n) (slice_range m'.bytes b'.place (end_of b')) ≡ take n (slice_range m.bytes b.block.place (end_of b.block))
  moved-carried a some room =
      let e = moved-len a in
      let carried = (a.carried (omega (arith, e, some))).bytes in
      let q : b'.place + b'.len ≡ b'.place + n = omega arith in
      ap (λ upto. take (min b.block.len n) (slice_range m'.bytes b'.place upto)) q
      ∙ take-carried m.bytes m'.bytes b.block.place b'.place b.block.len n (live-room t m events l h b k) (omega arith) (λ i lt. carried i (rw e lt))

-- ---- a question

pub asked_owns : (t t' : LayerModel) (m : Memory) (events : List Event) (b : Block) (r : Bool) → IsMade t.rules → IsOwned t m events → Owns t t' b r → IsOwned t' m events
asked_owns t t' m events b r l h a =
    let k = owned-keeps t t' m b r l h.stands a in
    record {
      opened = a.opened ∙ h.opened;
      stands = k.stands;
      out = each-from (λ (x : Ticket). IsOutOf t m x.block) (λ (x : Ticket). IsOutOf t' m x.block) (live_of events) (λ x o. k.out x.block o) h.out;
      clean = each-from (λ (x : Ticket). IsCleanOf t m x.block) (λ (x : Ticket). IsCleanOf t' m x.block) (live_of events) (λ x o. k.clean x.block o) h.clean;
      apart = each_pair-from (λ (x y : Ticket). AreApartIn t m x.block y.block) (λ (x y : Ticket). AreApartIn t' m x.block y.block) (live_of events) (λ x y. apart-moved t t' m m x.block y.block (k.extents x.block) (k.extents y.block)) h.apart;
    }

pub live-routed : (t : LayerModel) (m : Memory) (events : List Event) → IsMade t.rules → IsOwned t m events → (b : Ticket) → is_live events b ≡ true → IsRoutedIn t b.block
live-routed t m events l h b k = out-routed t m b.block l h.stands (live-out t m events l h b k)

-- ---- tests in the code

pub or-left : (a b : Bool) → a ≡ true → true ≡ (a || b)
or-left true b e = refl
or-left false b e = absurd (cc)

pub or-right : (a b r : Bool) → a ≡ false → r ≡ b → r ≡ (a || b)
or-right true b r e q = absurd (cc)
or-right false b r e q = q

pub not_true : (b : Bool) → not b ≡ true → b ≡ false
not_true true h = absurd (cc)
not_true false h = refl

pub not_false : (b : Bool) → not b ≡ false → b ≡ true
not_false true h = refl
not_false false h = absurd (cc)

pub reallocates-as : (t t' : LayerModel) (m m' : Memory) (b b' : Block) (n : ℕ) (r s : Bool) → r ≡ s → Reallocates t t' m m' b b' n r → Reallocates t t' m m' b b' n s
reallocates-as t t' m m' b b' n r s e a = subst (λ x. Reallocates t t' m m' b b' n x) e a

pub changed-events : (events gone events' : List Event) (w b y z x : Ticket) → gone ≡ Gone w ∷ events → w ≡ b → events' ≡ Made y ∷ gone → y ≡ z → z ≡ x → events' ≡ Made x ∷ (Gone b ∷ events)
changed-events events gone events' w b y z x e p e' q k =
    e' ∙ (ap (λ (v : Ticket). Made v ∷ gone) (q ∙ k) ∙ ap (λ (es : List Event). Made x ∷ es) (e ∙ ap (λ (v : Ticket). Gone v ∷ events) p))

pub unmoved-same : (t t' : LayerModel) (m m' : Memory) (b b' : Block) (n : ℕ) → IsMade t.rules → Reallocates t t' m m' b b' n false → Reallocates t t' m m' b b n false
unmoved-same t t' m m' b b' n l a = subst (λ (x : Block). Reallocates t t' m m' b x n false) (refused-reallocate t t' m m' b b' n l a).0 a

pub expands-as : (t t' : LayerModel) (m m' : Memory) (b b' : Block) (delta : ℕ) (r s : Bool) → r ≡ s → Expands t t' m m' b b' delta r → Expands t t' m m' b b' delta s
expands-as t t' m m' b b' delta r s e a = subst (λ x. Expands t t' m m' b b' delta x) e a

pub unexpanded-same : (t t' : LayerModel) (m m' : Memory) (b b' : Block) (delta : ℕ) → IsMade t.rules → Expands t t' m m' b b' delta false → Expands t t' m m' b b delta false
unexpanded-same t t' m m' b b' delta l a = subst (λ (x : Block). Expands t t' m m' b x delta false) (refused-expand t t' m m' b b' delta l a).0 a

-- only these bytes were written
pub only-written : {L : Type 0} (root : L) (events : List Event) (m m' : Memory) (place : ℕ) (given : List ℕ) → m' ≡ record m { bytes = write_from m.bytes place given }
    → WritesIn (record { root = root; memory = m; events = events }) (record { root = root; memory = m'; events = events }) place given
unfolding WritesIn
only-written {L} root events m m' place given e = let with_memory : Memory → Owned L = λ x. record { root = root; memory = x; events = events } in ap with_memory e
