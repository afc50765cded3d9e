-- RowKept: the rows of a heap after a call that keeps all of them but one, where a block is put on, changed or taken off.
use Rattle.std.proofs.Common.{◌≡◌, ◌≢◌, refl, sym, ap, subst, ◌∙◌, ℕ, suc, zero, ◌+◌, ◌<◌, Bool, true, false, not, ◌||◌, ◌&&◌, List, [], ◌∷◌, ◌++◌, length, take, set, get_or, arith}
use Rattle.std.proofs.lemmas.List.{map-append, take-map, set-get_or}
use Rattle.layer_rules.specs.Rows.{Each, EachPair}
use Rattle.owned_heap.specs.Ticket.{Ticket}
use Rattle.owned_heap.specs.Events.{is_same, made, is_live}
use Rattle.owned_heap.specs.Owned.{Owned, IsLive, bytes_of}
use Rattle.owned_heap.specs.Rows.{rows_of, IsRow, AreRows}
use Rattle.owned_heap.specs.declared.block.Event.{Event}
use Rattle.owned_heap.specs.declared.block.Event.TheVariants.{Made, Gone}
use Rattle.owned_heap.proofs.Among.{each-from, each-both, same-self, other_number}
use Rattle.owned_heap.proofs.RowParts.{each-at, each-set, each-take, each-snoc, AreOther, pair-snoc, pair-take, pair-before}

-- ---- one row after a call on the heap

or-true : (a b : Bool) → b ≡ true → (a || b) ≡ true
or-true true b h = refl
or-true false b h = h

other-and : (a b : Bool) → a ≡ false → b ≡ true → (not a && b) ≡ true
other-and true b e h = absurd (cc)
other-and false b e h = h

-- the block is a row still, with its bytes
pub record IsKept {L : Type 0} (h h' : Owned L) (c : Ticket) : Type 0 where
  pub row : IsRow h' c
  pub bytes : bytes_of h' c ≡ bytes_of h c

pub row-same : {L : Type 0} (h h' : Owned L) (c : Ticket) → IsRow h c → h'.events ≡ h.events → length (bytes_of h' c) ≡ c.block.len → IsRow h' c
row-same h h' c row e size = record { live = ap (λ (es : List Event). is_live es c) e ∙ row.live; numbered = omega (arith, ap made e, row.numbered); size = size }

module _ {L : Type 0} (h h' : Owned L) (c : Ticket) (row : IsRow h c) (same : bytes_of h' c ≡ bytes_of h c) where
  kept-live : IsLive h' c → c.number < made h'.events → IsKept h h' c
  kept-live live numbered = record { row = record { live = live; numbered = numbered; size = ap length same ∙ row.size }; bytes = same }

  pub kept-same : h'.events ≡ h.events → IsKept h h' c
  kept-same e = record { row = row-same h h' c row e (ap length same ∙ row.size); bytes = same }

  pub kept-made : (x : Ticket) → h'.events ≡ Made x ∷ h.events → IsKept h h' c
  kept-made x e = kept-live (ap (λ (es : List Event). is_live es c) e ∙ or-true (is_same x c) _ row.live) (omega (arith, ap made e, row.numbered))

  pub kept-gone : (x : Ticket) → c.number ≢ x.number → h'.events ≡ Gone x ∷ h.events → IsKept h h' c
  kept-gone x n e = kept-live (ap (λ (es : List Event). is_live es c) e ∙ other-and (is_same x c) _ (other_number x c n) row.live) (omega (arith, ap made e, row.numbered))

  pub kept-again : (x y : Ticket) → c.number ≢ x.number → h'.events ≡ Made y ∷ (Gone x ∷ h.events) → IsKept h h' c
  kept-again x y n e =
      kept-live (ap (λ (es : List Event). is_live es c) e ∙ or-true (is_same y c) _ (other-and (is_same x c) _ (other_number x c n) row.live)) (omega (arith, ap made e, row.numbered))

-- the newest block
pub newest-row : {L : Type 0} (h : Owned L) (events : List Event) (x : Ticket) → h.events ≡ Made x ∷ events → x.number ≡ made events → length (bytes_of h x) ≡ x.block.len → IsRow h x
newest-row h events x e n size = record {
  live = ap (λ (es : List Event). is_live es x) e ∙ ap (λ t. t || is_live events x) (same-self x);
  numbered = omega (arith, ap made e, n);
  size = size;
}

-- ---- all rows stay

kept-rows : {L : Type 0} (h h' : Owned L) (l : List Ticket) → Each (IsKept h h') l → rows_of h' l ≡ rows_of h l
kept-rows h h' [] k = refl
kept-rows h h' (x ∷ l) k = ap (λ row. row ∷ rows_of h' l) (k.0).bytes ∙ ap (λ rows. bytes_of h x ∷ rows) (kept-rows h h' l k.1)

module _ {L : Type 0} (h h' : Owned L) (l : List Ticket) (a : AreRows h l) where
  all-kept : ((c : Ticket) → IsRow h c → IsKept h h' c) → Each (IsKept h h') l
  all-kept kept = each-from (IsRow h) (IsKept h h') l kept a.each

  pub stayed-are : ((c : Ticket) → IsRow h c → IsKept h h' c) → AreRows h' l
  stayed-are kept = record { each = each-from (IsKept h h') (IsRow h') l (λ c k. k.row) (all-kept kept); apart = a.apart }

  pub stayed-rows : ((c : Ticket) → IsRow h c → IsKept h h' c) → rows_of h' l ≡ rows_of h l
  stayed-rows kept = kept-rows h h' l (all-kept kept)

  -- ---- a block is put on

  module _ (x : Ticket) (new : x.number ≡ made h.events) (kept : (c : Ticket) → IsRow h c → c.number ≢ x.number → IsKept h h' c) where
    old-other : (c : Ticket) → IsRow h c → c.number ≢ x.number
    old-other c r e = absurd (omega (arith, r.numbered, e, new))

    pub pushed-are : IsRow h' x → AreRows h' (l ++ x ∷ [])
    pushed-are row = record {
      each = each-snoc (IsRow h') l x (each-from (IsRow h) (IsRow h') l (λ c r. (kept c r (old-other c r)).row) a.each) row;
      apart = pair-snoc l x a.apart (each-from (IsRow h) (λ (c : Ticket). AreOther c x) l old-other a.each);
    }

    pub pushed-rows : rows_of h' (l ++ x ∷ []) ≡ rows_of h l ++ bytes_of h' x ∷ []
    pushed-rows = map-append (bytes_of h') l (x ∷ []) ∙ ap (λ rows. rows ++ bytes_of h' x ∷ []) (stayed-rows (λ c r. kept c r (old-other c r)))

-- ---- a block is changed, by a new one in its place or by a write

set-each : {L : Type 0} (h h' : Owned L) (l : List Ticket) (i : ℕ) (x y : Ticket) → i < length l → x ≡ get_or l i x → Each (IsRow h) l → EachPair AreOther l
    → ((c : Ticket) → IsRow h c → c.number ≢ x.number → IsKept h h' c) → IsRow h' y → Each (IsRow h') (set l i y)
set-each h h' [] i x y lt at each apart kept row = absurd (omega arith)
set-each h h' (a ∷ l) zero x y lt at each apart kept row =
    let other : Each (λ (c : Ticket). AreOther x c) l = subst (λ (b : Ticket). Each (AreOther b) l) (sym at) apart.0 in
    (row, each-both (IsRow h) (AreOther x) (IsRow h') l (λ c r n. (kept c r (λ e. n (sym e))).row) each.1 other)
set-each h h' (a ∷ l) (suc i) x y lt at each apart kept row =
    let in_rest : i < length l = omega arith in
    let other : AreOther a x = subst (AreOther a) (sym at) (each-at (AreOther a) l i x apart.0 in_rest) in
    ((kept a each.0 other).row, set-each h h' l i x y in_rest at each.1 apart.1 kept row)

set-rows : {L : Type 0} (h h' : Owned L) (l : List Ticket) (i : ℕ) (x y : Ticket) → i < length l → x ≡ get_or l i x → Each (IsRow h) l → EachPair AreOther l
    → ((c : Ticket) → IsRow h c → c.number ≢ x.number → IsKept h h' c) → rows_of h' (set l i y) ≡ set (rows_of h l) i (bytes_of h' y)
set-rows h h' [] i x y lt at each apart kept = absurd (omega arith)
set-rows h h' (a ∷ l) zero x y lt at each apart kept =
    let other : Each (λ (c : Ticket). AreOther x c) l = subst (λ (b : Ticket). Each (AreOther b) l) (sym at) apart.0 in
    ap (λ rows. bytes_of h' y ∷ rows) (kept-rows h h' l (each-both (IsRow h) (AreOther x) (IsKept h h') l (λ c r n. kept c r (λ e. n (sym e))) each.1 other))
set-rows h h' (a ∷ l) (suc i) x y lt at each apart kept =
    let in_rest : i < length l = omega arith in
    let other : AreOther a x = subst (AreOther a) (sym at) (each-at (AreOther a) l i x apart.0 in_rest) in
    ap (λ row. row ∷ rows_of h' (set l i y)) (kept a each.0 other).bytes ∙ ap (λ rows. bytes_of h a ∷ rows) (set-rows h h' l i x y in_rest at each.1 apart.1 kept)

-- the one that comes is other than all but the one that goes
set-apart : (l : List Ticket) (i : ℕ) (x y : Ticket) → i < length l → x ≡ get_or l i x → EachPair AreOther l → Each (λ (c : Ticket). c.number ≢ x.number → AreOther c y) l → EachPair AreOther (set l i y)
set-apart [] i x y lt at apart new = absurd (omega arith)
set-apart (a ∷ l) zero x y lt at apart new =
    let other : Each (λ (c : Ticket). AreOther x c) l = subst (λ (b : Ticket). Each (AreOther b) l) (sym at) apart.0 in
    (each-both (AreOther x) (λ (c : Ticket). c.number ≢ x.number → AreOther c y) (AreOther y) l (λ c n f e. f (λ q. n (sym q)) (sym e)) other new.1, apart.1)
set-apart (a ∷ l) (suc i) x y lt at apart new =
    let in_rest : i < length l = omega arith in
    let other : AreOther a x = subst (AreOther a) (sym at) (each-at (AreOther a) l i x apart.0 in_rest) in
    (each-set (AreOther a) l i y apart.0 (new.0 other), set-apart l i x y in_rest at apart.1 new.1)

module _ {L : Type 0} (h h' : Owned L) (l : List Ticket) (i : ℕ) (x : Ticket) (a : AreRows h l) (lt : i < length l) (at : x ≡ get_or l i x) (kept : (c : Ticket) → IsRow h c → c.number ≢ x.number → IsKept h h' c) where
  pub row-at : IsRow h x
  row-at = subst (IsRow h) (sym at) (each-at (IsRow h) l i x a.each lt)

  pub changed-are : (y : Ticket) → IsRow h' y → Each (λ (c : Ticket). c.number ≢ x.number → AreOther c y) l → AreRows h' (set l i y)
  changed-are y row new = record { each = set-each h h' l i x y lt at a.each a.apart kept row; apart = set-apart l i x y lt at a.apart new }

  pub changed-rows : (y : Ticket) → rows_of h' (set l i y) ≡ set (rows_of h l) i (bytes_of h' y)
  changed-rows y = set-rows h h' l i x y lt at a.each a.apart kept

  -- by a new one
  pub replaced-are : (y : Ticket) → y.number ≡ made h.events → IsRow h' y → AreRows h' (set l i y)
  replaced-are y new row = changed-are y row (each-from (IsRow h) (λ (c : Ticket). c.number ≢ x.number → AreOther c y) l (λ c r n e. absurd (omega (arith, r.numbered, e, new))) a.each)

  -- by a write
  pub same-place : set l i x ≡ l
  same-place = ap (set l i) at ∙ set-get_or l i x

  pub written-are : IsRow h' x → AreRows h' l
  written-are row = subst (AreRows h') same-place (changed-are x row (each-from (IsRow h) (λ (c : Ticket). c.number ≢ x.number → AreOther c x) l (λ c r n. n) a.each))

  pub written-rows : rows_of h' l ≡ set (rows_of h l) i (bytes_of h' x)
  written-rows = ap (rows_of h') (sym same-place) ∙ changed-rows x

-- ---- the last block is taken off

module _ {L : Type 0} (h h' : Owned L) (l : List Ticket) (n : ℕ) (x : Ticket) (a : AreRows h l) (size : length l ≡ n + 1) (at : x ≡ get_or l n x) (kept : (c : Ticket) → IsRow h c → c.number ≢ x.number → IsKept h h' c) where
  front-kept : Each (IsKept h h') (take n l)
  front-kept =
      let other : Each (λ (c : Ticket). AreOther c x) (take n l) = subst (λ (b : Ticket). Each (λ (c : Ticket). AreOther c b) (take n l)) (sym at) (pair-before l n x a.apart (omega arith)) in
      each-both (IsRow h) (λ (c : Ticket). AreOther c x) (IsKept h h') (take n l) kept (each-take (IsRow h) l n a.each) other

  pub popped-are : AreRows h' (take n l)
  popped-are = record { each = each-from (IsKept h h') (IsRow h') (take n l) (λ c k. k.row) front-kept; apart = pair-take l n a.apart }

  pub popped-rows : rows_of h' (take n l) ≡ take n (rows_of h l)
  popped-rows = kept-rows h h' (take n l) front-kept ∙ sym (take-map (bytes_of h) n l)
