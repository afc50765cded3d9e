-- RowCalls: the rows after each call of a vector of blocks, from what the heap's call says.
use Rattle.std.proofs.Common.{◌≡◌, ◌≢◌, sym, ap, subst, ◌∙◌, ℕ, ◌+◌, ◌-◌, min, ◌<◌, ◌≤◌, Bool, true, false, List, [], ◌∷◌, ◌++◌, length, take, set, get_or, inl, inr, Option, Some, Err, arith}
use Rattle.std.specs.List.{swap_remove, slice_get, SameBelow}
use Rattle.std.proofs.lemmas.Option.{slice_get-get_or}
use Rattle.std.specs.Bool.{OnTrue, OnFalse}
use Rattle.std.proofs.Math.Seq.{get_or-append_seam, take-append_seam, take-set-lt}
use Rattle.std.proofs.lemmas.Bool.{cases_lt}
use Rattle.std.proofs.lemmas.List.{length-append, length-map, length-set, length-take-le, take-set-le, take-map, get_or-map, get_or-take, set-get_or}
use Rattle.layer_rules.specs.Rows.{Each}
use Rattle.layer_rules.specs.Layering.{LayerModel}
use Rattle.owned_heap.specs.Ticket.{Ticket}
use Rattle.owned_heap.specs.Events.{made}
use Rattle.owned_heap.specs.Owned.{Owned, bytes_of}
use Rattle.owned_heap.specs.Rows.{rows_of, IsRow, AreRows, PushesIn}
use Rattle.owned_heap.specs.declared.rows.PushError.{PushError}
use Rattle.owned_heap.specs.declared.rows.PushError.TheVariants.{NoRoom, Refused}
use Rattle.owned_heap.specs.declared.block.Event.TheVariants.{Made, Gone}
use Rattle.owned_heap.proofs.Among.{each-from}
use Rattle.owned_heap.proofs.RowParts.{each-at, each-take, AreOther, pair-take, pair-before, get_or-same, row-set, kept-below}
use Rattle.owned_heap.proofs.RowKept.{IsKept, row-same, kept-same, kept-made, kept-gone, kept-again, newest-row, stayed-are, stayed-rows, pushed-are, pushed-rows, row-at, changed-are, changed-rows, replaced-are, same-place, written-are, written-rows, popped-are, popped-rows}

pub inside-rows : {L : Type 0} (h : Owned L) (l : List Ticket) (i : ℕ) → i < length (rows_of h l) → i < length l
inside-rows h l i lt = omega (arith, length-map l (bytes_of h), lt)

-- a request that got a block
module _ {L : Type 0} (h h' : Owned L) (l : List Ticket) (x : Ticket) (a : AreRows h l) (events : h'.events ≡ Made x ∷ h.events) (new : x.number ≡ made h.events) (others : (c : Ticket) → c.number ≢ made h.events → bytes_of h' c ≡ bytes_of h c) where
  given-kept : (c : Ticket) → IsRow h c → c.number ≢ x.number → IsKept h h' c
  given-kept c r n = kept-made h h' c r (others c (λ e. n (e ∙ sym new))) x events

  pub given-are : length (bytes_of h' x) ≡ x.block.len → AreRows h' (l ++ x ∷ [])
  given-are size = pushed-are h h' l a x new given-kept (newest-row h' h.events x events new size)

  pub given-rows : rows_of h' (l ++ x ∷ []) ≡ rows_of h l ++ bytes_of h' x ∷ []
  given-rows = pushed-rows h h' l a x new given-kept

-- one that got none
module _ {L : Type 0} (h h' : Owned L) (l : List Ticket) (a : AreRows h l) (events : h'.events ≡ h.events) (same : (c : Ticket) → IsRow h c → bytes_of h' c ≡ bytes_of h c) where
  pub unmoved-are : AreRows h' l
  unmoved-are = stayed-are h h' l a (λ c r. kept-same h h' c r (same c r) events)

  pub unmoved-rows : rows_of h' l ≡ rows_of h l
  unmoved-rows = stayed-rows h h' l a (λ c r. kept-same h h' c r (same c r) events)

pub not-made : {L : Type 0} (h : Owned L) (c : Ticket) → IsRow h c → c.number ≢ made h.events
not-made h c r e = absurd (omega (arith, r.numbered, e))

-- a write
module _ {L : Type 0} (h h' : Owned L) (l : List Ticket) (i : ℕ) (x : Ticket) (a : AreRows h l) (lt : i < length l) (at : x ≡ get_or l i x) (events : h'.events ≡ h.events)
    (others : (c : Ticket) → c.number ≢ x.number → bytes_of h' c ≡ bytes_of h c) where
  wrote-kept : (c : Ticket) → IsRow h c → c.number ≢ x.number → IsKept h h' c
  wrote-kept c r n = kept-same h h' c r (others c n) events

  pub wrote-are : length (bytes_of h' x) ≡ x.block.len → AreRows h' l
  wrote-are size = written-are h h' l i x a lt at wrote-kept (row-same h h' x (row-at h h' l i x a lt at wrote-kept) events size)

  pub wrote-rows : rows_of h' l ≡ set (rows_of h l) i (bytes_of h' x)
  wrote-rows = written-rows h h' l i x a lt at wrote-kept

-- the row of a block
pub row-of : {L : Type 0} (h : Owned L) (l : List Ticket) (i : ℕ) (x : Ticket) → i < length l → x ≡ get_or l i x → get_or (rows_of h l) i [] ≡ bytes_of h x
row-of h l i x lt at = get_or-map (bytes_of h) l i x [] lt ∙ ap (bytes_of h) (sym at)

pub row-size : {L : Type 0} (h : Owned L) (l : List Ticket) (i : ℕ) (x : Ticket) → AreRows h l → i < length l → x ≡ get_or l i x → length (get_or (rows_of h l) i []) ≡ x.block.len
row-size h l i x a lt at = ap length (row-of h l i x lt at) ∙ (subst (IsRow h) (sym at) (each-at (IsRow h) l i x a.each lt)).size

pub set-length : {L : Type 0} (h h' : Owned L) (l : List Ticket) (i : ℕ) (y : Ticket) → length (rows_of h' (set l i y)) ≡ length (rows_of h l)
set-length h h' l i y = length-map (set l i y) (bytes_of h') ∙ (length-set l i y ∙ sym (length-map l (bytes_of h)))

-- a block with a new length, or the same where that is refused
pub record Moves {L : Type 0} (h h' : Owned L) (l : List Ticket) (i : ℕ) (y : Ticket) (n : ℕ) (r : Bool) : Type 0 where
  pub are : AreRows h' (set l i y)
  pub row : OnTrue r (rows_of h' (set l i y) ≡ set (rows_of h l) i (get_or (rows_of h' (set l i y)) i []))
  pub size : OnTrue r (length (get_or (rows_of h' (set l i y)) i []) ≡ n)
  pub kept : OnTrue r (take (min (length (get_or (rows_of h l) i [])) n) (get_or (rows_of h' (set l i y)) i []) ≡ take n (get_or (rows_of h l) i []))
  pub by_index : OnTrue r (SameBelow (get_or (rows_of h l) i []) (get_or (rows_of h' (set l i y)) i []) (min (length (get_or (rows_of h l) i [])) n))
  pub same : OnFalse r (rows_of h' (set l i y) ≡ rows_of h l)

module _ {L : Type 0} (h h' : Owned L) (l : List Ticket) (i : ℕ) (x y : Ticket) (n : ℕ) (a : AreRows h l) (lt : i < length l) (at : x ≡ get_or l i x)
    (others : (c : Ticket) → c.number ≢ x.number → c.number ≢ made h.events → bytes_of h' c ≡ bytes_of h c) where
  module _ (events : h'.events ≡ Made y ∷ (Gone x ∷ h.events)) (number : y.number ≡ made h.events) (size : length (bytes_of h' y) ≡ n) where
    moved-kept : (c : Ticket) → IsRow h c → c.number ≢ x.number → IsKept h h' c
    moved-kept c r d = kept-again h h' c r (others c d (not-made h c r)) x y d events

    moved-rows : rows_of h' (set l i y) ≡ set (rows_of h l) i (bytes_of h' y)
    moved-rows = changed-rows h h' l i x a lt at moved-kept y

    moved-row : get_or (rows_of h' (set l i y)) i [] ≡ bytes_of h' y
    moved-row = row-set (rows_of h l) (rows_of h' (set l i y)) i (bytes_of h' y) (omega (arith, length-map l (bytes_of h), lt)) moved-rows

    moved-bytes : take (min x.block.len n) (bytes_of h' y) ≡ take n (bytes_of h x)
        → take (min (length (get_or (rows_of h l) i [])) n) (get_or (rows_of h' (set l i y)) i []) ≡ take n (get_or (rows_of h l) i [])
    moved-bytes kept =
        ap (λ k. take (min k n) (get_or (rows_of h' (set l i y)) i [])) (row-size h l i x a lt at)
        ∙ (ap (take (min x.block.len n)) moved-row ∙ (kept ∙ ap (take n) (sym (row-of h l i x lt at))))

    moved : y.block.len ≡ n → take (min x.block.len n) (bytes_of h' y) ≡ take n (bytes_of h x) → Moves h h' l i y n true
    moved len kept = record {
      are = replaced-are h h' l i x a lt at moved-kept y number (newest-row h' (Gone x ∷ h.events) y events number (size ∙ sym len));
      row = moved-rows ∙ ap (set (rows_of h l) i) (sym moved-row);
      size = ap length moved-row ∙ size;
      kept = moved-bytes kept;
      by_index = kept-below (get_or (rows_of h l) i []) (get_or (rows_of h' (set l i y)) i []) n (moved-bytes kept);
      same = tt;
    }

  module _ (events : h'.events ≡ h.events) (same : bytes_of h' x ≡ bytes_of h x) where
    unmoved-kept : (c : Ticket) → IsRow h c → c.number ≢ x.number → IsKept h h' c
    unmoved-kept c r d = kept-same h h' c r (others c d (not-made h c r)) events

    unmoved : Moves h h' l i x n false
    unmoved =
        let r = row-at h h' l i x a lt at unmoved-kept in
        let e = changed-rows h h' l i x a lt at unmoved-kept x in
        record {
          are = subst (AreRows h') (sym (same-place h h' l i x a lt at unmoved-kept)) (written-are h h' l i x a lt at unmoved-kept (kept-same h h' x r same events).row);
          row = tt;
          size = tt;
          kept = tt;
          by_index = tt;
          same = e ∙ (ap (set (rows_of h l) i) (same ∙ sym (row-of h l i x lt at)) ∙ set-get_or (rows_of h l) i []);
        }

  pub reallocated : (r : Bool) → OnTrue r (h'.events ≡ Made y ∷ (Gone x ∷ h.events)) → OnTrue r (y.number ≡ made h.events) → OnTrue r (length (bytes_of h' y) ≡ n) → OnTrue r (y.block.len ≡ n)
      → OnTrue r (take (min x.block.len n) (bytes_of h' y) ≡ take n (bytes_of h x)) → OnFalse r (y ≡ x) → OnFalse r (h'.events ≡ h.events) → OnFalse r (bytes_of h' x ≡ bytes_of h x) → Moves h h' l i y n r
  reallocated true events number size len kept same same_events same_bytes = moved events number size len kept
  reallocated false events number size len kept same same_events same_bytes = subst (λ (b : Ticket). Moves h h' l i b n false) (sym same) (unmoved same_events same_bytes)

-- ---- a block is given back

module _ {L : Type 0} (h h' : Owned L) (x : Ticket) (events : h'.events ≡ Gone x ∷ h.events) (others : (c : Ticket) → c.number ≢ x.number → bytes_of h' c ≡ bytes_of h c) where
  gone-kept : (c : Ticket) → IsRow h c → c.number ≢ x.number → IsKept h h' c
  gone-kept c r n = kept-gone h h' c r (others c n) x n events

  -- the last
  module _ (l front : List Ticket) (a : AreRows h l) (e : l ≡ front ++ x ∷ []) where
    front-size : length l ≡ length front + 1
    front-size = ap length e ∙ length-append front (x ∷ [])

    front-is : take (length front) l ≡ front
    front-is = ap (take (length front)) e ∙ take-append_seam front (x ∷ [])

    last-is : x ≡ get_or l (length front) x
    last-is = sym (ap (λ (xs : List Ticket). get_or xs (length front) x) e ∙ get_or-append_seam front x [] x)

    pub last-gone-are : AreRows h' front
    last-gone-are = subst (AreRows h') front-is (popped-are h h' l (length front) x a front-size last-is gone-kept)

    pub last-gone-rows : rows_of h' front ≡ take (length (rows_of h l) - 1) (rows_of h l)
    last-gone-rows =
        let n : length front ≡ length (rows_of h l) - 1 = omega (arith, front-size, length-map l (bytes_of h)) in
        ap (rows_of h') (sym front-is) ∙ (popped-rows h h' l (length front) x a front-size last-is gone-kept ∙ ap (λ k. take k (rows_of h l)) n)

  -- one whose place the last takes
  module _ (l : List Ticket) (i n : ℕ) (a : AreRows h l) (lt : i < length l) (size : length l ≡ n + 1) (at : x ≡ get_or l i x) where
    abbrev last : Ticket
    last = get_or l n x

    front-are : AreRows h (take n l)
    front-are = record { each = each-take (IsRow h) l n a.each; apart = pair-take l n a.apart }

    -- the last one itself
    module _ (end : n ≤ i) where
      end-is : take n (set l i last) ≡ take n l
      end-is = take-set-le n l i last end

      at-end : x ≡ get_or l n x
      at-end = let e : i ≡ n = omega arith in at ∙ ap (λ k. get_or l k x) e

      end-are : AreRows h' (take n (set l i last))
      end-are = subst (AreRows h') (sym end-is) (popped-are h h' l n x a size at-end gone-kept)

      end-rows : rows_of h' (take n (set l i last)) ≡ take n (set (rows_of h l) i (get_or (rows_of h l) n []))
      end-rows = ap (rows_of h') end-is ∙ (popped-rows h h' l n x a size at-end gone-kept ∙ sym (take-set-le n (rows_of h l) i (get_or (rows_of h l) n []) end))

    -- one before it
    module _ (before : i < n) where
      before-is : take n (set l i last) ≡ set (take n l) i last
      before-is = take-set-lt n l i last before

      in-front : i < length (take n l)
      in-front = omega (arith, length-take-le n l, size, before)

      at-front : x ≡ get_or (take n l) i x
      at-front = at ∙ sym (get_or-take n l i x before)

      others-last : Each (λ (c : Ticket). AreOther c last) (take n l)
      others-last = pair-before l n x a.apart (omega (arith, size))

      last-kept : IsKept h h' last
      last-kept =
          let other : AreOther x last = subst (λ (b : Ticket). AreOther b last) (sym at-front) (each-at (λ (c : Ticket). AreOther c last) (take n l) i x others-last in-front) in
          gone-kept last (each-at (IsRow h) l n x a.each (omega (arith, size))) (λ e. other (sym e))

      before-are : AreRows h' (take n (set l i last))
      before-are =
          subst (AreRows h') (sym before-is)
          (changed-are h h' (take n l) i x front-are in-front at-front gone-kept last last-kept.row
          (each-from (λ (c : Ticket). AreOther c last) (λ (c : Ticket). c.number ≢ x.number → AreOther c last) (take n l) (λ c o k. o) others-last))

      before-rows : rows_of h' (take n (set l i last)) ≡ take n (set (rows_of h l) i (get_or (rows_of h l) n []))
      before-rows =
          let row : get_or (rows_of h l) n [] ≡ bytes_of h' last = row-of h l n last (omega (arith, size)) (get_or-same l n x) ∙ sym last-kept.bytes in
          ap (rows_of h') before-is
          ∙ (changed-rows h h' (take n l) i x front-are in-front at-front gone-kept last
          ∙ (ap (λ rows. set rows i (bytes_of h' last)) (sym (take-map (bytes_of h) n l))
          ∙ (ap (set (take n (rows_of h l)) i) (sym row) ∙ sym (take-set-lt n (rows_of h l) i (get_or (rows_of h l) n []) before))))

    swapped-are : AreRows h' (take n (set l i last))
    swapped-are = elim (cases_lt i n) [ inl before ↦ before-are before | inr end ↦ end-are end ]

    swapped-rows : rows_of h' (take n (set l i last)) ≡ take n (set (rows_of h l) i (get_or (rows_of h l) n []))
    swapped-rows = elim (cases_lt i n) [ inl before ↦ before-rows before | inr end ↦ end-rows end ]

  module _ (l rest : List Ticket) (i : ℕ) (a : AreRows h l) (lt : i < length l) (at : x ≡ get_or l i x) (e : rest ≡ swap_remove l i x) where
    one-more : length l ≡ (length l - 1) + 1
    one-more = omega (arith, lt)

    pub removed-are : AreRows h' rest
    removed-are = subst (AreRows h') (sym e) (swapped-are l i (length l - 1) a lt one-more at)

    pub removed-rows : rows_of h' rest ≡ swap_remove (rows_of h l) i []
    removed-rows =
        let n : length l - 1 ≡ length (rows_of h l) - 1 = omega (arith, length-map l (bytes_of h)) in
        ap (rows_of h') e ∙ (swapped-rows l i (length l - 1) a lt one-more at ∙ ap (λ k. take k (set (rows_of h l) i (get_or (rows_of h l) k []))) n)

-- the newest of a row
pub newest-at : (l l' : List Ticket) (x : Ticket) (n : ℕ) → l' ≡ l ++ x ∷ [] → n ≡ length l → slice_get l' n ≡ Some x
newest-at l l' x n e k =
    let inside : length l < length (l ++ x ∷ []) = omega (arith, length-append l (x ∷ [])) in
    rw (e, k) (slice_get-get_or (l ++ x ∷ []) (length l) x inside ∙ ap Some (get_or-append_seam l x [] x))

-- what the layers did is the same whatever a push answers beside
pub pushes-again : {L : Type 0} (A B : Type 0) (model : L → LayerModel) (old new : Owned L) (n : ℕ) (newest : Option Ticket) (e : PushError) → PushesIn {A = A} model old new n newest (Err e) → PushesIn {A = B} model old new n newest (Err e)
unfolding PushesIn
pushes-again A B model old new n newest NoRoom p = p
pushes-again A B model old new n newest Refused p = p
