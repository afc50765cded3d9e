-- Clearing: of the blocks that a vector had, the first are left, and the others were given back, the last one first.
use Rattle.std.proofs.Common.{◌≡◌, refl, sym, ap, ◌∙◌, ℕ, ◌+◌, ◌-◌, ◌≤◌, ◌<◌, Bool, true, false, not, ◌&&◌, inl, inr, List, ◌∷◌, ◌++◌, length, map, take, drop, arith}
use Rattle.std.proofs.lemmas.List.{length-take-le, take-take, get_or-take, drop_more}
use Rattle.std.proofs.lemmas.Bool.{cases_lt}
use Rattle.layer_rules.specs.Layering.{LayerModel}
use Rattle.owned_heap.specs.Ticket.{Ticket}
use Rattle.owned_heap.specs.Events.{is_same, is_live}
use Rattle.owned_heap.proofs.Among.{same-self}
use Rattle.owned_heap.specs.Rows.{Rows, block_at}
use Rattle.owned_heap.specs.declared.block.Event.{Event}
use Rattle.owned_heap.specs.declared.block.Event.TheVariants.{Gone}

pub record Clears {L : Type 0} (model : L → LayerModel) (initial now : Rows L) : Type 0 where
  pub sized : length now.blocks ≡ length now.rows
  pub fewer : length now.blocks ≤ length initial.blocks
  pub front : now.blocks ≡ take (length now.blocks) initial.blocks
  pub gone : (index : ℕ) → length now.blocks ≤ index → index < length initial.blocks → is_live now.heap.events (block_at initial.blocks index) ≡ false
  pub events : now.heap.events ≡ map Gone (drop (length now.blocks) initial.blocks) ++ initial.heap.events
  pub rules : (model now.heap.root).rules ≡ (model initial.heap.root).rules
  pub capacity : now.capacity ≡ initial.capacity

never : (a : Bool) → (a && false) ≡ false
never true = refl
never false = refl

module _ (initial old new : List Ticket) (n : ℕ) (size : length old ≡ n) (some : 0 < n) where
  left : new ≡ take (n - 1) old → length new ≡ n - 1
  left taken = ap length taken ∙ length-take-le (n - 1) old (omega arith)

  last-is : old ≡ take (length old) initial → block_at old (n - 1) ≡ block_at initial (n - 1)
  last-is front = ap (λ l. block_at l (n - 1)) front ∙ get_or-take (length old) initial (n - 1) (record { number = 0; block = record { place = 0; len = 0 } }) (omega arith)

  pub still-in_front : old ≡ take (length old) initial → new ≡ take (n - 1) old → new ≡ take (length new) initial
  still-in_front front taken = taken ∙ (ap (take (n - 1)) front ∙ (take-take (n - 1) (length old) initial (omega arith) ∙ ap (λ k. take k initial) (sym (left taken))))

  -- the last one of those that were left goes, and is live no more
  module _ (before after : List Event) (fewer : length old ≤ length initial) (front : old ≡ take (length old) initial) (taken : new ≡ take (n - 1) old) where
    pub still-gone : ((index : ℕ) → length old ≤ index → index < length initial → is_live before (block_at initial index) ≡ false) → after ≡ Gone (block_at old (n - 1)) ∷ before
        → (index : ℕ) → length new ≤ index → index < length initial → is_live after (block_at initial index) ≡ false
    still-gone gone then index low high =
        let now : after ≡ Gone (block_at initial (n - 1)) ∷ before = then ∙ ap (λ b. Gone b ∷ before) (last-is front) in
        elim (cases_lt index (length old)) [
          | inl lt ↦ (let at : index ≡ n - 1 = omega (arith, left taken, low, lt, size, some) in let self = same-self (block_at initial (n - 1)) in rw (at, now) (rw self refl))
          | inr le ↦ (let dead : is_live before (block_at initial index) ≡ false = gone index le high in rw (now, dead) (never (not (is_same (block_at initial (n - 1)) (block_at initial index)))))
        ]

    -- so the blocks that were given back are one more
    pub one-more-gone : (first : List Event) → before ≡ map Gone (drop (length old) initial) ++ first → after ≡ Gone (block_at old (n - 1)) ∷ before → after ≡ map Gone (drop (length new) initial) ++ first
    one-more-gone first was then =
        let next : n - 1 + 1 ≡ length old = omega arith in
        let split : drop (n - 1) initial ≡ block_at initial (n - 1) ∷ drop (length old) initial =
        drop_more initial (n - 1) (record { number = 0; block = record { place = 0; len = 0 } }) (omega arith) ∙ ap (λ k. block_at initial (n - 1) ∷ drop k initial) next in
        then ∙ (ap (λ b. Gone b ∷ before) (last-is front) ∙ (ap (λ events. Gone (block_at initial (n - 1)) ∷ events) was ∙ sym (ap (λ l. map Gone l ++ first) (ap (λ k. drop k initial) (left taken) ∙ split))))
