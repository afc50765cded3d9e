-- What it says of a block that it is out of a list, as named facts.
use Rattle.std.proofs.Common.{◌≡◌, refl, subst, ℕ, true, Bool, ◌&&◌, List, Option, Some, None, is_some, unwrap_or, nat_le, arith}
use Rattle.std.proofs.lemmas.Bool.{and_from}
use Rattle.std.proofs.lemmas.Bool.Decides.{nat_tests}
use Rattle.space_core.specs.Cells.{Cells}
use Rattle.layer_rules.specs.declared.Block.{Block}
use Rattle.layer_rules.specs.Members.{nth}
use Rattle.layer_rules.specs.Owning.{is_some_block}
use Rattle.layer_rules.specs.Rules.{Rules}
use Rattle.layer_rules.specs.State.{State, is_open, child}
use Rattle.layer_laws.proofs.Basics.{and-fst, and-snd}
use Rattle.list_rules.specs.ListRules.{holder, list_rules}
use Rattle.list_rules.specs.ListMeanings.{IsOutMember, OutOfList}

has-member : (o : Option ℕ) (out : ℕ → Bool) → (is_some o && out (unwrap_or o 0)) ≡ true → (i : ℕ) × (o ≡ Some i) × (out i ≡ true)
has-member None out h = absurd (cc)
has-member (Some i) out h = (i, refl, h)

member-has : (o : Option ℕ) (out : ℕ → Bool) (i : ℕ) → o ≡ Some i → out i ≡ true → (is_some o && out (unwrap_or o 0)) ≡ true
member-has None out i e h = absurd (cc)
member-has (Some j) out i e h = let same : i ≡ j = cc in subst (λ k. out k ≡ true) same h

pub out-list : (es : List Rules) (b : Block) (s : State) (cells : Cells) → (list_rules es).is_out b s cells ≡ true → IsOutMember es b s cells
unfolding list_rules
out-list es b s cells h =
    let here = and-fst (is_some_block b s) _ h in
    let q : nat_le 1 b.len ≡ true = and-snd (is_open s) (nat_le 1 b.len) here in
    let m = has-member (holder es b s) (λ i. (nth es i).is_out b (child s i) cells) (and-snd (is_some_block b s) _ h) in
    record { is_set = and-fst (is_open s) (nat_le 1 b.len) here; some = grind (arith, nat_tests); number = m.0; held = m.1; below = m.2 }

pub list-out : (es : List Rules) (b : Block) (s : State) (cells : Cells) → IsOutMember es b s cells → (list_rules es).is_out b s cells ≡ true
unfolding list_rules
list-out es b s cells o =
    let l = o.some in
    let q : nat_le 1 b.len ≡ true = grind (arith, nat_tests) in
    and_from _ _ (and_from _ _ o.is_set q) (member-has (holder es b s) (λ i. (nth es i).is_out b (child s i) cells) o.number o.held o.below)

pub out_of_list : OutOfList
out_of_list es b s cells = (out-list es b s cells, list-out es b s cells)
