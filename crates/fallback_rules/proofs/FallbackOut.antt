-- What it says of a block that it is out of a fallback, as named facts.
use Rattle.std.proofs.Common.{◌≡◌, true, nat_le, arith}
use Rattle.std.proofs.lemmas.Bool.{and_from}
use Rattle.std.proofs.lemmas.Bool.Decides.{nat_tests}
use Rattle.space_core.specs.Cells.{Cells}
use Rattle.layer_rules.specs.declared.Block.{Block}
use Rattle.layer_rules.specs.Owning.{is_some_block}
use Rattle.layer_rules.specs.Rules.{Rules}
use Rattle.layer_rules.specs.State.{State, is_open}
use Rattle.layer_laws.proofs.Basics.{and-fst, and-snd}
use Rattle.fallback_rules.specs.FallbackRules.{fallback_rules}
use Rattle.fallback_rules.specs.FallbackMeanings.{IsOutFallback, OutOfFallback}

pub out-fallback : (p f : Rules) (b : Block) (s : State) (cells : Cells) → (fallback_rules p f).is_out b s cells ≡ true → IsOutFallback p f b s cells
unfolding fallback_rules
out-fallback p f b s cells h =
    let here = and-fst (is_some_block b s) _ h in
    let q : nat_le 1 b.len ≡ true = and-snd (is_open s) (nat_le 1 b.len) here in
    record { is_set = and-fst (is_open s) (nat_le 1 b.len) here; some = grind (arith, nat_tests); below = and-snd (is_some_block b s) _ h }

pub fallback-out : (p f : Rules) (b : Block) (s : State) (cells : Cells) → IsOutFallback p f b s cells → (fallback_rules p f).is_out b s cells ≡ true
unfolding fallback_rules
fallback-out p f b s cells o =
    let l = o.some in
    let q : nat_le 1 b.len ≡ true = grind (arith, nat_tests) in
    and_from _ _ (and_from _ _ o.is_set q) o.below

pub out_of_fallback : OutOfFallback
out_of_fallback p f b s cells = (out-fallback p f b s cells, fallback-out p f b s cells)
