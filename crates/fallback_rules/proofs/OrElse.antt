-- The first of two that serves.
use Rattle.std.proofs.Common.{◌≡◌, refl, ℕ, Bool, true, false, ◌&&◌, List, Option, Some, None, is_none}
use Rattle.space_core.specs.Cells.{Cells}
use Rattle.layer_rules.specs.After.{After, after, Placed, Serve}
use Rattle.layer_rules.specs.Rules.{Rules}
use Rattle.layer_rules.specs.State.{State, is_open}
use Rattle.layer_laws.specs.HeldByMembers.{ServedInTurn, none_serves, refuses_then, one_serves, new_serves}
use Rattle.layer_laws.specs.Lawful.{KeptOnNone, KeepsOnNone}
use Rattle.layer_laws.proofs.Requests.{is_refusal, kept-next}
use Rattle.fallback_rules.specs.FallbackRules.{answer_or, or_else}

by-answer : (P : After (Option Placed) → Type 0) (next : Serve) (o : Option Placed) (s : State) (cells : Cells) → ((p : Placed) → o ≡ Some p → P (after (Some p) s cells)) → (o ≡ None → P (next s cells)) → P (answer_or o next s cells)
by-answer P next None s cells f g = g refl
by-answer P next (Some p) s cells f g = f p refl

-- what holds of the first where it serves, and of the second where that did not, holds
by-or_else : (P : After (Option Placed) → Type 0) (next : Serve) (r : After (Option Placed)) → ((p : Placed) → r.answer ≡ Some p → P (after (Some p) r.state r.cells)) → (r.answer ≡ None → P (next r.state r.cells)) → P (or_else next r)
by-or_else P next r f g = by-answer P next r.answer r.state r.cells f g

-- so what is told of the state and the table alone
pub after-or_else : (P : State → Cells → Type 0) (next : Serve) (r : After (Option Placed)) → P r.state r.cells → P (next r.state r.cells).state (next r.state r.cells).cells → P (or_else next r).state (or_else next r).cells
after-or_else P next r h k = by-or_else (λ x. P x.state x.cells) next r (λ p e. h) (λ e. k)

pub keeps-or_else : (next : Serve) (s : State) (cells : Cells) (r : After (Option Placed)) → KeepsOnNone next → KeptOnNone s cells r → KeptOnNone s cells (or_else next r)
keeps-or_else next s cells r keeps k = by-or_else (KeptOnNone s cells) next r (λ p e h. cc) (λ e. kept-next s cells r next keeps e k)

refusal-answer_or : (next : Serve) (o : Option Placed) (s : State) (cells : Cells) (x z : Bool) → is_none o ≡ x → (o ≡ None → is_refusal (next s cells) ≡ z) → is_refusal (answer_or o next s cells) ≡ (x && z)
refusal-answer_or next None s cells true z h k = k refl
refusal-answer_or next (Some p) s cells false z h k = refl
refusal-answer_or next None s cells false z h k = cc
refusal-answer_or next (Some p) s cells true z h k = cc

-- both refuse
pub none-or_else : (next : Serve) (r : After (Option Placed)) (x z : Bool) → is_refusal r ≡ x → (r.answer ≡ None → is_refusal (next r.state r.cells) ≡ z) → is_refusal (or_else next r) ≡ (x && z)
none-or_else next r x z h k = refusal-answer_or next r.answer r.state r.cells x z h k

-- members serve in turn, and those of the second after those of the first
pub served-or_else : (es : List Rules) (fits : State → Bool) (serve : ℕ → Serve) (then_serve : Serve) (s : State) (cells : Cells) (r : After (Option Placed)) → is_open s ≡ true → fits s ≡ true → ServedInTurn es fits serve s cells r
    → (is_open r.state ≡ true → fits r.state ≡ true → ServedInTurn es fits serve r.state r.cells (then_serve r.state r.cells)) → ServedInTurn es fits serve s cells (or_else then_serve r)
served-or_else es fits serve then_serve s cells _ o f (none_serves _ _) k = k o f
served-or_else es fits serve then_serve s cells _ o f (refuses_then _ t _ i r l q e m rest) k = refuses_then s t cells i _ l q e m (served-or_else es fits serve then_serve t _ r m.is_set m.in_order rest k)
served-or_else es fits serve then_serve s cells _ o f (one_serves _ t _ i p l q e m) k = one_serves s t cells i p l q e m
served-or_else es fits serve then_serve s cells _ o f (new_serves _ t _ i need q p l shut set e m) k = new_serves s t cells i need q p l shut set e m
