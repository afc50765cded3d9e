-- What was done is what the words ask for, whatever their expression is read as.
use Rattle.std.proofs.Common.{◌≡◌, ℕ, inr, List, Option, Some, None, refl, sym, subst}
use Rattle.space_core.specs.Memory.{Memory}
use Rattle.expr_reader.specs.declared.fault.ExprFault.{ExprFault}
use Rattle.expr_reader.specs.Answers.{IsAccepted, HasFault}
use Rattle.expr_reader.specs.Trees.{Tree}
use Rattle.play_core.specs.declared.Status.{Status}
use Rattle.play_core.specs.declared.Status.TheVariants.{Good, Usage}
use Rattle.play_core.specs.Asked.{Asked, Nothing, Refused, Checks, Replays, MayAsk, CommandAsks}
use Rattle.play_core.specs.CheckText.{check_text}
use Rattle.play_core.specs.Command.{Command, check, replay}
use Rattle.play_core.specs.Devices.{Reading, Writing}
use Rattle.play_core.specs.Runs.{HasAllFree, TextPut, MaySay, Runs}
use Rattle.play_core.specs.Telling.{usage_text}

-- no command
pub does_usage : (command : Option Command) (text : List ℕ) (r : Reading) (w w' : Writing) (m : Memory) (end : Status) → None ≡ command → text ≡ usage_text → TextPut Usage text w w' end → HasAllFree m
    → (asked : Asked) → MayAsk command asked → Runs asked r r w w' m end
does_usage command text r w w' m end none same put free asked a =
    let is : asked ≡ Nothing = subst (λ (c : Option Command). MayAsk c asked) (sym none) a in
    subst (λ (x : Asked). Runs x r r w w' m end) (sym is) (record { put = subst (λ (t : List ℕ). TextPut Usage t w w' end) same put; unread = refl; free = free })

-- what stands in an expression is told
checks_at : (text : List ℕ) (found : Tree) (r r' : Reading) (w w' : Writing) (m : Memory) (end : Status) → ((f : ExprFault) → HasFault text f → ⊥) → ((e : Tree) → IsAccepted text e → found ≡ e)
    → MaySay Good (check_text found) r r' w w' m end → (asked : Asked) → CommandAsks (check text) asked → Runs asked r r' w w' m end
checks_at text found r r' w w' m end never only says Nothing a = absurd a
checks_at text found r r' w w' m end never only says (Refused f) a = absurd (never f a)
checks_at text found r r' w w' m end never only says (Checks e) a = subst (λ (x : Tree). MaySay Good (check_text x) r r' w w' m end) (only e a) says
checks_at text found r r' w w' m end never only says (Replays e n) a = absurd a

pub does_check : (asks : Option Command) (text told : List ℕ) (found : Tree) (r : Reading) (w w' : Writing) (m : Memory) (end : Status) → Some (check text) ≡ asks → told ≡ check_text found
    → ((f : ExprFault) → HasFault text f → ⊥) → ((e : Tree) → IsAccepted text e → found ≡ e) → TextPut Good told w w' end → HasAllFree m → (asked : Asked) → MayAsk asks asked → Runs asked r r w w' m end
does_check asks text told found r w w' m end is same never only put free asked a =
    checks_at text found r r w w' m end never only (inr (record { put = subst (λ (t : List ℕ). TextPut Good t w w' end) same put; unread = refl; free = free })) asked
    (subst (λ (c : Option Command). MayAsk c asked) (sym is) a)

-- a trace is run
replays_at : (text : List ℕ) (cells : ℕ) (found : Tree) (r r' : Reading) (w w' : Writing) (m : Memory) (end : Status) → ((f : ExprFault) → HasFault text f → ⊥) → ((e : Tree) → IsAccepted text e → found ≡ e)
    → Runs (Replays found cells) r r' w w' m end → (asked : Asked) → CommandAsks (replay text cells) asked → Runs asked r r' w w' m end
replays_at text cells found r r' w w' m end never only runs Nothing a = absurd a
replays_at text cells found r r' w w' m end never only runs (Refused f) a = absurd (never f a)
replays_at text cells found r r' w w' m end never only runs (Checks e) a = absurd a
replays_at text cells found r r' w w' m end never only runs (Replays e n) a =
    subst (λ (x : Tree). Runs (Replays x n) r r' w w' m end) (only e a.0) (subst (λ (k : ℕ). Runs (Replays found k) r r' w w' m end) (sym a.1) runs)

pub does_replay : (asks : Option Command) (text : List ℕ) (cells : ℕ) (found : Tree) (r r' : Reading) (w w' : Writing) (m : Memory) (end : Status) → Some (replay text cells) ≡ asks
    → ((f : ExprFault) → HasFault text f → ⊥) → ((e : Tree) → IsAccepted text e → found ≡ e) → Runs (Replays found cells) r r' w w' m end → (asked : Asked) → MayAsk asks asked → Runs asked r r' w w' m end
does_replay asks text cells found r r' w w' m end is never only runs asked a =
    replays_at text cells found r r' w w' m end never only runs asked (subst (λ (c : Option Command). MayAsk c asked) (sym is) a)
