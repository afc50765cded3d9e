-- What words ask for.
use Rattle.std.proofs.Common.{◌≡◌, Option, Some, None, Result, Ok, Err, refl, ap, ◌∙◌}
use Rattle.expr_reader.specs.declared.fault.ExprFault.{ExprFault}
use Rattle.expr_reader.specs.Answers.{IsReadAs, EachTextIsReadOnce}
use Rattle.expr_reader.specs.Trees.{Tree as Expression}
use Rattle.play_core.specs.Asked.{Asked, Nothing, Refused, Checks, Replays, CommandAsks, MayAsk, AllWordsAskOnce}
use Rattle.play_core.specs.Command.{Command, check, replay, command_of, expression_in}

-- this, and no other
abbrev AsksOnce : Option Command → Type 0
AsksOnce command = (asked : Asked) × MayAsk command asked × ((other : Asked) → MayAsk command other → other ≡ asked)

err_is : (f g : ExprFault) → (let a : Result Expression ExprFault = Err f in a ≡ Err g) → f ≡ g
err_is f g h = cc

ok_is : (e f : Expression) → (let a : Result Expression ExprFault = Ok e in a ≡ Ok f) → e ≡ f
ok_is e f h = cc

ok_err : (e : Expression) (f : ExprFault) → (let a : Result Expression ExprFault = Ok e in a ≡ Err f) → ⊥
ok_err e f h = cc

err_ok : (f : ExprFault) (e : Expression) → (let a : Result Expression ExprFault = Err f in a ≡ Ok e) → ⊥
err_ok f e h = cc

-- by what the text of the expression is read as
by_reading : (command : Command) (r : Result Expression ExprFault) → IsReadAs (expression_in command) r
    → ((other : Result Expression ExprFault) → IsReadAs (expression_in command) other → other ≡ r) → AsksOnce (Some command)
by_reading (check text) (Err fault) h only = (Refused fault, h, is)
  where
    is : (other : Asked) → CommandAsks (check text) other → other ≡ Refused fault
    is Nothing k = absurd k
    is (Refused f) k = ap Refused (err_is f fault (only (Err f) k))
    is (Checks e) k = absurd (ok_err e fault (only (Ok e) k))
    is (Replays e n) k = absurd k
by_reading (check text) (Ok found) h only = (Checks found, h, is)
  where
    is : (other : Asked) → CommandAsks (check text) other → other ≡ Checks found
    is Nothing k = absurd k
    is (Refused f) k = absurd (err_ok f found (only (Err f) k))
    is (Checks e) k = ap Checks (ok_is e found (only (Ok e) k))
    is (Replays e n) k = absurd k
by_reading (replay text cells) (Err fault) h only = (Refused fault, h, is)
  where
    is : (other : Asked) → CommandAsks (replay text cells) other → other ≡ Refused fault
    is Nothing k = absurd k
    is (Refused f) k = ap Refused (err_is f fault (only (Err f) k))
    is (Checks e) k = absurd k
    is (Replays e n) k = absurd (ok_err e fault (only (Ok e) k.0))
by_reading (replay text cells) (Ok found) h only = (Replays found cells, (h, refl), is)
  where
    is : (other : Asked) → CommandAsks (replay text cells) other → other ≡ Replays found cells
    is Nothing k = absurd k
    is (Refused f) k = absurd (err_ok f found (only (Err f) k))
    is (Checks e) k = absurd k
    is (Replays e n) k = ap (λ x. Replays x n) (ok_is e found (only (Ok e) k.0)) ∙ ap (Replays found) k.1

pub asks_once : EachTextIsReadOnce → (command : Option Command) → AsksOnce command
asks_once read_once None = (Nothing, refl, λ other h. h)
asks_once read_once (Some command) =
    let once = read_once (expression_in command) in
    by_reading command once.0 once.1 once.2

pub all_words : EachTextIsReadOnce → AllWordsAskOnce
all_words read_once words = asks_once read_once (command_of words)
