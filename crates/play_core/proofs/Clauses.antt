-- The clauses on a run of words, from what it did.
use Rattle.std.proofs.Common.{◌≡◌, ℕ, ◌⊎◌, inl, inr, true, List, Option, Some, None, Ok, Err, refl, sym, subst}
use Rattle.std.specs.Prelude.{IsOk, IsErr}
use Rattle.space_core.specs.Memory.{Memory}
use Rattle.layer_rules.specs.After.{Opening}
use Rattle.layer_rules.specs.Rules.{Rules}
use Rattle.source_sink.specs.Counts.{Rose}
use Rattle.expr_reader.specs.Trees.{Tree}
use Rattle.play_core.specs.declared.Status.{Status}
use Rattle.play_core.specs.declared.Status.TheVariants.{Good, Usage, Expression, ReadFault, WriteFault, OpeningRefused, NoMemory}
use Rattle.play_core.specs.Asked.{Asked, Nothing, Refused, Checks, Replays, MayAsk, root_of, opening_of}
use Rattle.play_core.specs.CheckText.{check_text}
use Rattle.play_core.specs.Command.{Command, check, replay, IsCheck, IsReplay}
use Rattle.play_core.specs.Devices.{Reading, Writing}
use Rattle.play_core.specs.Runs.{HasAllFree, TextPut, MaySay, Opens, Runs, IsEarly, IsStatusWhere}
use Rattle.expr_reader.specs.Answers.{EachTextIsReadOnce}
use Rattle.play_core.proofs.Asking.{asks_once}
use Rattle.play_core.proofs.Whole.{ran_late, says_other, says_fault, says_status}

-- whatever the command asks for, this is what was done
abbrev pub AllRun : Option Command → (r r' : Reading) (w w' : Writing) → Memory → (end : Status) → Type 0
AllRun command r r' w w' m end = (asked : Asked) → MayAsk command asked → Runs asked r r' w w' m end

-- ---- of one text, or none for want of memory

may_other : (status : Status) (text : List ℕ) (r r' : Reading) (w w' : Writing) (m : Memory) (end : Status) → MaySay status text r r' w w' m end → (end ≡ NoMemory → ⊥) → (end ≡ status → ⊥) → (end ≡ WriteFault → ⊥) → ⊥
may_other status text r r' w w' m end (inl h) a b c = a h.status
may_other status text r r' w w' m end (inr h) a b c = says_other status text w w' end h.put b c

may_status : (status : Status) (text : List ℕ) (r r' : Reading) (w w' : Writing) (m : Memory) (end : Status) → MaySay status text r r' w w' m end → ((Rose w.faults w'.faults ⊎ (end ≡ NoMemory)) → ⊥) → end ≡ status
may_status status text r r' w w' m end (inl h) n = absurd (n (inr h.status))
may_status status text r r' w w' m end (inr h) n = says_status status text w w' end h.put (λ x. n (inl x))

may_fault : (status : Status) (text : List ℕ) (r r' : Reading) (w w' : Writing) (m : Memory) → MaySay status text r r' w w' m WriteFault → (WriteFault ≡ status → ⊥) → Rose w.faults w'.faults
may_fault status text r r' w w' m (inl h) n = absurd (let e : WriteFault ≡ NoMemory = h.status in cc)
may_fault status text r r' w w' m (inr h) n = says_fault status text w w' WriteFault h.put n

may_free : (status : Status) (text : List ℕ) (r r' : Reading) (w w' : Writing) (m : Memory) (end : Status) → MaySay status text r r' w w' m end → HasAllFree m
may_free status text r r' w w' m end (inl h) = h.free
may_free status text r r' w w' m end (inr h) = h.free

-- ---- Good

good_opens : (root : Rules) (opening : Opening) (r r' : Reading) (w w' : Writing) (m : Memory) → Opens root opening r r' w w' m Good → (w'.faults ≡ w.faults) × (r'.finished ≡ true) × (r'.faults ≡ r.faults)
good_opens root (Err node) r r' w w' m h = absurd (says_other _ _ w w' Good h.put (λ e. cc) (λ e. cc))
good_opens root (Ok o) r r' w w' m h = (h.2.put.counted, h.2.ended, h.2.taken.counted)

good_put : (text : List ℕ) (w w' : Writing) → TextPut Good text w w' Good → w'.faults ≡ w.faults
good_put text w w' (inl h) = h.1.counted
good_put text w w' (inr h) = absurd (let e : Good ≡ WriteFault = h.0 in cc)

good_counted : (asked : Asked) (r r' : Reading) (w w' : Writing) (m : Memory) → Runs asked r r' w w' m Good → w'.faults ≡ w.faults
good_counted Nothing r r' w w' m h = absurd (says_other _ _ w w' Good h.put (λ e. cc) (λ e. cc))
good_counted (Refused fault) r r' w w' m h = absurd (may_other _ _ r r' w w' m Good h (λ e. cc) (λ e. cc) (λ e. cc))
good_counted (Checks e) r r' w w' m (inl h) = absurd (let e : Good ≡ NoMemory = h.status in cc)
good_counted (Checks e) r r' w w' m (inr h) = good_put (check_text e) w w' h.put
good_counted (Replays e cells) r r' w w' m (inl h) = absurd (let e : Good ≡ NoMemory = h.status in cc)
good_counted (Replays e cells) r r' w w' m (inr h) = (good_opens (root_of e) (opening_of e cells) r r' w w' m h).0

good_read : (command : Option Command) (asked : Asked) (r r' : Reading) (w w' : Writing) (m : Memory) → IsReplay command → MayAsk command asked → Runs asked r r' w w' m Good → (r'.finished ≡ true) × (r'.faults ≡ r.faults)
good_read None asked r r' w w' m i a h = absurd i
good_read (Some (check text)) asked r r' w w' m i a h = absurd i
good_read (Some (replay text cells)) Nothing r r' w w' m i a h = absurd a
good_read (Some (replay text cells)) (Refused fault) r r' w w' m i a h = absurd (may_other _ _ r r' w w' m Good h (λ e. cc) (λ e. cc) (λ e. cc))
good_read (Some (replay text cells)) (Checks e) r r' w w' m i a h = absurd a
good_read (Some (replay text cells)) (Replays e n) r r' w w' m i a (inl h) = absurd (let e : Good ≡ NoMemory = h.status in cc)
good_read (Some (replay text cells)) (Replays e n) r r' w w' m i a (inr h) =
    let g = good_opens (root_of e) (opening_of e n) r r' w w' m h in (g.1, g.2)

pub runs_good : (law : EachTextIsReadOnce) (command : Option Command) (r r' : Reading) (w w' : Writing) (m : Memory) (end : Status) → AllRun command r r' w w' m end → end ≡ Good → (w'.faults ≡ w.faults) × (IsReplay command → (r'.finished ≡ true) × (r'.faults ≡ r.faults))
runs_good law command r r' w w' m end all e =
    let once = asks_once law command in
    let h = subst (λ (s : Status). Runs once.0 r r' w w' m s) e (all once.0 once.1) in
    (good_counted once.0 r r' w w' m h, λ i. good_read command once.0 r r' w w' m i once.1 h)

-- ---- Usage

usage_opens : (root : Rules) (opening : Opening) (r r' : Reading) (w w' : Writing) (m : Memory) → Opens root opening r r' w w' m Usage → ⊥
usage_opens root (Err node) r r' w w' m h = says_other _ _ w w' Usage h.put (λ e. cc) (λ e. cc)
usage_opens root (Ok o) r r' w w' m h = h.2

usage_by : (command : Option Command) (asked : Asked) (r r' : Reading) (w w' : Writing) (m : Memory) → MayAsk command asked → Runs asked r r' w w' m Usage → command ≡ None
usage_by None asked r r' w w' m a h = refl
usage_by (Some command) Nothing r r' w w' m a h = absurd a
usage_by (Some command) (Refused fault) r r' w w' m a h = absurd (may_other _ _ r r' w w' m Usage h (λ e. cc) (λ e. cc) (λ e. cc))
usage_by (Some command) (Checks e) r r' w w' m a h = absurd (may_other _ _ r r' w w' m Usage h (λ e. cc) (λ e. cc) (λ e. cc))
usage_by (Some command) (Replays e cells) r r' w w' m a (inl h) = absurd (let e : Usage ≡ NoMemory = h.status in cc)
usage_by (Some command) (Replays e cells) r r' w w' m a (inr h) = absurd (usage_opens (root_of e) (opening_of e cells) r r' w w' m h)

pub runs_usage : (law : EachTextIsReadOnce) (command : Option Command) (r r' : Reading) (w w' : Writing) (m : Memory) (end : Status) → AllRun command r r' w w' m end → IsStatusWhere end Usage (command ≡ None) (Rose w.faults w'.faults)
runs_usage law command r r' w w' m end all = (
  λ e. let once = asks_once law command in usage_by command once.0 r r' w w' m once.1 (subst (λ (s : Status). Runs once.0 r r' w w' m s) e (all once.0 once.1)),
  λ e n. let h = all Nothing (subst (λ (c : Option Command). MayAsk c Nothing) (sym e) refl) in says_status _ _ w w' end h.put n,
)

-- ---- Expression

expression_opens : (root : Rules) (opening : Opening) (r r' : Reading) (w w' : Writing) (m : Memory) → Opens root opening r r' w w' m Expression → ⊥
expression_opens root (Err node) r r' w w' m h = says_other _ _ w w' Expression h.put (λ e. cc) (λ e. cc)
expression_opens root (Ok o) r r' w w' m h = h.2

expression_by : (command : Option Command) (asked : Asked) (r r' : Reading) (w w' : Writing) (m : Memory) → MayAsk command asked → Runs asked r r' w w' m Expression → (fault : _) × MayAsk command (Refused fault)
expression_by command Nothing r r' w w' m a h = absurd (says_other _ _ w w' Expression h.put (λ e. cc) (λ e. cc))
expression_by command (Refused fault) r r' w w' m a h = (fault, a)
expression_by command (Checks e) r r' w w' m a h = absurd (may_other _ _ r r' w w' m Expression h (λ e. cc) (λ e. cc) (λ e. cc))
expression_by command (Replays e cells) r r' w w' m a (inl h) = absurd (let e : Expression ≡ NoMemory = h.status in cc)
expression_by command (Replays e cells) r r' w w' m a (inr h) = absurd (expression_opens (root_of e) (opening_of e cells) r r' w w' m h)

pub runs_expression : (law : EachTextIsReadOnce) (command : Option Command) (r r' : Reading) (w w' : Writing) (m : Memory) (end : Status) → AllRun command r r' w w' m end
    → IsStatusWhere end Expression ((fault : _) × MayAsk command (Refused fault)) (Rose w.faults w'.faults ⊎ (end ≡ NoMemory))
runs_expression law command r r' w w' m end all = (
  λ e. let once = asks_once law command in expression_by command once.0 r r' w w' m once.1 (subst (λ (s : Status). Runs once.0 r r' w w' m s) e (all once.0 once.1)),
  λ f n. may_status _ _ r r' w w' m end (all (Refused f.0) f.1) n,
)

-- ---- OpeningRefused

-- the command asks for a root whose opening is so
abbrev AsksWith : (IsSo : Opening → Type 0) → Option Command → Type 0
AsksWith IsSo command = (e : Tree) × (cells : ℕ) × MayAsk command (Replays e cells) × IsSo (opening_of e cells)

refused_opens : (root : Rules) (opening : Opening) (r r' : Reading) (w w' : Writing) (m : Memory) → Opens root opening r r' w w' m OpeningRefused → IsErr opening
refused_opens root (Err node) r r' w w' m h = refl
refused_opens root (Ok o) r r' w w' m h = absurd h.2

refused_by : (command : Option Command) (asked : Asked) (r r' : Reading) (w w' : Writing) (m : Memory) → MayAsk command asked → Runs asked r r' w w' m OpeningRefused → AsksWith IsErr command
refused_by command Nothing r r' w w' m a h = absurd (says_other _ _ w w' OpeningRefused h.put (λ e. cc) (λ e. cc))
refused_by command (Refused fault) r r' w w' m a h = absurd (may_other _ _ r r' w w' m OpeningRefused h (λ e. cc) (λ e. cc) (λ e. cc))
refused_by command (Checks e) r r' w w' m a h = absurd (may_other _ _ r r' w w' m OpeningRefused h (λ e. cc) (λ e. cc) (λ e. cc))
refused_by command (Replays e cells) r r' w w' m a (inl h) = absurd (let e : OpeningRefused ≡ NoMemory = h.status in cc)
refused_by command (Replays e cells) r r' w w' m a (inr h) = (e, cells, a, refused_opens (root_of e) (opening_of e cells) r r' w w' m h)

opens_status : (root : Rules) (opening : Opening) (r r' : Reading) (w w' : Writing) (m : Memory) (end : Status) → Opens root opening r r' w w' m end → IsErr opening → (Rose w.faults w'.faults → ⊥) → end ≡ OpeningRefused
opens_status root (Err node) r r' w w' m end h i n = says_status _ _ w w' end h.put n
opens_status root (Ok o) r r' w w' m end h i n = absurd cc

refused_from : (e : Tree) (cells : ℕ) (r r' : Reading) (w w' : Writing) (m : Memory) (end : Status) → Runs (Replays e cells) r r' w w' m end → IsErr (opening_of e cells) → ((Rose w.faults w'.faults ⊎ (end ≡ NoMemory)) → ⊥) → end ≡ OpeningRefused
refused_from e cells r r' w w' m end (inl h) i n = absurd (n (inr h.status))
refused_from e cells r r' w w' m end (inr h) i n = opens_status (root_of e) (opening_of e cells) r r' w w' m end h i (λ x. n (inl x))

pub runs_refused : (law : EachTextIsReadOnce) (command : Option Command) (r r' : Reading) (w w' : Writing) (m : Memory) (end : Status) → AllRun command r r' w w' m end
    → IsStatusWhere end OpeningRefused (AsksWith IsErr command) (Rose w.faults w'.faults ⊎ (end ≡ NoMemory))
runs_refused law command r r' w w' m end all = (
  λ e. let once = asks_once law command in refused_by command once.0 r r' w w' m once.1 (subst (λ (s : Status). Runs once.0 r r' w w' m s) e (all once.0 once.1)),
  λ f n. refused_from f.0 f.1 r r' w w' m end (all (Replays f.0 f.1) f.2) f.3 n,
)

-- ---- ReadFault

read_opens : (root : Rules) (opening : Opening) (r r' : Reading) (w w' : Writing) (m : Memory) → Opens root opening r r' w w' m ReadFault → IsOk opening × (r'.finished ≡ true) × Rose r.faults r'.faults
read_opens root (Err node) r r' w w' m h = absurd (says_other _ _ w w' ReadFault h.put (λ e. cc) (λ e. cc))
read_opens root (Ok o) r r' w w' m h = (refl, h.2.failed.finished, h.2.failed.rose)

read_by : (command : Option Command) (asked : Asked) (r r' : Reading) (w w' : Writing) (m : Memory) → MayAsk command asked → Runs asked r r' w w' m ReadFault → AsksWith IsOk command × (r'.finished ≡ true) × Rose r.faults r'.faults
read_by command Nothing r r' w w' m a h = absurd (says_other _ _ w w' ReadFault h.put (λ e. cc) (λ e. cc))
read_by command (Refused fault) r r' w w' m a h = absurd (may_other _ _ r r' w w' m ReadFault h (λ e. cc) (λ e. cc) (λ e. cc))
read_by command (Checks e) r r' w w' m a h = absurd (may_other _ _ r r' w w' m ReadFault h (λ e. cc) (λ e. cc) (λ e. cc))
read_by command (Replays e cells) r r' w w' m a (inl h) = absurd (let e : ReadFault ≡ NoMemory = h.status in cc)
read_by command (Replays e cells) r r' w w' m a (inr h) =
    let k = read_opens (root_of e) (opening_of e cells) r r' w w' m h in ((e, cells, a, k.0), k.1, k.2)

pub runs_read_fault : (law : EachTextIsReadOnce) (command : Option Command) (r r' : Reading) (w w' : Writing) (m : Memory) (end : Status) → AllRun command r r' w w' m end → end ≡ ReadFault → AsksWith IsOk command × (r'.finished ≡ true) × Rose r.faults r'.faults
runs_read_fault law command r r' w w' m end all e =
    let once = asks_once law command in read_by command once.0 r r' w w' m once.1 (subst (λ (s : Status). Runs once.0 r r' w w' m s) e (all once.0 once.1))

-- ---- WriteFault

write_opens : (root : Rules) (opening : Opening) (r r' : Reading) (w w' : Writing) (m : Memory) → Opens root opening r r' w w' m WriteFault → Rose w.faults w'.faults
write_opens root (Err node) r r' w w' m h = says_fault _ _ w w' WriteFault h.put (λ e. cc)
write_opens root (Ok o) r r' w w' m h = h.2.failed.rose

write_by : (asked : Asked) (r r' : Reading) (w w' : Writing) (m : Memory) → Runs asked r r' w w' m WriteFault → Rose w.faults w'.faults
write_by Nothing r r' w w' m h = says_fault _ _ w w' WriteFault h.put (λ e. cc)
write_by (Refused fault) r r' w w' m h = may_fault _ _ r r' w w' m h (λ e. cc)
write_by (Checks e) r r' w w' m h = may_fault _ _ r r' w w' m h (λ e. cc)
write_by (Replays e cells) r r' w w' m (inl h) = absurd (let e : WriteFault ≡ NoMemory = h.status in cc)
write_by (Replays e cells) r r' w w' m (inr h) = write_opens (root_of e) (opening_of e cells) r r' w w' m h

pub runs_write_fault : (law : EachTextIsReadOnce) (command : Option Command) (r r' : Reading) (w w' : Writing) (m : Memory) (end : Status) → AllRun command r r' w w' m end → end ≡ WriteFault → Rose w.faults w'.faults
runs_write_fault law command r r' w w' m end all e =
    let once = asks_once law command in write_by once.0 r r' w w' m (subst (λ (s : Status). Runs once.0 r r' w w' m s) e (all once.0 once.1))

-- ---- no cell is taken

free_opens : (root : Rules) (opening : Opening) (r r' : Reading) (w w' : Writing) (m : Memory) (end : Status) → Opens root opening r r' w w' m end → IsEarly end → HasAllFree m
free_opens root (Err node) r r' w w' m end h e = h.free
free_opens root (Ok o) r r' w w' m end h e = absurd (ran_late root _ h.0 r r' w w' end h.2 e)

free_by : (asked : Asked) (r r' : Reading) (w w' : Writing) (m : Memory) (end : Status) → Runs asked r r' w w' m end → IsEarly end → HasAllFree m
free_by Nothing r r' w w' m end h e = h.free
free_by (Refused fault) r r' w w' m end h e = may_free _ _ r r' w w' m end h
free_by (Checks x) r r' w w' m end h e = may_free _ _ r r' w w' m end h
free_by (Replays x cells) r r' w w' m end (inl h) e = h.free
free_by (Replays x cells) r r' w w' m end (inr h) e = free_opens (root_of x) (opening_of x cells) r r' w w' m end h e

pub runs_free : (law : EachTextIsReadOnce) (command : Option Command) (r r' : Reading) (w w' : Writing) (m : Memory) (end : Status) → AllRun command r r' w w' m end → IsEarly end → HasAllFree m
runs_free law command r r' w w' m end all e = let once = asks_once law command in free_by once.0 r r' w w' m end (all once.0 once.1) e

checked_by : (command : Option Command) (asked : Asked) (r r' : Reading) (w w' : Writing) (m : Memory) (end : Status) → IsCheck command → MayAsk command asked → Runs asked r r' w w' m end → HasAllFree m
checked_by None asked r r' w w' m end i a h = absurd i
checked_by (Some (replay text cells)) asked r r' w w' m end i a h = absurd i
checked_by (Some (check text)) Nothing r r' w w' m end i a h = absurd a
checked_by (Some (check text)) (Refused fault) r r' w w' m end i a h = may_free _ _ r r' w w' m end h
checked_by (Some (check text)) (Checks e) r r' w w' m end i a h = may_free _ _ r r' w w' m end h
checked_by (Some (check text)) (Replays e cells) r r' w w' m end i a h = absurd a

pub runs_checked : (law : EachTextIsReadOnce) (command : Option Command) (r r' : Reading) (w w' : Writing) (m : Memory) (end : Status) → AllRun command r r' w w' m end → IsCheck command → HasAllFree m
runs_checked law command r r' w w' m end all i = let once = asks_once law command in checked_by command once.0 r r' w w' m end i once.1 (all once.0 once.1)
