-- A run whose devices didn't fail ends as what is told, by what was asked for.
use Rattle.std.proofs.Common.{◌≡◌, ℕ, ◌⊎◌, ◌++◌, Bool, true, false, inl, inr, List, [], Option, Some, None, Ok, Err, refl, sym, subst, ap, ◌∙◌, append-nil}
use Rattle.space_core.specs.Memory.{Memory}
use Rattle.layer_rules.specs.After.{Opening}
use Rattle.layer_rules.specs.Rules.{Rules}
use Rattle.heap_core.specs.Performing.{Run, run_of}
use Rattle.source_sink.specs.Counts.{Rose}
use Rattle.source_sink.specs.Sources.{Takes, IsAtEnd}
use Rattle.play_core.specs.declared.Status.{Status}
use Rattle.play_core.specs.declared.Status.TheVariants.{Good, Usage, Expression, Trace, ReadFault, WriteFault, OpeningRefused, NoMemory}
use Rattle.play_core.specs.Asked.{Asked, Nothing, Refused, Checks, Replays, IsInput, root_of, opening_of}
use Rattle.play_core.specs.Devices.{Reading, Writing, Took, MayBe}
use Rattle.play_core.specs.Ran.{Ran}
use Rattle.play_core.specs.Runs.{HasAllFree, Leaves, TextPut, MaySay, Opens, Runs, IsStatusWhere, IsTold}
use Rattle.play_core.specs.Telling.{Telling, Only, Plays, telling, told_opening, status_of}
use Rattle.play_core.specs.Told.{Told, told}
use Rattle.play_core.proofs.Whole.{says_other}

-- ---- the input, by what was taken

some_is : {A : Type 0} (x y : A) → Some x ≡ Some y → x ≡ y
some_is x y h = cc

all_by : (old new : Option (List ℕ)) (bytes input : List ℕ) → old ≡ Some input → Takes old new bytes → IsAtEnd new → bytes ≡ input
all_by (Some before) (Some now) bytes input i t e = sym (append-nil bytes) ∙ ap (λ more. bytes ++ more) (sym e) ∙ sym t ∙ some_is before input i
all_by (Some before) None bytes input i t e = absurd t
all_by None (Some now) bytes input i t e = absurd t
all_by None None bytes input i t e = absurd cc

took_all : (r r' : Reading) (bytes input : List ℕ) → Took r r' bytes → r'.finished ≡ true → r.left ≡ Some input → bytes ≡ input
took_all r r' bytes input t e i = all_by r.left r'.left bytes input i t.taken (t.at_end e)

some_by : (old new : Option (List ℕ)) (bytes input : List ℕ) → old ≡ Some input → Takes old new bytes → (rest : List ℕ) × (input ≡ bytes ++ rest)
some_by (Some before) (Some now) bytes input i t = (now, sym (some_is before input i) ∙ t)
some_by (Some before) None bytes input i t = absurd t
some_by None (Some now) bytes input i t = absurd t
some_by None None bytes input i t = absurd cc

may_be : (r r' : Reading) (bytes input : List ℕ) (ended : Bool) → r'.finished ≡ ended → Took r r' bytes → r.left ≡ Some input → MayBe ended bytes input
may_be r r' bytes input true e t i = sym (took_all r r' bytes input t e i)
may_be r r' bytes input false e t i = some_by r.left r'.left bytes input i t.taken

-- ---- what is told, where no device failed

only_told : (status : Status) (text : List ℕ) (w w' : Writing) (m : Memory) (end : Status) → TextPut status text w w' end → HasAllFree m → (Rose w.faults w'.faults → ⊥) → IsTold (Only status text) w w' m end
only_told status text w w' m end (inl h) f n = (h.0, h.1.appended, f)
only_told status text w w' m end (inr h) f n = absurd (n h.1.2.rose)

may_told : (status : Status) (text : List ℕ) (r r' : Reading) (w w' : Writing) (m : Memory) (end : Status) → MaySay status text r r' w w' m end → (end ≡ NoMemory → ⊥) → (Rose w.faults w'.faults → ⊥)
    → IsTold (Only status text) w w' m end
may_told status text r r' w w' m end (inl h) a n = absurd (a h.status)
may_told status text r r' w w' m end (inr h) a n = only_told status text w w' m end h.put h.free n

-- the same text and run under what all is told
plays_told : (root : Rules) (all again : Told) (w w' : Writing) (m : Memory) (end : Status) → again ≡ all → IsTold (Plays root all) w w' m end → IsTold (Plays root again) w w' m end
plays_told root all again w w' m end e h = subst (λ (x : Told). IsTold (Plays root x) w w' m end) (sym e) h

ran_told : (root : Rules) (s t : Run) (r r' : Reading) (w w' : Writing) (m : Memory) (end : Status) (input : List ℕ) → Ran root s t r r' w w' end → Leaves root t m
    → (Rose r.faults r'.faults → ⊥) → (Rose w.faults w'.faults → ⊥) → r.left ≡ Some input → IsTold (Plays root (told root s input)) w w' m end
ran_told root s t r r' w w' m Good input h l nr nw i =
    let is = took_all r r' h.bytes input h.taken h.ended i in
    plays_told root (record { status = Good; pieces = h.pieces; run = t }) (told root s input) w w' m Good (ap (told root s) (sym is) ∙ h.tells) (refl, h.put.appended, l)
ran_told root s t r r' w w' m Trace input h l nr nw i =
    plays_told root (record { status = Trace; pieces = h.pieces; run = t }) (told root s input) w w' m Trace (h.tells input (may_be r r' h.bytes input r'.finished refl h.taken i)) (refl, h.put.appended, l)
ran_told root s t r r' w w' m ReadFault input h l nr nw i = absurd (nr h.failed.rose)
ran_told root s t r r' w w' m WriteFault input h l nr nw i = absurd (nw h.failed.rose)
ran_told root s t r r' w w' m Usage input h l nr nw i = absurd h
ran_told root s t r r' w w' m Expression input h l nr nw i = absurd h
ran_told root s t r r' w w' m OpeningRefused input h l nr nw i = absurd h
ran_told root s t r r' w w' m NoMemory input h l nr nw i = absurd h

opens_told : (root : Rules) (opening : Opening) (r r' : Reading) (w w' : Writing) (m : Memory) (end : Status) (input : List ℕ) → Opens root opening r r' w w' m end
    → (Rose r.faults r'.faults → ⊥) → (Rose w.faults w'.faults → ⊥) → r.left ≡ Some input → IsTold (told_opening root opening input) w w' m end
opens_told root (Err node) r r' w w' m end input h nr nw i = only_told _ _ w w' m end h.put h.free nw
opens_told root (Ok o) r r' w w' m end input h nr nw i = ran_told root (run_of o.state o.cells []) h.0 r r' w w' m end input h.2 h.1 nr nw i

pub runs_told : (asked : Asked) (r r' : Reading) (w w' : Writing) (m : Memory) (end : Status) (input : List ℕ) → Runs asked r r' w w' m end
    → (end ≡ NoMemory → ⊥) → (Rose r.faults r'.faults → ⊥) → (Rose w.faults w'.faults → ⊥) → IsInput asked r.left input → IsTold (telling asked input) w w' m end
runs_told Nothing r r' w w' m end input h nm nr nw i = only_told _ _ w w' m end h.put h.free nw
runs_told (Refused fault) r r' w w' m end input h nm nr nw i = may_told _ _ r r' w w' m end h nm nw
runs_told (Checks e) r r' w w' m end input h nm nr nw i = may_told _ _ r r' w w' m end h nm nw
runs_told (Replays e cells) r r' w w' m end input (inl h) nm nr nw i = absurd (nm h.status)
runs_told (Replays e cells) r r' w w' m end input (inr h) nm nr nw i = opens_told (root_of e) (opening_of e cells) r r' w w' m end input h nr nw i

-- ---- a line in fault

told_status : (tells : Telling) (w w' : Writing) (m : Memory) (end : Status) → IsTold tells w w' m end → end ≡ status_of tells
told_status (Only status text) w w' m end h = h.0
told_status (Plays root all) w w' m end h = h.0

not_trace : (status : Status) (text : List ℕ) (w w' : Writing) (end : Status) → TextPut status text w w' end → end ≡ Trace → (Trace ≡ status → ⊥) → ⊥
not_trace status text w w' end h e a = says_other status text w w' Trace (subst (TextPut status text w w') e h) a (λ x. cc)

may_not_trace : (status : Status) (text : List ℕ) (r r' : Reading) (w w' : Writing) (m : Memory) (end : Status) → MaySay status text r r' w w' m end → end ≡ Trace → (Trace ≡ status → ⊥) → ⊥
may_not_trace status text r r' w w' m end (inl h) e a = let s = h.status in cc
may_not_trace status text r r' w w' m end (inr h) e a = not_trace status text w w' end h.put e a

ran_trace : (root : Rules) (s t : Run) (r r' : Reading) (w w' : Writing) (input : List ℕ) → Ran root s t r r' w w' Trace → r.left ≡ Some input → (told root s input).status ≡ Trace
ran_trace root s t r r' w w' input h i = ap (λ (x : Told). x.status) (h.tells input (may_be r r' h.bytes input r'.finished refl h.taken i))

opens_trace : (root : Rules) (opening : Opening) (r r' : Reading) (w w' : Writing) (m : Memory) (end : Status) (input : List ℕ) → Opens root opening r r' w w' m end → end ≡ Trace → r.left ≡ Some input
    → status_of (told_opening root opening input) ≡ Trace
opens_trace root (Err node) r r' w w' m end input h e i = absurd (not_trace _ _ w w' end h.put e (λ x. cc))
opens_trace root (Ok o) r r' w w' m end input h e i =
    let s = run_of o.state o.cells [] in
    ran_trace root s h.0 r r' w w' input (subst (λ (x : Status). Ran root s h.0 r r' w w' x) e h.2) i

trace_told : (asked : Asked) (r r' : Reading) (w w' : Writing) (m : Memory) (end : Status) (input : List ℕ) → Runs asked r r' w w' m end → end ≡ Trace → IsInput asked r.left input
    → status_of (telling asked input) ≡ Trace
trace_told Nothing r r' w w' m end input h e i = absurd (not_trace _ _ w w' end h.put e (λ x. cc))
trace_told (Refused fault) r r' w w' m end input h e i = absurd (may_not_trace _ _ r r' w w' m end h e (λ x. cc))
trace_told (Checks x) r r' w w' m end input h e i = absurd (may_not_trace _ _ r r' w w' m end h e (λ y. cc))
trace_told (Replays x cells) r r' w w' m end input (inl h) e i = let s = h.status in absurd cc
trace_told (Replays x cells) r r' w w' m end input (inr h) e i = opens_trace (root_of x) (opening_of x cells) r r' w w' m end input h e i

pub runs_trace : (asked : Asked) (r r' : Reading) (w w' : Writing) (m : Memory) (end : Status) (input : List ℕ) → Runs asked r r' w w' m end → IsInput asked r.left input
    → IsStatusWhere end Trace (status_of (telling asked input) ≡ Trace) (Rose r.faults r'.faults ⊎ (Rose w.faults w'.faults ⊎ (end ≡ NoMemory)))
runs_trace asked r r' w w' m end input h i = (
  λ e. trace_told asked r r' w w' m end input h e i,
  λ s n. told_status (telling asked input) w w' m end (runs_told asked r r' w w' m end input h (λ e. n (inr (inr e))) (λ e. n (inl e)) (λ e. n (inr (inl e))) i) ∙ s,
)
