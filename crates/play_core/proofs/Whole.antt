-- What a run did, and what its clauses say of that.
use Rattle.std.proofs.Common.{◌≡◌, ℕ, zero, suc, inl, inr, List, Ok, Err, refl, sym, subst, replicate}
use Rattle.space_core.specs.Memory.{Memory, fresh_memory, no_memory}
use Rattle.layer_rules.specs.After.{Opening}
use Rattle.layer_rules.specs.Layering.{LayerModel}
use Rattle.layer_rules.specs.Rows.{Each}
use Rattle.layer_rules.specs.Rules.{Rules}
use Rattle.heap_core.specs.Heap.{Begins}
use Rattle.heap_core.specs.declared.Named.{Named}
use Rattle.heap_core.specs.Holding.{Held, run_in}
use Rattle.heap_core.specs.Performing.{Run}
use Rattle.source_sink.specs.Counts.{Rose}
use Rattle.play_core.specs.declared.Status.{Status}
use Rattle.play_core.specs.declared.Status.TheVariants.{Good, Usage, Expression, Trace, ReadFault, WriteFault, OpeningRefused, NoMemory}
use Rattle.play_core.specs.Devices.{Reading, Writing}
use Rattle.play_core.specs.Ran.{Ran}
use Rattle.play_core.specs.Runs.{HasAllFree, Leaves, TextPut, Opens, IsEarly}

-- ---- the Space

free_replicate : (n : ℕ) → Each (λ (tag : ℕ). tag ≡ 0) (replicate n 0)
free_replicate zero = tt
free_replicate (suc n) = (refl, free_replicate n)

pub free_fresh : (m : Memory) (cells leaves : ℕ) → m ≡ fresh_memory cells leaves → HasAllFree m
free_fresh m cells leaves e = subst HasAllFree (sym e) (free_replicate cells)

pub free_closed : (m : Memory) (leaves : ℕ) → m ≡ no_memory leaves → HasAllFree m
free_closed m leaves e = subst HasAllFree (sym e) tt

-- ---- a heap is made, and the trace is run

opens_at : (root : Rules) (opening : Opening) (run now : Run) (r r' : Reading) (w w' : Writing) (m : Memory) (end : Status) → Begins opening run → Leaves root now m → Ran root run now r r' w w' end → Opens root opening r r' w w' m end
opens_at root (Ok o) run now r r' w w' m end h left ran = (now, left, subst (λ (u : Run). Ran root u now r r' w w' end) h ran)
opens_at root (Err node) run now r r' w w' m end h left ran = absurd h

pub opens_played : (root root' : Rules) (opening : Opening) (run now : Run) (r r' : Reading) (w w' : Writing) (m : Memory) (end : Status) → root' ≡ root → Begins opening run → Leaves root now m → Ran root' run now r r' w w' end
    → Opens root opening r r' w w' m end
opens_played root root' opening run now r r' w w' m end same h left ran =
    opens_at root opening run now r r' w w' m end h left (subst (λ (s : Rules). Ran s run now r r' w w' end) same ran)

-- the heap holds in the Space what its run says
pub left_by : (t : LayerModel) (table : List Named) (m : Memory) (root : Rules) → t.rules ≡ root → Held t table m → Leaves root (run_in t table m) m
left_by t table m root e h = record { model = t; table = table; rules_are = e; held = h; run_is = refl }

-- a trace that was run doesn't end early
pub ran_late : (root : Rules) (run now : Run) (r r' : Reading) (w w' : Writing) (end : Status) → Ran root run now r r' w w' end → IsEarly end → ⊥
ran_late root run now r r' w w' Good h e = e
ran_late root run now r r' w w' Trace h e = e
ran_late root run now r r' w w' ReadFault h e = e
ran_late root run now r r' w w' WriteFault h e = e
ran_late root run now r r' w w' Usage h e = h
ran_late root run now r r' w w' Expression h e = h
ran_late root run now r r' w w' OpeningRefused h e = h
ran_late root run now r r' w w' NoMemory h e = h

-- ---- one text

-- of one text, a status that isn't its own and isn't the sink's fault
pub says_other : (status : Status) (text : List ℕ) (w w' : Writing) (end : Status) → TextPut status text w w' end → (end ≡ status → ⊥) → (end ≡ WriteFault → ⊥) → ⊥
says_other status text w w' end (inl h) a b = a h.0
says_other status text w w' end (inr h) a b = b h.0

pub says_fault : (status : Status) (text : List ℕ) (w w' : Writing) (end : Status) → TextPut status text w w' end → (end ≡ status → ⊥) → Rose w.faults w'.faults
says_fault status text w w' end (inl h) a = absurd (a h.0)
says_fault status text w w' end (inr h) a = h.1.2.rose

pub says_status : (status : Status) (text : List ℕ) (w w' : Writing) (end : Status) → TextPut status text w w' end → (Rose w.faults w'.faults → ⊥) → end ≡ status
says_status status text w w' end (inl h) n = h.0
says_status status text w w' end (inr h) n = absurd (n h.1.2.rose)
