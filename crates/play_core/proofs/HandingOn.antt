-- What stands once the sink was asked to hand on what was put.
use Rattle.std.proofs.Common.{◌≡◌, ℕ, inl, inr, Bool, true, List, [], refl, sym, ap, ◌∙◌, subst, append-nil, arith}
use Rattle.layer_rules.specs.Rules.{Rules}
use Rattle.heap_core.specs.Performing.{Run}
use Rattle.play_core.specs.declared.Status.{Status}
use Rattle.play_core.specs.declared.Status.TheVariants.{Good, Trace, WriteFault}
use Rattle.play_core.specs.Devices.{Writing, Reading, Fails, MayBe}
use Rattle.play_core.specs.Lines.{lines_of}
use Rattle.play_core.specs.Ran.{Ran}
use Rattle.play_core.specs.Runs.{HandsOn}
use Rattle.play_core.specs.Told.{Told, Piece, EndsBehind, text_of, told, run_after}
use Rattle.play_core.proofs.Answered.{told_ends}
use Rattle.play_core.proofs.PutLemmas.{fails_behind}

-- all that is told was put, and the text ends behind it
behind_all : (e : Rules) (s t : Run) (status : Status) (pieces : List Piece) (input : List ℕ) → told e s input ≡ record { status = status; pieces = pieces; run = t } → EndsBehind s (told e s input) (text_of pieces) t
behind_all e s t status pieces input h = record {
  front = pieces;
  back = [];
  pieces = ap (λ (x : Told). x.pieces) h ∙ sym (append-nil pieces);
  text_is = refl;
  run_is = ap (λ (x : Told). x.run) (sym h) ∙ told_ends e (lines_of input) 1 0 s ∙ ap (λ (x : Told). run_after s x.pieces) h;
}

whole_of : (b : Bool) (bytes input : List ℕ) → b ≡ true → MayBe b bytes input → bytes ≡ input
whole_of b bytes input i m = sym (subst (λ (x : Bool). MayBe x bytes input) i m)

-- a trace that was told to its end, and whose text was not handed on
good_waits : (e : Rules) (s t : Run) (r r' : Reading) (w w' w'' : Writing) → Ran e s t r r' w w' Good → Fails w' w'' [] → Ran e s t r r' w w'' WriteFault
good_waits e s t r r' w w' w'' h f = record {
  bytes = h.bytes;
  text = text_of h.pieces;
  taken = h.taken;
  few = omega (arith, h.few);
  failed = fails_behind w w' w'' _ h.put f;
  tells = λ input m. inr (behind_all e s t Good h.pieces input (ap (told e s) (sym (whole_of r'.finished h.bytes input h.ended m)) ∙ h.tells));
}

trace_waits : (e : Rules) (s t : Run) (r r' : Reading) (w w' w'' : Writing) → Ran e s t r r' w w' Trace → Fails w' w'' [] → Ran e s t r r' w w'' WriteFault
trace_waits e s t r r' w w' w'' h f = record {
  bytes = h.bytes;
  text = text_of h.pieces;
  taken = h.taken;
  few = h.few;
  failed = fails_behind w w' w'' _ h.put f;
  tells = λ input m. inr (behind_all e s t Trace h.pieces input (h.tells input m));
}

pub good_handed_on : (e : Rules) (s t : Run) (r r' : Reading) (w w' w'' : Writing) (end : Status) → Ran e s t r r' w w' Good → HandsOn Good w' w'' end → Ran e s t r r' w w'' end
good_handed_on e s t r r' w w' w'' end h (inl k) =
    subst (λ (x : Status). Ran e s t r r' w w'' x) (sym k.0) (subst (λ (x : Writing). Ran e s t r r' w x Good) (sym k.1) h)
good_handed_on e s t r r' w w' w'' end h (inr k) = subst (λ (x : Status). Ran e s t r r' w w'' x) (sym k.0) (good_waits e s t r r' w w' w'' h k.1)

pub trace_handed_on : (e : Rules) (s t : Run) (r r' : Reading) (w w' w'' : Writing) (end : Status) → Ran e s t r r' w w' Trace → HandsOn Trace w' w'' end → Ran e s t r r' w w'' end
trace_handed_on e s t r r' w w' w'' end h (inl k) =
    subst (λ (x : Status). Ran e s t r r' w w'' x) (sym k.0) (subst (λ (x : Writing). Ran e s t r r' w x Trace) (sym k.1) h)
trace_handed_on e s t r r' w w' w'' end h (inr k) = subst (λ (x : Status). Ran e s t r r' w w'' x) (sym k.0) (trace_waits e s t r r' w w' w'' h k.1)
