-- What holds while a source is read, and at its end.
use Rattle.std.proofs.Common.{◌≡◌, inl, inr, ℕ, ◌+◌, ◌-◌, ◌≤◌, ◌<◌, Bool, true, false, List, [], ◌∷◌, ◌++◌, length, take, Option, Some, None, append-nil, append_assoc, sym, ap, ◌∙◌, subst, refl, arith, length-append, length-take, min, nat_eq}
use Rattle.std.proofs.lemmas.Bool.Decides.{nat_tests}
use Rattle.std.proofs.lemmas.List.Concat.{flat_map-append}
use Rattle.layer_rules.specs.Rules.{Rules}
use Rattle.heap_core.specs.Performing.{Run}
use Rattle.source_sink.specs.Sources.{Takes, IsAtEnd}
use Rattle.trace_text.specs.Grammar.{line_call}
use Rattle.trace_text.specs.Text.{answer_text, fault_text}
use Rattle.play_core.specs.declared.Status.{Status}
use Rattle.play_core.specs.declared.Status.TheVariants.{Good, Usage, Expression, Trace, ReadFault, WriteFault, OpeningRefused, NoMemory}
use Rattle.play_core.specs.declared.reader.Reader.{Reader}
use Rattle.play_core.specs.declared.Step.{Step}
use Rattle.play_core.specs.Devices.{Writing, Reading, PutsAll, Fails, Took, MayBe}
use Rattle.play_core.specs.Lines.{IsOpen, lines_of, joined}
use Rattle.play_core.specs.Outcome.{Outcome, Answers, Silent, Stops, read_outcome}
use Rattle.play_core.specs.Told.{Told, Piece, answer_piece, line_piece, told, told_from, told_on, after, stopped, reported, text_of, BreaksOff}
use Rattle.play_core.specs.Place.{Place, start_of, told_at, place_of}
use Rattle.play_core.specs.Ends.{Fed, Stepped, Lasts, Finishes}
use Rattle.play_core.specs.Ran.{Ran}
use Rattle.play_core.proofs.PutLemmas.{puts_none, puts_none_at, puts_more, fails_more, fails_behind, writing_same}
use Rattle.play_core.proofs.LineFacts.{lines_open}
use Rattle.play_core.proofs.Outcomes.{out_last}
use Rattle.play_core.proofs.Answered.{answers_end}
use Rattle.play_core.proofs.Going.{told_leads, breaks_first, breaks_after, breaks_more, fed_then, fed_none}
use Rattle.play_core.specs.declared.Step.TheVariants as step

-- ---- the last line

last_by : (e : Rules) (o : Outcome) (all : Told) (n : ℕ) (s t : Run) (old new : Writing) (end : Step) → all ≡ told_on n s o (reported e) → Stepped o n s t old new end → Lasts e all t old new end
last_by e (Answers call answer next) all n s t old new step.Goes i h =
    (answer_piece call answer next ∷ [], subst (λ xs. PutsAll old new xs) (sym (append-nil (answer_text call answer))) h.1, i ∙ ap (λ u. after (answer_piece call answer next ∷ []) (reported e u)) (sym h.0))
last_by e (Answers call answer next) all n s t old new step.Stops i h = absurd h.1
last_by e (Answers call answer next) all n s t old new step.SinkFailed i h = (
  take h.1.0 (answer_text call answer),
  h.1.2,
  subst (λ u. BreaksOff all (take h.1.0 (answer_text call answer)) u) (sym h.0)
      (breaks_first all (answer_piece call answer next) (reported e next).pieces h.1.0 (ap (λ (x : Told). x.pieces) i) h.1.1),
)
last_by e Silent all n s t old new step.Goes i h = ([], puts_none_at old new h.1, i ∙ ap (λ u. after [] (reported e u)) (sym h.0))
last_by e Silent all n s t old new step.Stops i h = absurd h
last_by e Silent all n s t old new step.SinkFailed i h = absurd h
last_by e (Stops fault) all n s t old new step.Goes i h = absurd h.1
last_by e (Stops fault) all n s t old new step.Stops i h =
    (line_piece t (fault_text n fault) ∷ [], subst (λ xs. PutsAll old new xs) (sym (append-nil (fault_text n fault))) h.1, i ∙ ap (stopped n fault) (sym h.0))
last_by e (Stops fault) all n s t old new step.SinkFailed i h = (
  take h.1.0 (fault_text n fault),
  h.1.2,
  subst (λ u. BreaksOff all (take h.1.0 (fault_text n fault)) u) (sym h.0)
      (breaks_first all (line_piece s (fault_text n fault)) [] h.1.0 (ap (λ (x : Told). x.pieces) i) h.1.1),
)

last_told : (e : Rules) (p : Place) (xs : List ℕ) → p.begun ≡ xs → IsOpen xs → 0 < length xs → length xs ≤ 256 → p.before + length xs ≤ 16777216 → told_at e p [] ≡ told_on p.number p.run (read_outcome e p.run (line_call xs)) (reported e)
last_told e p [] i opened some short within = absurd (omega arith)
last_told e p (x ∷ xs) i opened some short within =
    ap (λ ys. told_from e p.number p.before p.run (lines_of ys)) (append-nil p.begun ∙ i)
    ∙ ap (told_from e p.number p.before p.run) (lines_open x xs opened)
    ∙ ap (λ o. told_on p.number p.run o (reported e)) (out_last e p.before p.run (x ∷ xs) opened short within)

pub last_some : (e : Rules) (p : Place) (t : Run) (old new : Writing) (end : Step) (xs : List ℕ) → xs ≡ p.begun → IsOpen p.begun → 0 < length p.begun → length p.begun ≤ 256 → p.before + length p.begun ≤ 16777216
    → Stepped (read_outcome e p.run (line_call xs)) p.number p.run t old new end → Lasts e (told_at e p []) t old new end
last_some e p t old new end xs i opened some short within h =
    last_by e (read_outcome e p.run (line_call p.begun)) (told_at e p []) p.number p.run t old new end (last_told e p p.begun refl opened some short within)
    (subst (λ ys. Stepped (read_outcome e p.run (line_call ys)) p.number p.run t old new end) i h)

-- the report after the last line, on a heap whose shape stays
pub last_finish : (e f : Rules) (all : Told) (t : Run) (old mid new : Writing) (end : Status) → f ≡ e → Lasts e all t old mid step.Goes → Finishes (reported f t) t mid new end → Finishes all t old new end
last_finish e f all t old mid new Good same h k =
    (h.0 ++ k.0, subst (λ xs. PutsAll old new xs) (sym (flat_map-append (λ (x : Piece). x.text) h.0 k.0)) (puts_more old mid new _ _ h.1 k.1), h.2 ∙ ap (λ g. after h.0 (reported g t)) (sym same) ∙ ap (after h.0) k.2)
last_finish e f all t old mid new Trace same h k =
    (h.0 ++ k.0, subst (λ xs. PutsAll old new xs) (sym (flat_map-append (λ (x : Piece). x.text) h.0 k.0)) (puts_more old mid new _ _ h.1 k.1), h.2 ∙ ap (λ g. after h.0 (reported g t)) (sym same) ∙ ap (after h.0) k.2)
last_finish e f all t old mid new WriteFault same h k =
    (text_of h.0 ++ k.0, fails_more old mid new _ _ h.1 k.1, breaks_more all (reported f t) h.0 k.0 t (h.2 ∙ ap (λ g. after h.0 (reported g t)) (sym same)) k.2)
last_finish e f all t old mid new Usage same h k = absurd k
last_finish e f all t old mid new Expression same h k = absurd k
last_finish e f all t old mid new ReadFault same h k = absurd k
last_finish e f all t old mid new OpeningRefused same h k = absurd k
last_finish e f all t old mid new NoMemory same h k = absurd k

-- ---- while a source is read

-- how far bytes lead
pub fed_far : (e : Rules) (p q : Place) (b : List ℕ) (w w' : Writing) → Fed e p b q w w' step.Goes → q.before + length q.begun ≡ p.before + length p.begun + length b
fed_far e p q b w w' h = omega (arith, h.2.before, ap length h.2.cut.all, length-append p.begun b, length-append (joined h.2.lines) q.begun)

takes_none : (a : Option (List ℕ)) → Takes a a []
takes_none None = tt
takes_none (Some xs) = refl

takes_more : (a b c : Option (List ℕ)) (x y : List ℕ) → Takes a b x → Takes b c y → Takes a c (x ++ y)
takes_more (Some a) (Some b) (Some c) x y h k = let e = append_assoc x y c in cc
takes_more None None None x y h k = tt
takes_more (Some a) None c x y h k = absurd h
takes_more None (Some b) c x y h k = absurd h
takes_more (Some a) (Some b) None x y h k = absurd k
takes_more None None (Some c) x y h k = absurd k

place_same : (p q : Place) → p.number ≡ q.number → p.before ≡ q.before → p.begun ≡ q.begun → p.run ≡ q.run → p ≡ q
place_same p q a b c d =
    ap (λ (n : ℕ). record { number = n; before = p.before; begun = p.begun; run = p.run }) a
    ∙ ap (λ (n : ℕ). record { number = q.number; before = n; begun = p.begun; run = p.run }) b
    ∙ ap (λ (xs : List ℕ). record { number = q.number; before = q.before; begun = xs; run = p.run }) c
    ∙ ap (λ (s : Run). record { number = q.number; before = q.before; begun = q.begun; run = s }) d

-- some bytes were taken, and led to a place
pub record Going (e : Rules) (s : Run) (r r' : Reading) (w w' : Writing) (q : Place) : Type 0 where
  pub bytes : List ℕ
  pub taken : Takes r.left r'.left bytes
  pub counted : r'.faults ≡ r.faults
  pub opened : r'.finished ≡ false
  pub fed : Fed e (start_of s) bytes q w w' step.Goes

going_none : (e : Rules) (s : Run) (r : Reading) (w : Writing) → r.finished ≡ false → Going e s r r w w (start_of s)
going_none e s r w i = record { bytes = []; taken = takes_none r.left; counted = refl; opened = i; fed = fed_none e (start_of s) w tt (omega arith) (puts_none w) }

pub going_at_start : (e : Rules) (reader : Reader) (s : Run) (r : Reading) (w : Writing) → reader.number ≡ 1 → reader.before ≡ 0 → reader.begun.items ≡ [] → r.finished ≡ false → Going e s r r w w (place_of reader s)
going_at_start e reader s r w n b x i =
    let place : Place = place_of reader s in
    let at : place ≡ start_of s = place_same place (start_of s) n b x refl in
    subst (λ (p : Place). Going e s r r w w p) (sym at) (going_none e s r w i)

pub going_more : (e : Rules) (s : Run) (r r' r'' : Reading) (w w' w'' : Writing) (p q : Place) (b : List ℕ) → Going e s r r' w w' p → Takes r'.left r''.left b → r''.faults ≡ r'.faults → r''.finished ≡ false → Fed e p b q w' w'' step.Goes → Going e s r r'' w w'' q
going_more e s r r' r'' w w' w'' p q b h t c i f = record {
  bytes = h.bytes ++ b;
  taken = takes_more r.left r'.left r''.left h.bytes b h.taken t;
  counted = c ∙ h.counted;
  opened = i;
  fed = fed_then e (start_of s) p q h.bytes b w w' w'' step.Goes h.fed f;
}

begun_by : (b : Bool) (bytes input : List ℕ) → b ≡ false → MayBe b bytes input → (rest : List ℕ) × (input ≡ bytes ++ rest)
begun_by true bytes input i h = absurd cc
begun_by false bytes input i h = h

whole_by : (b : Bool) (bytes input : List ℕ) → b ≡ true → MayBe b bytes input → input ≡ bytes
whole_by true bytes input i h = h
whole_by false bytes input i h = absurd cc

-- how many bytes were taken, by where they led
going_far : (e : Rules) (s : Run) (r r' : Reading) (w w' : Writing) (q : Place) (h : Going e s r r' w w' q) → length h.bytes ≡ q.before + length q.begun
going_far e s r r' w w' q h = let far : 0 + 0 + length h.bytes ≡ q.before + length q.begun = sym (fed_far e (start_of s) q h.bytes w w' h.fed) in omega (arith, far)

-- and with those that are asked for, not more than one too much
going_few : (e : Rules) (s : Run) (r r' : Reading) (w w' : Writing) (q : Place) (b : List ℕ) (h : Going e s r r' w w' q) → length b ≤ 16777217 - (q.before + length q.begun) → q.before + length q.begun ≤ 16777216 → length (h.bytes ++ b) ≤ 16777217
going_few e s r r' w w' q b h few within = omega (arith, going_far e s r r' w w' q h, length-append h.bytes b, few, within)

-- what was put was handed on
pub going_on : (e : Rules) (s : Run) (r r' : Reading) (w w' w'' : Writing) (q : Place) → Going e s r r' w w' q → w''.holds ≡ w'.holds → w''.faults ≡ w'.faults → Going e s r r' w w'' q
going_on e s r r' w w' w'' q h a b = subst (λ (x : Writing). Going e s r r' w x q) (sym (writing_same w' w'' a b)) h

-- the sink failed to hand on what was put
pub going_waits : (e : Rules) (s : Run) (r r' : Reading) (w w' w'' : Writing) (q : Place) → Going e s r r' w w' q → Fails w' w'' [] → q.before + length q.begun ≤ 16777216 → Ran e s q.run r r' w w'' WriteFault
going_waits e s r r' w w' w'' q h f within = record {
  bytes = h.bytes;
  text = text_of h.fed.0;
  taken = record { taken = h.taken; counted = h.counted; at_end = λ x. absurd (let y : true ≡ false = sym x ∙ h.opened in cc) };
  few = omega (arith, going_far e s r r' w w' q h, within);
  failed = fails_behind w w' w'' _ h.fed.1 f;
  tells = λ input m. let k = begun_by r'.finished h.bytes input h.opened m in inr (record {
    front = h.fed.0;
    back = (told_at e q k.0).pieces;
    pieces = ap (λ (xs : List ℕ). (told e s xs).pieces) k.1 ∙ ap (λ (t : Told). t.pieces) (told_leads e (start_of s) q h.bytes k.0 h.fed.0 h.fed.2);
    text_is = refl;
    run_is = answers_end e h.fed.2.lines 0 s q.run h.fed.0 h.fed.2.answers;
  });
}

-- a line was in fault
pub going_stops : (e : Rules) (s : Run) (r r' r'' : Reading) (w w' w'' : Writing) (p q : Place) (b : List ℕ) → Going e s r r' w w' p → Takes r'.left r''.left b → r''.faults ≡ r'.faults → r''.finished ≡ false → length b ≤ 16777217 - (p.before + length p.begun) → p.before + length p.begun ≤ 16777216 → Fed e p b q w' w'' step.Stops → Ran e s q.run r r'' w w'' Trace
going_stops e s r r' r'' w w' w'' p q b h t c i few within f =
    let g = fed_then e (start_of s) p q h.bytes b w w' w'' step.Stops h.fed f in
    record {
      bytes = h.bytes ++ b;
      pieces = g.0;
      taken = record { taken = takes_more r.left r'.left r''.left h.bytes b h.taken t; counted = c ∙ h.counted; at_end = λ x. absurd (let y : true ≡ false = sym x ∙ i in cc) };
      few = going_few e s r r' w w' p b h few within;
      put = g.1;
      tells = λ input m. let k = begun_by r''.finished (h.bytes ++ b) input i m in ap (told e s) k.1 ∙ g.2 k.0;
    }

-- the sink failed
pub going_breaks : (e : Rules) (s : Run) (r r' r'' : Reading) (w w' w'' : Writing) (p q : Place) (b : List ℕ) → Going e s r r' w w' p → Takes r'.left r''.left b → r''.faults ≡ r'.faults → r''.finished ≡ false → length b ≤ 16777217 - (p.before + length p.begun) → p.before + length p.begun ≤ 16777216 → Fed e p b q w' w'' step.SinkFailed → Ran e s q.run r r'' w w'' WriteFault
going_breaks e s r r' r'' w w' w'' p q b h t c i few within f =
    let g = fed_then e (start_of s) p q h.bytes b w w' w'' step.SinkFailed h.fed f in
    record {
      bytes = h.bytes ++ b;
      text = g.0;
      taken = record { taken = takes_more r.left r'.left r''.left h.bytes b h.taken t; counted = c ∙ h.counted; at_end = λ x. absurd (let y : true ≡ false = sym x ∙ i in cc) };
      few = going_few e s r r' w w' p b h few within;
      failed = g.1;
      tells = λ input m. let k = begun_by r''.finished (h.bytes ++ b) input i m in inl (subst (λ xs. BreaksOff (told e s xs) g.0 q.run) (sym k.1) (g.2 k.0));
    }

still_at_end : (a b : Option (List ℕ)) → Takes a b [] → IsAtEnd a → IsAtEnd b
still_at_end (Some a) (Some b) h k = sym h ∙ k
still_at_end None None h k = tt
still_at_end (Some a) None h k = absurd h
still_at_end None (Some b) h k = absurd h

end_took : (e : Rules) (s : Run) (r r' r'' : Reading) (w w' : Writing) (q : Place) (h : Going e s r r' w w' q) → Takes r'.left r''.left [] → IsAtEnd r'.left → r''.faults ≡ r'.faults → Took r r'' h.bytes
end_took e s r r' r'' w w' q h x z c = record {
  taken = subst (λ xs. Takes r.left r''.left xs) (append-nil h.bytes) (takes_more r.left r'.left r''.left h.bytes [] h.taken x);
  counted = c ∙ h.counted;
  at_end = λ _. still_at_end r'.left r''.left x z;
}

-- the end came
pub going_ends : (e : Rules) (s t : Run) (r r' r'' : Reading) (w w' w'' : Writing) (q : Place) (end : Status) → Going e s r r' w w' q → Takes r'.left r''.left [] → IsAtEnd r'.left → r''.faults ≡ r'.faults → r''.finished ≡ true → q.before + length q.begun ≤ 16777216 → Finishes (told_at e q []) t w' w'' end → Ran e s t r r'' w w'' end
going_ends e s t r r' r'' w w' w'' q Good h x z c i within f = record {
  bytes = h.bytes;
  pieces = h.fed.0 ++ f.0;
  taken = end_took e s r r' r'' w w' q h x z c;
  ended = i;
  few = omega (arith, going_far e s r r' w w' q h, within);
  put = subst (λ xs. PutsAll w w'' xs) (sym (flat_map-append (λ (x : Piece). x.text) h.fed.0 f.0)) (puts_more w w' w'' _ _ h.fed.1 f.1);
  tells = ap (told e s) (sym (append-nil h.bytes)) ∙ told_leads e (start_of s) q h.bytes [] h.fed.0 h.fed.2 ∙ ap (after h.fed.0) f.2;
}
going_ends e s t r r' r'' w w' w'' q Trace h x z c i within f = record {
  bytes = h.bytes;
  pieces = h.fed.0 ++ f.0;
  taken = end_took e s r r' r'' w w' q h x z c;
  few = omega (arith, going_far e s r r' w w' q h, within);
  put = subst (λ xs. PutsAll w w'' xs) (sym (flat_map-append (λ (x : Piece). x.text) h.fed.0 f.0)) (puts_more w w' w'' _ _ h.fed.1 f.1);
  tells = λ input m. ap (told e s) (whole_by r''.finished h.bytes input i m) ∙ ap (told e s) (sym (append-nil h.bytes)) ∙ told_leads e (start_of s) q h.bytes [] h.fed.0 h.fed.2 ∙ ap (after h.fed.0) f.2;
}
going_ends e s t r r' r'' w w' w'' q WriteFault h x z c i within f = record {
  bytes = h.bytes;
  text = text_of h.fed.0 ++ f.0;
  taken = end_took e s r r' r'' w w' q h x z c;
  few = omega (arith, going_far e s r r' w w' q h, within);
  failed = fails_more w w' w'' _ _ h.fed.1 f.1;
  tells = λ input m. inl (subst (λ xs. BreaksOff (told e s xs) (text_of h.fed.0 ++ f.0) t) (append-nil h.bytes ∙ sym (whole_by r''.finished h.bytes input i m)) (breaks_after e (start_of s) q h.bytes [] h.fed.0 f.0 t h.fed.2 f.2));
}
going_ends e s t r r' r'' w w' w'' q Usage h x z c i within f = absurd f
going_ends e s t r r' r'' w w' w'' q Expression h x z c i within f = absurd f
going_ends e s t r r' r'' w w' w'' q ReadFault h x z c i within f = absurd f
going_ends e s t r r' r'' w w' w'' q OpeningRefused h x z c i within f = absurd f
going_ends e s t r r' r'' w w' w'' q NoMemory h x z c i within f = absurd f

-- a source that gave some bytes isn't finished
pub not_ended : (count : ℕ) (finished : Bool) → finished ≡ nat_eq count 0 → (count ≡ 0 → ⊥) → finished ≡ false
not_ended count finished e h = e ∙ grind (arith, nat_tests)

pub ended : (count : ℕ) (finished : Bool) → finished ≡ nat_eq count 0 → count ≡ 0 → finished ≡ true
ended count finished e h = e ∙ grind (arith, nat_tests)

-- no byte was taken
pub takes_nothing : (a b : Option (List ℕ)) (bytes : List ℕ) (count : ℕ) → Takes a b (take count bytes) → count ≡ 0 → Takes a b []
takes_nothing a b bytes count h e = subst (λ n. Takes a b (take n bytes)) e h

-- no more bytes come than are missing
pub took_few : (count : ℕ) (into room : List ℕ) (want before begun len : ℕ) → length into ≡ length (take want room) → want ≡ min (16777217 - before - len) 4096 → len ≡ begun → length (take count into) ≤ 16777217 - (before + begun)
took_few count into room want before begun len long most is = omega (arith, length-take count into, length-take want room, long, most, is)

-- the bytes may be given otherwise, on a heap whose shape stays
pub fed_along : (e f : Rules) (p q : Place) (b c : List ℕ) (w w' : Writing) (end : Step) → f ≡ e → c ≡ b → Fed f p c q w w' end → Fed e p b q w w' end
fed_along e f p q b c w w' end same is h = subst (λ xs. Fed e p xs q w w' end) is (subst (λ g. Fed g p c q w w' end) same h)

-- what is told at the end, on a heap whose shape stays
pub finish_along : (e f : Rules) (p : Place) (t : Run) (w w' : Writing) (end : Status) → f ≡ e → Finishes (told_at f p []) t w w' end → Finishes (told_at e p []) t w w' end
finish_along e f p t w w' end same h = subst (λ g. Finishes (told_at g p []) t w w' end) same h

pub falls : (a b c n k : ℕ) → a ≡ b + k → k ≡ c → 0 < c → b ≤ n → n + 1 - a < n + 1 - b
falls a b c n k e f h l = omega arith
