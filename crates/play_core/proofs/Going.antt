-- How far bytes lead, and what is told after them.
use Rattle.std.proofs.Common.{◌≡◌, ℕ, ◌+◌, ◌-◌, ◌≤◌, ◌<◌, Bool, true, false, nat_eq, nat_lt, List, [], ◌∷◌, ◌++◌, length, take, drop, get_or, Option, Some, None, refl, sym, ap, ◌∙◌, subst, append_assoc, append-nil, arith, length-append, cond}
use Rattle.std.proofs.lemmas.Bool.Decides.{nat_tests}
use Rattle.std.proofs.lemmas.List.{length-drop, length-take, take-append-drop, take_rest}
use Rattle.std.proofs.lemmas.List.Concat.{flat_map-append}
use Rattle.std.proofs.Math.Seq.{take-add}
use Rattle.layer_rules.specs.Rules.{Rules}
use Rattle.heap_core.specs.declared.Call.{Call}
use Rattle.heap_core.specs.declared.Answer.{Answer}
use Rattle.heap_core.specs.Performing.{Run}
use Rattle.trace_text.specs.declared.TraceFault.{TraceFault}
use Rattle.trace_text.specs.declared.LineFault.TheVariants.{TooLong}
use Rattle.trace_text.specs.declared.TraceFault.TheVariants.{Line as LineIn, TooMuchInput}
use Rattle.trace_text.specs.Grammar.{line_call}
use Rattle.trace_text.specs.Text.{answer_text, fault_text}
use Rattle.play_core.specs.declared.Step.{Step}
use Rattle.play_core.specs.Devices.{Writing, PutsAll}
use Rattle.play_core.specs.Lines.{lines_of, IsOpen, joined}
use Rattle.play_core.specs.Outcome.{Outcome, Answers, Silent, Stops, outcome, read_outcome}
use Rattle.play_core.specs.Told.{Told, Piece, answers_on, answer_piece, line_piece, told_on, told_from, after, stopped, text_of, BreaksOff}
use Rattle.play_core.specs.declared.reader.Reader.{Reader}
use Rattle.play_core.specs.Place.{Place, BeginsLine, Leads, told_at, place_of, fed, fed_place}
use Rattle.play_core.specs.Ends.{Quiet, ByteStepped, Stepped, AnswerPut, StopPut, Fed}
use Rattle.play_core.proofs.PutLemmas.{puts_none, puts_more, fails_more, puts_none_at}
use Rattle.play_core.proofs.LineFacts.{lines_joined, joined-append, whole_append, open_more, lines_begin, lines_whole}
use Rattle.play_core.proofs.Answered.{told_answers, answers_append, some_same}
use Rattle.play_core.proofs.Outcomes.{out_whole, out_long, out_much}
use Rattle.play_core.specs.declared.Step.TheVariants as step

-- what is told of all is the pieces so far and what is told of the rest
pub told_leads : (e : Rules) (p q : Place) (bytes rest : List ℕ) (pieces : List Piece) → Leads e p bytes pieces q → told_at e p (bytes ++ rest) ≡ after pieces (told_at e q rest)
told_leads e p q bytes rest pieces h =
    let i : p.begun ++ (bytes ++ rest) ≡ joined h.lines ++ (q.begun ++ rest) = sym (append_assoc p.begun bytes rest) ∙ ap (λ xs. xs ++ rest) h.cut.all ∙ append_assoc (joined h.lines) q.begun rest in
    ap (λ xs. told_from e p.number p.before p.run (lines_of xs)) i
    ∙ ap (told_from e p.number p.before p.run) (lines_joined h.lines (q.begun ++ rest) h.cut.whole)
    ∙ told_answers e h.lines (lines_of (q.begun ++ rest)) p.number p.before q.number q.before p.run q.run pieces h.answers h.number h.before

-- one way after another
pub leads_trans : (e : Rules) (p q r : Place) (a b : List ℕ) (x y : List Piece) → Leads e p a x q → Leads e q b y r → Leads e p (a ++ b) (x ++ y) r
leads_trans e p q r a b x y h k = record {
  lines = h.lines ++ k.lines;
  cut = record {
    all = sym (append_assoc p.begun a b) ∙ ap (λ xs. xs ++ b) h.cut.all ∙ append_assoc (joined h.lines) q.begun b ∙ ap (λ xs. joined h.lines ++ xs) k.cut.all
        ∙ sym (append_assoc (joined h.lines) (joined k.lines) r.begun) ∙ ap (λ xs. xs ++ r.begun) (sym (joined-append h.lines k.lines));
    whole = whole_append h.lines k.lines h.cut.whole k.cut.whole;
    open_rest = k.cut.open_rest;
  };
  answers = answers_append e h.lines k.lines p.before q.before p.run q.run r.run x y h.answers k.answers h.before;
  number = omega (arith, h.number, k.number, length-append h.lines k.lines);
  before = omega (arith, h.before, k.before, ap length (joined-append h.lines k.lines), length-append (joined h.lines) (joined k.lines));
  short = k.short;
}

-- nothing leads nowhere else
pub leads_none : (e : Rules) (p : Place) → IsOpen p.begun → length p.begun ≤ 256 → Leads e p [] [] p
leads_none e p opened short = record {
  lines = [];
  cut = record { all = append-nil p.begun; whole = tt; open_rest = opened };
  answers = refl;
  number = omega arith;
  before = omega arith;
  short = short;
}

-- a byte that isn't a newline
leads_byte : (e : Rules) (p : Place) (b : ℕ) → IsOpen p.begun → length p.begun < 256 → nat_eq b 10 ≡ false → Leads e p (b ∷ []) [] (record { number = p.number; before = p.before; begun = p.begun ++ b ∷ []; run = p.run })
leads_byte e p b opened short new = record {
  lines = [];
  cut = record { all = refl; whole = tt; open_rest = open_more p.begun b opened new };
  answers = refl;
  number = omega arith;
  before = omega arith;
  short = omega (arith, length-append p.begun (b ∷ []));
}

-- a newline, by what the line that it ends is answered
leads_end : (e : Rules) (p : Place) (pieces : List Piece) (next : Run) → IsOpen p.begun → length p.begun ≤ 256 → p.before + length p.begun + 1 ≤ 16777216
    → answers_on p.run (read_outcome e p.run (line_call p.begun)) (λ r. Some ([], r)) ≡ Some (pieces, next)
    → Leads e p (10 ∷ []) pieces (record { number = p.number + 1; before = p.before + length p.begun + 1; begun = []; run = next })
leads_end e p pieces next opened short within h = record {
  lines = (p.begun ++ 10 ∷ []) ∷ [];
  cut = record { all = sym (append-nil ((p.begun ++ 10 ∷ []) ++ []) ∙ append-nil (p.begun ++ 10 ∷ [])); whole = ((p.begun, opened, refl), tt); open_rest = tt };
  answers = rw (out_whole e p.before p.run p.begun opened short within) h;
  number = omega arith;
  before = omega (arith, ap length (append-nil (p.begun ++ 10 ∷ [])), length-append p.begun (10 ∷ []));
  short = omega arith;
}

leads_line : (e : Rules) (p : Place) (call : Call) (answer : Answer) (next : Run) → IsOpen p.begun → length p.begun ≤ 256 → p.before + length p.begun + 1 ≤ 16777216 → read_outcome e p.run (line_call p.begun) ≡ Answers call answer next
    → Leads e p (10 ∷ []) (answer_piece call answer next ∷ []) (record { number = p.number + 1; before = p.before + length p.begun + 1; begun = []; run = next })
leads_line e p call answer next opened short within i =
    leads_end e p (answer_piece call answer next ∷ []) next opened short within (ap (λ o. answers_on p.run o (λ r. Some ([], r))) i)

-- and where that is no call
leads_silence : (e : Rules) (p : Place) → IsOpen p.begun → length p.begun ≤ 256 → p.before + length p.begun + 1 ≤ 16777216 → read_outcome e p.run (line_call p.begun) ≡ Silent
    → Leads e p (10 ∷ []) [] (record { number = p.number + 1; before = p.before + length p.begun + 1; begun = []; run = p.run })
leads_silence e p opened short within i = leads_end e p [] p.run opened short within (ap (λ o. answers_on p.run o (λ r. Some ([], r))) i)

-- the byte and the tests of it
abbrev Tests : Rules → Place → (b : ℕ) (t u v : Bool) → Option Outcome
Tests e p b t u v = cond t (Some (Stops TooMuchInput)) (cond u (Some (read_outcome e p.run (line_call p.begun))) (cond v (Some (Stops (LineIn TooLong))) None))

abbrev Next : Place → (b : ℕ) → (u : Bool) → (next : Run) → Place
Next p b u next = cond u (record { number = p.number + 1; before = p.before + length p.begun + 1; begun = []; run = next }) (record { number = p.number; before = p.before; begun = p.begun ++ b ∷ []; run = next })

-- an answer comes only with a newline
answers_by : (e : Rules) (p : Place) (b : ℕ) (call : Call) (answer : Answer) (next : Run) (t u v : Bool) → nat_lt 16777216 (p.before + length p.begun + 1) ≡ t → nat_eq b 10 ≡ u → IsOpen p.begun → length p.begun ≤ 256
    → Tests e p b t u v ≡ Some (Answers call answer next) → Leads e p (b ∷ []) (answer_piece call answer next ∷ []) (Next p b u next)
answers_by e p b call answer next true u v d i opened short h = absurd (let x : Stops TooMuchInput ≡ Answers call answer next = some_same h in cc)
answers_by e p b call answer next false true v d i opened short h =
    let n : 10 ≡ b = grind (arith, nat_tests, i) in
    subst (λ c. Leads e p (c ∷ []) (answer_piece call answer next ∷ []) (Next p b true next)) n (leads_line e p call answer next opened short (grind (arith, nat_tests, d)) (some_same h))
answers_by e p b call answer next false false true d i opened short h = absurd (let x : Stops (LineIn TooLong) ≡ Answers call answer next = some_same h in cc)
answers_by e p b call answer next false false false d i opened short h = absurd cc

fed_answers : (e : Rules) (p : Place) (b : ℕ) (call : Call) (answer : Answer) (next : Run) → IsOpen p.begun → length p.begun ≤ 256 → fed e p b ≡ Some (Answers call answer next) → Leads e p (b ∷ []) (answer_piece call answer next ∷ []) (fed_place p b next)
unfolding fed fed_place
fed_answers e p b call answer next opened short h = answers_by e p b call answer next _ _ _ refl refl opened short h

-- so does the end of a line that is no call
silent_by : (e : Rules) (p : Place) (b : ℕ) (t u v : Bool) → nat_lt 16777216 (p.before + length p.begun + 1) ≡ t → nat_eq b 10 ≡ u → IsOpen p.begun → length p.begun ≤ 256
    → Tests e p b t u v ≡ Some Silent → Leads e p (b ∷ []) [] (Next p b u p.run)
silent_by e p b true u v d i opened short h = absurd (let x : Stops TooMuchInput ≡ Silent = some_same h in cc)
silent_by e p b false true v d i opened short h =
    let n : 10 ≡ b = grind (arith, nat_tests, i) in
    subst (λ c. Leads e p (c ∷ []) [] (Next p b true p.run)) n (leads_silence e p opened short (grind (arith, nat_tests, d)) (some_same h))
silent_by e p b false false true d i opened short h = absurd (let x : Stops (LineIn TooLong) ≡ Silent = some_same h in cc)
silent_by e p b false false false d i opened short h = absurd cc

fed_silent : (e : Rules) (p : Place) (b : ℕ) → IsOpen p.begun → length p.begun ≤ 256 → fed e p b ≡ Some Silent → Leads e p (b ∷ []) [] (fed_place p b p.run)
unfolding fed fed_place
fed_silent e p b opened short h = silent_by e p b _ _ _ refl refl opened short h

-- nothing is done only for one more byte of a line
quiet_by : (e : Rules) (p : Place) (b : ℕ) (t u v : Bool) → nat_eq b 10 ≡ u → nat_eq (length p.begun) 256 ≡ v → IsOpen p.begun → length p.begun ≤ 256
    → Tests e p b t u v ≡ None → Leads e p (b ∷ []) [] (Next p b u p.run)
quiet_by e p b true u v i f opened short h = absurd cc
quiet_by e p b false true v i f opened short h = absurd cc
quiet_by e p b false false true i f opened short h = absurd cc
quiet_by e p b false false false i f opened short h = leads_byte e p b opened (grind (arith, nat_tests, f)) i

fed_quiet : (e : Rules) (p : Place) (b : ℕ) → IsOpen p.begun → length p.begun ≤ 256 → fed e p b ≡ None → Leads e p (b ∷ []) [] (fed_place p b p.run)
unfolding fed fed_place
fed_quiet e p b opened short h = quiet_by e p b _ _ _ refl refl opened short h

stop_line : (e : Rules) (n before : ℕ) (run : Run) (line : List ℕ) (others : List (List ℕ)) (fault : TraceFault) → outcome e before run line ≡ Stops fault → told_from e n before run (line ∷ others) ≡ stopped n fault run
stop_line e n before run line others fault i = ap (λ o. told_on n run o (λ next. told_from e (n + 1) (before + length line) next others)) i

stops_by : (e : Rules) (p : Place) (b : ℕ) (rest : List ℕ) (fault : TraceFault) (t u v : Bool) → nat_lt 16777216 (p.before + length p.begun + 1) ≡ t → nat_eq b 10 ≡ u → nat_eq (length p.begun) 256 ≡ v → IsOpen p.begun → length p.begun ≤ 256
    → Tests e p b t u v ≡ Some (Stops fault)
    → (line : List ℕ) × (others : List (List ℕ)) × (lines_of (p.begun ++ b ∷ rest) ≡ line ∷ others) × (outcome e p.before p.run line ≡ Stops fault)
stops_by e p b rest fault true u v d i f opened short h =
    let l = lines_begin p.begun b rest opened in
    (p.begun ++ b ∷ l.more, l.others, l.is, out_much e p.before p.run p.begun b l.more short (grind (arith, nat_tests, d)) ∙ some_same h)
stops_by e p b rest fault false true v d i f opened short h =
    let n : 10 ≡ b = grind (arith, nat_tests, i) in
    (p.begun ++ 10 ∷ [], lines_of rest, ap (λ c. lines_of (p.begun ++ c ∷ rest)) (sym n) ∙ lines_whole p.begun rest opened, out_whole e p.before p.run p.begun opened short (grind (arith, nat_tests, d)) ∙ some_same h)
stops_by e p b rest fault false false true d i f opened short h =
    let l = lines_begin p.begun b rest opened in
    (p.begun ++ b ∷ l.more, l.others, l.is, out_long e p.before p.run p.begun b l.more opened i (grind (arith, nat_tests, f)) (grind (arith, nat_tests, d, f)) ∙ some_same h)
stops_by e p b rest fault false false false d i f opened short h = absurd cc

fed_stops : (e : Rules) (p : Place) (b : ℕ) (rest : List ℕ) (fault : TraceFault) → IsOpen p.begun → length p.begun ≤ 256 → fed e p b ≡ Some (Stops fault) → told_at e p (b ∷ rest) ≡ stopped p.number fault p.run
unfolding fed
fed_stops e p b rest fault opened short h =
    let l = stops_by e p b rest fault _ _ _ refl refl refl opened short h in
    ap (told_from e p.number p.before p.run) l.2 ∙ stop_line e p.number p.before p.run l.0 l.1 fault l.3

-- the text breaks off in its first piece
pub breaks_first : (t : Told) (piece : Piece) (back : List Piece) (count : ℕ) → t.pieces ≡ piece ∷ back → count < length piece.text → BreaksOff t (take count piece.text) piece.run
breaks_first t piece back count e h = record {
  front = [];
  piece = piece;
  back = back;
  count = count;
  pieces = e;
  within = h;
  text_is = refl;
  run_is = refl;
}

-- the text breaks off after what was put
pub breaks_more : (all rest : Told) (x : List Piece) (text : List ℕ) (run : Run) → all ≡ after x rest → BreaksOff rest text run → BreaksOff all (text_of x ++ text) run
breaks_more all rest x text run e k = record {
  front = x ++ k.front;
  piece = k.piece;
  back = k.back;
  count = k.count;
  pieces = ap (λ (t : Told). t.pieces) e ∙ ap (λ ps. x ++ ps) k.pieces ∙ sym (append_assoc x k.front (k.piece ∷ k.back));
  within = k.within;
  text_is = ap (λ ys. text_of x ++ ys) k.text_is ∙ sym (append_assoc (text_of x) (text_of k.front) (take k.count k.piece.text)) ∙ ap (λ ys. ys ++ take k.count k.piece.text) (sym (flat_map-append (λ (piece : Piece). piece.text) x k.front));
  run_is = k.run_is;
}

pub breaks_after : (e : Rules) (p q : Place) (a rest : List ℕ) (x : List Piece) (text : List ℕ) (run : Run) → Leads e p a x q → BreaksOff (told_at e q rest) text run → BreaksOff (told_at e p (a ++ rest)) (text_of x ++ text) run
breaks_after e p q a rest x text run h k = breaks_more (told_at e p (a ++ rest)) (told_at e q rest) x text run (told_leads e p q a rest x h) k

quiet_fed : (e : Rules) (p : Place) (b : ℕ) (now : Run) (old new : Writing) (q : Place) (end : Step) → Leads e p (b ∷ []) [] (fed_place p b p.run) → Quiet p.run now old new end
    → (end ≡ step.Goes → q ≡ fed_place p b now) → Fed e p (b ∷ []) q old new end
quiet_fed e p b now old new q step.Stops h put place = absurd put
quiet_fed e p b now old new q step.SinkFailed h put place = absurd put
quiet_fed e p b now old new q step.Goes h put place =
    let w : fed_place p b p.run ≡ q = ap (fed_place p b) (sym put.0) ∙ sym (place refl) in
    ([], puts_none_at old new put.1, subst (λ r. Leads e p (b ∷ []) [] r) w h)

answers_fed : (e : Rules) (p : Place) (b : ℕ) (call : Call) (answer : Answer) (next now : Run) (old new : Writing) (q : Place) (end : Step) → IsOpen p.begun → length p.begun ≤ 256 → fed e p b ≡ Some (Answers call answer next) → now ≡ next → AnswerPut old new (answer_text call answer) end
    → (end ≡ step.Goes → q ≡ fed_place p b now) → q.run ≡ now → Fed e p (b ∷ []) q old new end
answers_fed e p b call answer next now old new q step.Stops opened short h is put place at = absurd put
answers_fed e p b call answer next now old new q step.Goes opened short h is put place at =
    let w : fed_place p b next ≡ q = ap (fed_place p b) (sym is) ∙ sym (place refl) in (
      answer_piece call answer next ∷ [],
      subst (λ xs. PutsAll old new xs) (sym (append-nil (answer_text call answer))) put,
      subst (λ r. Leads e p (b ∷ []) (answer_piece call answer next ∷ []) r) w (fed_answers e p b call answer next opened short h),
    )
answers_fed e p b call answer next now old new q step.SinkFailed opened short h is put place at = (
  take put.0 (answer_text call answer),
  put.2,
  λ rest. subst (λ s. BreaksOff (told_at e p (b ∷ rest)) (take put.0 (answer_text call answer)) s) (sym (at ∙ is))
      (breaks_first _ (answer_piece call answer next) (told_at e (fed_place p b next) rest).pieces put.0
      (ap (λ (t : Told). t.pieces) (told_leads e p (fed_place p b next) (b ∷ []) rest (answer_piece call answer next ∷ []) (fed_answers e p b call answer next opened short h))) put.1),
)

stops_fed : (e : Rules) (p : Place) (b : ℕ) (fault : TraceFault) (now : Run) (old new : Writing) (q : Place) (end : Step) → IsOpen p.begun → length p.begun ≤ 256 → fed e p b ≡ Some (Stops fault) → now ≡ p.run → StopPut old new (fault_text p.number fault) end
    → q.run ≡ now → Fed e p (b ∷ []) q old new end
stops_fed e p b fault now old new q step.Goes opened short h is put at = absurd put
stops_fed e p b fault now old new q step.Stops opened short h is put at = (
  line_piece q.run (fault_text p.number fault) ∷ [],
  subst (λ xs. PutsAll old new xs) (sym (append-nil (fault_text p.number fault))) put,
  λ rest. fed_stops e p b rest fault opened short h ∙ ap (stopped p.number fault) (sym (at ∙ is)),
)
stops_fed e p b fault now old new q step.SinkFailed opened short h is put at = (
  take put.0 (fault_text p.number fault),
  put.2,
  λ rest. subst (λ s. BreaksOff (told_at e p (b ∷ rest)) (take put.0 (fault_text p.number fault)) s) (sym (at ∙ is))
      (breaks_first _ (line_piece p.run (fault_text p.number fault)) [] put.0 (ap (λ (t : Told). t.pieces) (fed_stops e p b rest fault opened short h)) put.1),
)

by_outcome : (e : Rules) (p : Place) (b : ℕ) (o : Option Outcome) (now : Run) (old new : Writing) (q : Place) (end : Step) → fed e p b ≡ o → IsOpen p.begun → length p.begun ≤ 256 → ByteStepped o p.number p.run now old new end
    → (end ≡ step.Goes → q ≡ fed_place p b now) → q.run ≡ now → Fed e p (b ∷ []) q old new end
by_outcome e p b None now old new q end is opened short h place at = quiet_fed e p b now old new q end (fed_quiet e p b opened short is) h place
by_outcome e p b (Some Silent) now old new q end is opened short h place at = quiet_fed e p b now old new q end (fed_silent e p b opened short is) h place
by_outcome e p b (Some (Answers call answer next)) now old new q end is opened short h place at = answers_fed e p b call answer next now old new q end opened short is h.0 h.1 place at
by_outcome e p b (Some (Stops fault)) now old new q end is opened short h place at = stops_fed e p b fault now old new q end opened short is h.0 h.1 at

-- one byte
pub fed_byte : (e : Rules) (p : Place) (b : ℕ) (old new : Writing) (q : Place) (end : Step) → IsOpen p.begun → length p.begun ≤ 256 → ByteStepped (fed e p b) p.number p.run q.run old new end → (end ≡ step.Goes → q ≡ fed_place p b q.run) → Fed e p (b ∷ []) q old new end
fed_byte e p b old new q end opened short h place = by_outcome e p b (fed e p b) q.run old new q end refl opened short h place refl

-- none yet
pub fed_none : (e : Rules) (p : Place) (now : Writing) → IsOpen p.begun → length p.begun ≤ 256 → PutsAll now now [] → Fed e p [] p now now step.Goes
fed_none e p now opened short h = ([], h, leads_none e p opened short)

-- first some bytes, and then more
pub fed_then : (e : Rules) (p q r : Place) (a b : List ℕ) (old mid new : Writing) (end : Step) → Fed e p a q old mid step.Goes → Fed e q b r mid new end → Fed e p (a ++ b) r old new end
fed_then e p q r a b old mid new step.Goes h k =
    (h.0 ++ k.0, subst (λ xs. PutsAll old new xs) (sym (flat_map-append (λ (piece : Piece). piece.text) h.0 k.0)) (puts_more old mid new _ _ h.1 k.1), leads_trans e p q r a b h.0 k.0 h.2 k.2)
fed_then e p q r a b old mid new step.Stops h k = (
  h.0 ++ k.0,
  subst (λ xs. PutsAll old new xs) (sym (flat_map-append (λ (piece : Piece). piece.text) h.0 k.0)) (puts_more old mid new _ _ h.1 k.1),
  λ rest. ap (told_at e p) (append_assoc a b rest) ∙ told_leads e p q a (b ++ rest) h.0 h.2 ∙ ap (after h.0) (k.2 rest),
)
fed_then e p q r a b old mid new step.SinkFailed h k = (
  text_of h.0 ++ k.0,
  fails_more old mid new _ _ h.1 k.1,
  λ rest. subst (λ xs. BreaksOff (told_at e p xs) (text_of h.0 ++ k.0) r.run) (sym (append_assoc a b rest)) (breaks_after e p q a (b ++ rest) h.0 k.0 r.run h.2 (k.2 rest)),
)

-- what ended the run early ends it whatever follows
fed_front : (e : Rules) (p q : Place) (a b : List ℕ) (old new : Writing) (end : Step) → (end ≡ step.Goes → ⊥) → Fed e p a q old new end → Fed e p (a ++ b) q old new end
fed_front e p q a b old new step.Goes n h = absurd (n refl)
fed_front e p q a b old new step.Stops n h = (h.0, h.1, λ rest. ap (told_at e p) (append_assoc a b rest) ∙ h.2 (b ++ rest))
fed_front e p q a b old new step.SinkFailed n h = (h.0, h.1, λ rest. subst (λ xs. BreaksOff (told_at e p xs) h.0 q.run) (sym (append_assoc a b rest)) (h.2 (b ++ rest)))

-- the first byte of some
pub feed_first : (e : Rules) (p r : Place) (bytes : List ℕ) (b : ℕ) (old new : Writing) (end : Step) → 0 < length bytes → b ≡ get_or bytes 0 0 → IsOpen p.begun → length p.begun ≤ 256
    → ByteStepped (fed e p b) p.number p.run r.run old new end → (end ≡ step.Goes → r ≡ fed_place p b r.run) → Fed e p (take 1 bytes) r old new end
feed_first e p r [] b old new end some is opened short h place = absurd (omega arith)
feed_first e p r (x ∷ bytes) b old new end some is opened short h place = subst (λ c. Fed e p (c ∷ []) r old new end) is (fed_byte e p b old new r end opened short h place)

-- a place where all bytes of a line have come
abbrev Begun : Place → (line : List ℕ) → Place
Begun p line = record { number = p.number; before = p.before; begun = line; run = p.run }

leads_begun : (e : Rules) (p : Place) (line : List ℕ) → p.begun ≡ [] → IsOpen line → length line ≤ 256 → Leads e p line [] (Begun p line)
leads_begun e p line fresh opened short = record {
  lines = [];
  cut = record { all = ap (λ xs. xs ++ line) fresh; whole = tt; open_rest = opened };
  answers = refl;
  number = omega arith;
  before = omega arith;
  short = short;
}

-- what the newline behind it does
fed_end : (e : Rules) (p : Place) (line : List ℕ) → p.before + length line + 1 ≤ 16777216 → fed e (Begun p line) 10 ≡ Some (read_outcome e p.run (line_call line))
unfolding fed
fed_end e p line within =
    let t : nat_lt 16777216 (p.before + length line + 1) ≡ false = grind (arith, nat_tests) in
    rw t refl

-- a line and its newline at once
line_fed : (e : Rules) (p q : Place) (line : List ℕ) (old new : Writing) (end : Step) → p.begun ≡ [] → IsOpen line → length line ≤ 256 → p.before + length line + 1 ≤ 16777216
    → Stepped (read_outcome e p.run (line_call line)) p.number p.run q.run old new end → (end ≡ step.Goes → q ≡ record { number = p.number + 1; before = p.before + length line + 1; begun = []; run = q.run })
    → Fed e p (line ++ 10 ∷ []) q old new end
unfolding fed_place
line_fed e p q line old new end fresh opened short within h place =
    fed_then e p (Begun p line) q line (10 ∷ []) old old new end ([], puts_none old, leads_begun e p line fresh opened short)
    (by_outcome e (Begun p line) 10 (Some (read_outcome e p.run (line_call line))) q.run old new q end (fed_end e p line within) opened short h place refl)

-- the line with which some bytes begin
pub feed_line : (e : Rules) (p q : Place) (reader : Reader) (bytes line : List ℕ) (old new : Writing) (end : Step) → BeginsLine reader bytes line → p.begun ≡ reader.begun.items → p.before ≡ reader.before
    → Stepped (read_outcome e p.run (line_call line)) p.number p.run q.run old new end → (end ≡ step.Goes → q ≡ record { number = p.number + 1; before = p.before + length line + 1; begun = []; run = q.run })
    → Fed e p (take (length line + 1) bytes) q old new end
feed_line e p q reader bytes line old new end begins begun before h place =
    subst (λ xs. Fed e p xs q old new end) (sym begins.first) (line_fed e p q line old new end (begun ∙ begins.fresh) begins.is_open begins.short (omega (arith, before, begins.within)) h place)

-- that line is no longer than the bytes
pub begins_within : (reader : Reader) (bytes line : List ℕ) → BeginsLine reader bytes line → length line + 1 ≤ length bytes
begins_within reader bytes line begins = omega (arith, ap length begins.first, length-append line (10 ∷ []), length-take (length line + 1) bytes)

-- where a reader is behind a line
pub place_behind : (reader : Reader) (number before : ℕ) (run : Run) → reader.number ≡ number → reader.before ≡ before → reader.begun.items ≡ []
    → place_of reader run ≡ record { number = number; before = before; begun = []; run = run }
place_behind reader number before run n b l = cc

-- how many bytes are left
pub length_left : (bytes : List ℕ) (i : ℕ) → length (take (length bytes - i) (drop i bytes)) ≡ length bytes - i
length_left bytes i = ap length (take_rest bytes i) ∙ length-drop i bytes

-- bytes behind others, on a heap whose shape stays
pub feed_turn : (e f : Rules) (p q r : Place) (bytes : List ℕ) (i n : ℕ) (old mid new : Writing) (s end : Step) → f ≡ e → Fed e p (take i bytes) q old mid step.Goes
    → Fed f q (take n (take (length bytes - i) (drop i bytes))) r mid new s → s ≡ end → Fed e p (take (i + n) bytes) r old new end
feed_turn e f p q r bytes i n old mid new s end same h k is =
    let k' : Fed f q (take n (drop i bytes)) r mid new end = subst (λ t. Fed f q (take n (drop i bytes)) r mid new t) is (subst (λ xs. Fed f q (take n xs) r mid new s) (take_rest bytes i) k) in
    let k'' : Fed e q (take n (drop i bytes)) r mid new end = subst (λ g. Fed g q (take n (drop i bytes)) r mid new end) same k' in
    subst (λ xs. Fed e p xs r old new end) (sym (take-add i n bytes)) (fed_then e p q r (take i bytes) (take n (drop i bytes)) old mid new end h k'')

-- what ended the run within the bytes
pub feed_stop : (e : Rules) (p r : Place) (bytes : List ℕ) (n : ℕ) (old new : Writing) (end : Step) → (end ≡ step.Goes → ⊥) → Fed e p (take n bytes) r old new end → Fed e p bytes r old new end
feed_stop e p r bytes n old new end h k = subst (λ xs. Fed e p xs r old new end) (take-append-drop n bytes) (fed_front e p r (take n bytes) (drop n bytes) old new end h k)
