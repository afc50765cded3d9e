-- Lines that are put one after another, and the report.
use Rattle.std.proofs.Common.{◌≡◌, ℕ, ◌+◌, ◌≤◌, ◌<◌, List, [], ◌∷◌, ◌++◌, length, take, drop, map, Option, Some, None, Result, Ok, Err, refl, sym, ap, ◌∙◌, subst, append_assoc, append-nil, get_or, drop-cons, add-one, codes, ◌-◌}
use Rattle.std.specs.Prelude.{slice_get, IsErr}
use Rattle.std.proofs.Math.ListN.{drop_of_length-le}
use Rattle.space_core.specs.Memory.{Memory}
use Rattle.layer_rules.specs.declared.Fact.{Fact}
use Rattle.layer_rules.specs.Layering.{LayerModel, state_of}
use Rattle.layer_rules.specs.Rules.{Rules}
use Rattle.heap_core.specs.declared.Named.{Named}
use Rattle.heap_core.specs.Holding.{run_in, world_of}
use Rattle.heap_core.specs.Performing.{Run}
use Rattle.source_sink.specs.declared.Failed.{Failed}
use Rattle.play_core.specs.declared.Status.TheVariants.{Good, WriteFault}
use Rattle.play_core.specs.Devices.{Writing, PutsAll, Fails}
use Rattle.play_core.specs.Lines.{joined}
use Rattle.fact_text.specs.FactText.{and_lines, fact_line, node_lines}
use Rattle.fact_text.proofs.FactLemmas.{nodes_next}
use Rattle.play_core.specs.ReportText.{asked_in, extent_in, report_of, total_line, total_lines}
use Rattle.play_core.specs.Told.{line_piece, reported, text_of}
use Rattle.play_core.specs.Ends.{LinesPut, PutsLines, Finishes}
use Rattle.play_core.proofs.LineFacts.{joined-append}
use Rattle.play_core.proofs.PutLemmas.{puts_none, puts_more, fails_more, puts_along}

-- some lines were put, and these are left
pub record PutSoFar (old new : Writing) (all rest : List (List ℕ)) : Type 0 where
  pub front : List (List ℕ)
  pub put : PutsAll old new (joined front)
  pub is : all ≡ front ++ rest

pub so_far_none : (w : Writing) (all : List (List ℕ)) → PutSoFar w w all all
so_far_none w all = record { front = []; put = puts_none w; is = refl }

pub so_far_more : (a b c : Writing) (all xs rest : List (List ℕ)) → PutSoFar a b all (xs ++ rest) → PutsAll b c (joined xs) → PutSoFar a c all rest
so_far_more a b c all xs rest h k = record {
  front = h.front ++ xs;
  put = puts_along a c _ _ (sym (joined-append h.front xs)) (puts_more a b c _ _ h.put k);
  is = h.is ∙ sym (append_assoc h.front xs rest);
}

-- the sink failed within these
pub so_far_fails : (a b c : Writing) (all xs rest : List (List ℕ)) → PutSoFar a b all (xs ++ rest) → PutsLines b c xs → PutsLines a c all
so_far_fails a b c all xs rest h k = record {
  front = h.front ++ k.front;
  line = k.line;
  back = k.back ++ rest;
  count = k.count;
  lines_are = h.is ∙ ap (λ ys. h.front ++ (ys ++ rest)) k.lines_are ∙ ap (λ ys. h.front ++ ys) (append_assoc k.front (k.line ∷ k.back) rest) ∙ sym (append_assoc h.front k.front (k.line ∷ (k.back ++ rest)));
  within = k.within;
  fails = subst (λ xs. Fails a c xs) (sym (append_assoc (joined h.front) (joined k.front) (take k.count k.line)) ∙ ap (λ ys. ys ++ take k.count k.line) (sym (joined-append h.front k.front)))
      (fails_more a b c _ _ h.put k.fails);
}

pub so_far_all : (a b : Writing) (all rest : List (List ℕ)) → rest ≡ [] → PutSoFar a b all rest → PutsAll a b (joined all)
so_far_all a b all rest e h = puts_along a b _ _ (ap joined (sym (append-nil h.front) ∙ ap (λ ys. h.front ++ ys) (sym e) ∙ sym h.is)) h.put

-- one line
pub line_put : (a b : Writing) (line : List ℕ) → PutsAll a b line → PutsAll a b (joined (line ∷ []))
line_put a b line h = puts_along a b _ _ (sym (append-nil line)) h

lines_next : {X : Type 0} (f : X → List ℕ) (xs : List X) (i : ℕ) (x : X) → i < length xs → x ≡ get_or xs i x → map f (drop i xs) ≡ (f x ∷ []) ++ map f (drop (i + 1) xs)
lines_next f xs i x lt is =
    let e : drop i xs ≡ x ∷ drop (i + 1) xs = drop-cons xs i x lt ∙ ap (λ n. get_or xs i x ∷ drop n xs) (sym (add-one i)) ∙ ap (λ y. y ∷ drop (i + 1) xs) (sym is) in
    ap (map f) e

-- some lines, and then others
pub lines_then : (a b c : Writing) (xs ys : List (List ℕ)) (r : Result (Unit {0}) Failed) → PutsAll a b (joined xs) → LinesPut b c ys r → LinesPut a c (xs ++ ys) r
lines_then a b c xs ys (Ok done) h k = puts_along a c _ _ (sym (joined-append xs ys)) (puts_more a b c _ _ h k)
lines_then a b c xs ys (Err failed) h k = so_far_fails a b c (xs ++ ys) ys [] (record { front = xs; put = h; is = ap (λ zs. xs ++ zs) (sym (append-nil ys)) }) k

pub lines_fail : (a b : Writing) (xs ys : List (List ℕ)) → PutsLines a b xs → PutsLines a b (xs ++ ys)
lines_fail a b xs ys h = so_far_fails a a b (xs ++ ys) xs ys (so_far_none a (xs ++ ys)) h

-- ---- the nodes

-- one node more
pub nodes_turn : (facts : List Fact) (k : ℕ) (fact : Fact) (a b c : Writing) → slice_get facts k ≡ Some fact → PutSoFar a b (node_lines 0 facts) (node_lines k (drop k facts)) → PutsAll b c (joined (and_lines (fact_line k fact) []))
    → PutSoFar a c (node_lines 0 facts) (node_lines (k + 1) (drop (k + 1) facts))
nodes_turn facts k fact a b c is h put =
    so_far_more a b c (node_lines 0 facts) (and_lines (fact_line k fact) []) (node_lines (k + 1) (drop (k + 1) facts)) (subst (λ xs. PutSoFar a b (node_lines 0 facts) xs) (nodes_next facts k k fact is) h) put

-- the sink failed at a node
pub nodes_break : (facts : List Fact) (k : ℕ) (fact : Fact) (a b c : Writing) → slice_get facts k ≡ Some fact → PutSoFar a b (node_lines 0 facts) (node_lines k (drop k facts)) → PutsLines b c (and_lines (fact_line k fact) [])
    → PutsLines a c (node_lines 0 facts)
nodes_break facts k fact a b c is h put =
    so_far_fails a b c (node_lines 0 facts) (and_lines (fact_line k fact) []) (node_lines (k + 1) (drop (k + 1) facts)) (subst (λ xs. PutSoFar a b (node_lines 0 facts) xs) (nodes_next facts k k fact is) h) put

-- all nodes
pub nodes_end : (facts : List Fact) (k : ℕ) (a b : Writing) → length facts ≤ k → PutSoFar a b (node_lines 0 facts) (node_lines k (drop k facts)) → PutsAll a b (joined (node_lines 0 facts))
nodes_end facts k a b le h = so_far_all a b (node_lines 0 facts) (node_lines k (drop k facts)) (ap (node_lines k) (drop_of_length-le facts le)) h

-- ---- lines of a list

-- one line more
pub lines_turn : {X : Type 0} (f : X → List ℕ) (xs : List X) (i : ℕ) (x : X) (a b c : Writing) → i < length xs → x ≡ get_or xs i x → PutSoFar a b (map f xs) (map f (drop i xs)) → PutsAll b c (f x) → PutSoFar a c (map f xs) (map f (drop (i + 1) xs))
lines_turn f xs i x a b c lt is h put =
    so_far_more a b c (map f xs) (f x ∷ []) (map f (drop (i + 1) xs)) (subst (λ ys. PutSoFar a b (map f xs) ys) (lines_next f xs i x lt is) h) (line_put b c (f x) put)

-- ---- the pieces of lines

pub pieces_text : (run : Run) (lines : List (List ℕ)) → text_of (map (line_piece run) lines) ≡ joined lines
pieces_text run [] = refl
pieces_text run (line ∷ lines) = ap (λ xs. line ++ xs) (pieces_text run lines)

pub pieces_append : (run : Run) (xs ys : List (List ℕ)) → map (line_piece run) (xs ++ ys) ≡ map (line_piece run) xs ++ map (line_piece run) ys
pieces_append run [] ys = refl
pieces_append run (x ∷ xs) ys = ap (λ zs. line_piece run x ∷ zs) (pieces_append run xs ys)

-- the report was put
pub report_put : (e : Rules) (run : Run) (a b : Writing) → PutsAll a b (joined (report_of e run)) → Finishes (reported e run) run a b Good
report_put e run a b h = (map (line_piece run) (report_of e run), puts_along a b _ _ (sym (pieces_text run (report_of e run))) h, refl)

-- the sink failed within it
pub report_fails : (e : Rules) (run : Run) (a b : Writing) → PutsLines a b (report_of e run) → Finishes (reported e run) run a b WriteFault
report_fails e run a b h = (
  joined h.front ++ take h.count h.line,
  h.fails,
  record {
    front = map (line_piece run) h.front;
    piece = line_piece run h.line;
    back = map (line_piece run) h.back;
    count = h.count;
    pieces = ap (map (line_piece run)) h.lines_are ∙ pieces_append run h.front (h.line ∷ h.back);
    within = h.within;
    text_is = ap (λ xs. xs ++ take h.count h.line) (sym (pieces_text run h.front));
    run_is = refl;
  },
)

-- ---- the parts of a report

-- a node's line, where it has one
pub node_some : (a b : Writing) (o : Option (List ℕ)) (line : List ℕ) (r : Result (Unit {0}) Failed) → Some line ≡ o → LinesPut a b (line ∷ []) r → LinesPut a b (and_lines o []) r
node_some a b o line r e h = subst (λ (x : Option (List ℕ)). LinesPut a b (and_lines x []) r) e h

pub node_none : (w : Writing) (o : Option (List ℕ)) → None ≡ o → PutsAll w w (joined (and_lines o []))
node_none w o e = subst (λ (x : Option (List ℕ)). PutsAll w w (joined (and_lines x []))) e (puts_none w)

-- the totals, line by line
pub totals_put : (t : LayerModel) (table : List Named) (m : Memory) (a b : Writing) (live asked taken slack : ℕ) (x y z u : List ℕ) (r : Result (Unit {0}) Failed)
    → live ≡ length (world_of t table m) → asked ≡ asked_in (run_in t table m) → taken ≡ extent_in t.rules (run_in t table m) → slack ≡ taken - asked
    → x ≡ total_line (codes "live") live → y ≡ total_line (codes "asked") asked → z ≡ total_line (codes "extent") taken → u ≡ total_line (codes "slack") slack
    → LinesPut a b (x ∷ y ∷ z ∷ u ∷ []) r → LinesPut a b (total_lines t.rules (run_in t table m)) r
totals_put t table m a b live asked taken slack x y z u r l k n es ex ey ez eu h =
    let s : slack ≡ extent_in t.rules (run_in t table m) - asked_in (run_in t table m) = es ∙ ap (λ v. v - asked) n ∙ ap (λ v. extent_in t.rules (run_in t table m) - v) k in
    let ls : x ∷ y ∷ z ∷ u ∷ [] ≡ total_lines t.rules (run_in t table m) =
    ap (λ v. v ∷ y ∷ z ∷ u ∷ []) (ex ∙ ap (total_line (codes "live")) l)
    ∙ ap (λ v. total_line (codes "live") (length (world_of t table m)) ∷ v ∷ z ∷ u ∷ []) (ey ∙ ap (total_line (codes "asked")) k)
    ∙ ap (λ v. total_line (codes "live") (length (world_of t table m)) ∷ total_line (codes "asked") (asked_in (run_in t table m)) ∷ v ∷ u ∷ []) (ez ∙ ap (total_line (codes "extent")) n)
    ∙ ap (λ v. total_line (codes "live") (length (world_of t table m)) ∷ total_line (codes "asked") (asked_in (run_in t table m)) ∷ total_line (codes "extent") (extent_in t.rules (run_in t table m)) ∷ v ∷ []) (eu ∙ ap (total_line (codes "slack")) s) in
    subst (λ lines. LinesPut a b lines r) ls h

-- the nodes after the totals
pub report_done : (t u : LayerModel) (table : List Named) (m : Memory) (a b c : Writing) (r : Result (Unit {0}) Failed) → u ≡ t → PutsAll a b (joined (total_lines t.rules (run_in t table m)))
    → LinesPut b c (node_lines 0 (u.rules.facts (state_of u m) m.cells)) r → LinesPut a c (report_of t.rules (run_in t table m)) r
unfolding report_of
report_done t u table m a b c r same h k =
    lines_then a b c (total_lines t.rules (run_in t table m)) (node_lines 0 (t.rules.facts (state_of t m) m.cells)) r h (subst (λ (v : LayerModel). LinesPut b c (node_lines 0 (v.rules.facts (state_of v m) m.cells)) r) same k)

-- the sink failed within the totals
pub report_cut : (t : LayerModel) (table : List Named) (m : Memory) (a b : Writing) → PutsLines a b (total_lines t.rules (run_in t table m)) → PutsLines a b (report_of t.rules (run_in t table m))
unfolding report_of
report_cut t table m a b h = lines_fail a b (total_lines t.rules (run_in t table m)) (node_lines 0 (t.rules.facts (state_of t m) m.cells)) h

-- an answer that is an error, whatever its error says
pub lines_erred : (a b : Writing) (lines : List (List ℕ)) (r : Result (Unit {0}) Failed) → IsErr r → PutsLines a b lines → LinesPut a b lines r
lines_erred a b lines (Ok done) e h = absurd cc
lines_erred a b lines (Err failed) e h = h
