-- The bytes of a block: where they stay, and where they are made 0. What lies in two blocks that are apart.
use Rattle.std.proofs.Common.{◌≡◌, refl, sym, ap, ◌∙◌, ℕ, ◌+◌, ◌-◌, ◌≤◌, ◌<◌, true, List, [], ◌∷◌, ◌++◌, length, get_or, set, take, drop, length-drop, length-append, replicate, min, inl, inr, ◌⊎◌, arith}
use Rattle.std.proofs.Math.Seq.{take-set-lt}
use Rattle.std.proofs.lemmas.List.{ext_get_or, get_or-take, get_or-drop, get_or-replicate, get_or_append_left, get_or-append_right, get_or-set_other, drop-set-add, take_more, length-take, length-take-le, length-replicate}
use Rattle.std.proofs.lemmas.Bool.Decides.{nat_tests}
use Rattle.std.specs.List.{slice_range}
use Rattle.space_core.specs.Runs.{put_run}
use Rattle.space_core.specs.Words.{filled, write_from}
use Rattle.space_core.proofs.CellRuns.{length-put_run}
use Rattle.layer_rules.specs.declared.Block.{Block}
use Rattle.layer_rules.specs.Blocks.{end_of, lies_in, is_apart}
use Rattle.layer_rules.specs.Layering.{KeepsBytes}
use Rattle.layer_laws.specs.Lawful.{ChangesInside}
use Rattle.layer_laws.proofs.Runs.{put_run-below, put_run-in}

slice-at : (xs : List ℕ) (from upto i : ℕ) → i < upto - from → get_or (slice_range xs from upto) i 0 ≡ get_or xs (from + i) 0
slice-at xs from upto i lt = get_or-take (upto - from) (drop from xs) i 0 lt ∙ get_or-drop from xs i 0

length-slice : (xs : List ℕ) (from upto : ℕ) → length (slice_range xs from upto) ≡ min (upto - from) (length xs - from)
length-slice xs from upto = length-take (upto - from) (drop from xs) ∙ ap (min (upto - from)) (length-drop from xs)

pub slice-same : (old new : List ℕ) (from upto : ℕ) → length new ≡ length old → KeepsBytes old new from upto → slice_range new from upto ≡ slice_range old from upto
slice-same old new from upto same keeps =
    ext_get_or 0 (slice_range new from upto) (slice_range old from upto)
    (length-slice new from upto ∙ (ap (λ n. min (upto - from) (n - from)) same ∙ sym (length-slice old from upto)))
    (λ i lt.
    let l : i < upto - from = omega (arith, length-slice new from upto) in
    slice-at new from upto i l ∙ (keeps.at (from + i) (omega arith) (omega arith) ∙ sym (slice-at old from upto i l)))

-- the bytes that were filled are all 0
pub slice-filled : (bytes : List ℕ) (p n : ℕ) → p + n ≤ length bytes → slice_range (put_run 0 p n bytes) p (p + n) ≡ replicate n 0
slice-filled bytes p n room =
    let filled = put_run 0 p n bytes in
    let len = length-put_run 0 p n bytes in
    let size : length (slice_range filled p (p + n)) ≡ n = omega (arith, length-slice filled p (p + n), len) in
    ext_get_or 0 (slice_range filled p (p + n)) (replicate n 0) (size ∙ sym (length-replicate n 0))
    (λ i lt.
    let l : i < (p + n) - p = omega arith in
    slice-at filled p (p + n) i l ∙ (put_run-in 0 p n bytes (p + i) 0 (omega arith) (omega arith) (omega arith) ∙ sym (get_or-replicate n i 0 0 (omega arith))))

-- bytes that change inside a block leave those of one that is apart
pub inside-keeps : (old new : List ℕ) (b c : Block) → ChangesInside b old new → is_apart b c ≡ true → KeepsBytes old new c.place (end_of c)
inside-keeps old new b c h a = record {
  at = λ i from upto.
      let sides : (end_of b ≤ c.place) ⊎ (end_of c ≤ b.place) = grind (arith, nat_tests) in
      elim sides [ inl l ↦ h.above i (omega arith) | inr l ↦ h.below i (omega arith) ];
}

-- ---- another length

-- The bytes that were carried to a block, with zeros behind them, are those of the block that gets its length.
pub slice-resized : (old mid new : List ℕ) (b c : Block) → end_of b ≤ length old → end_of c ≤ length mid
    → ((i : ℕ) → i < min b.len c.len → get_or mid (c.place + i) 0 ≡ get_or old (b.place + i) 0)
    → new ≡ filled mid (c.place + min b.len c.len) (c.len - min b.len c.len) 0
    → slice_range new c.place (end_of c) ≡ take c.len (slice_range old b.place (end_of b)) ++ replicate (c.len - b.len) 0
slice-resized old mid new b c inside room carried f =
    let k = min b.len c.len in
    let p = c.place in
    let n = c.len in
    let was = slice_range old b.place (end_of b) in
    let more : List ℕ = replicate (n - b.len) 0 in
    let size : length new ≡ length mid = ap length f ∙ length-put_run 0 (p + k) (n - k) mid in
    let first : length was ≡ b.len = omega (arith, length-slice old b.place (end_of b)) in
    let kept : length (take n was) ≡ k = omega (arith, length-take n was, first) in
    let zeros : length more ≡ n - b.len = length-replicate (n - b.len) 0 in
    let left : length (slice_range new p (end_of c)) ≡ n = omega (arith, length-slice new p (end_of c), size) in
    let right : length (take n was ++ more) ≡ n = omega (arith, length-append (take n was) more, kept, zeros) in
    ext_get_or 0 (slice_range new p (end_of c)) (take n was ++ more) (left ∙ sym right)
    (λ i lt.
    let l : i < n = omega arith in
    let here = slice-at new p (end_of c) i (omega arith) ∙ ap (λ (xs : List ℕ). get_or xs (p + i) 0) f in
    let sides : (i < k) ⊎ (b.len ≤ i) = grind arith in
    elim sides [
      | inl lo ↦ here
          ∙ (put_run-below 0 (p + k) (n - k) mid (p + i) 0 (omega arith)
          ∙ (carried i lo
          ∙ sym (get_or_append_left (take n was) more 0 i (omega arith) ∙ (get_or-take n was i 0 l ∙ slice-at old b.place (end_of b) i (omega arith)))))
      | inr hi ↦ here
          ∙ (put_run-in 0 (p + k) (n - k) mid (p + i) 0 (omega arith) (omega arith) (omega arith)
          ∙ sym (get_or-append_right (take n was) more b.len i 0 (omega (arith, kept)) hi ∙ get_or-replicate (n - b.len) (i - b.len) 0 0 (omega arith)))
    ])

-- ---- bytes that are written and read

slice-set : (bytes : List ℕ) (p n o x : ℕ) → o < n → slice_range (set bytes (p + o) x) p (p + n) ≡ set (slice_range bytes p (p + n)) o x
slice-set bytes p n o x lt = ap (take ((p + n) - p)) (drop-set-add p bytes o x) ∙ take-set-lt ((p + n) - p) (drop p bytes) o x (omega arith)

-- what is written into a block
pub slice-written : (bytes : List ℕ) (p n o : ℕ) (given : List ℕ) → o + length given ≤ n → slice_range (write_from bytes (p + o) given) p (p + n) ≡ write_from (slice_range bytes p (p + n)) o given
slice-written bytes p n o [] h = refl
slice-written bytes p n o (x ∷ given) h =
    let q : (p + o) + 1 ≡ p + (o + 1) = omega arith in
    ap (λ at. slice_range (write_from (set bytes (p + o) x) at given) p (p + n)) q
    ∙ (slice-written (set bytes (p + o) x) p n (o + 1) given (omega arith) ∙ ap (λ xs. write_from xs (o + 1) given) (slice-set bytes p n o x (omega arith)))

-- the other bytes stay
pub written-below : (bytes : List ℕ) (p : ℕ) (given : List ℕ) (i : ℕ) → i < p → get_or (write_from bytes p given) i 0 ≡ get_or bytes i 0
written-below bytes p [] i h = refl
written-below bytes p (x ∷ given) i h = written-below (set bytes p x) (p + 1) given i (omega arith) ∙ get_or-set_other bytes p i x 0 (omega arith)

pub written-above : (bytes : List ℕ) (p : ℕ) (given : List ℕ) (i : ℕ) → p + length given ≤ i → get_or (write_from bytes p given) i 0 ≡ get_or bytes i 0
written-above bytes p [] i h = refl
written-above bytes p (x ∷ given) i h = written-above (set bytes p x) (p + 1) given i (omega arith) ∙ get_or-set_other bytes p i x 0 (omega arith)

-- one more byte is written behind them
pub written-more : (bytes : List ℕ) (p : ℕ) (given : List ℕ) (x : ℕ) → write_from bytes p (given ++ x ∷ []) ≡ set (write_from bytes p given) (p + length given) x
written-more bytes p [] x = let q : p + 0 ≡ p = omega arith in ap (λ at. set bytes at x) (sym q)
written-more bytes p (y ∷ given) x =
    let q : (p + 1) + length given ≡ p + length (y ∷ given) = omega arith in
    written-more (set bytes p y) (p + 1) given x ∙ ap (λ at. set (write_from (set bytes p y) (p + 1) given) at x) q

pub written-next : (bytes : List ℕ) (p k : ℕ) (given : List ℕ) (x : ℕ) → k < length given → x ≡ get_or given k x → write_from bytes p (take (k + 1) given) ≡ set (write_from bytes p (take k given)) (p + k) x
written-next bytes p k given x lt e =
    let size : length (take k given) ≡ k = length-take-le k given (omega arith) in
    ap (write_from bytes p) (take_more given k x lt ∙ ap (λ y. take k given ++ y ∷ []) (sym e))
    ∙ (written-more bytes p (take k given) x ∙ ap (λ n. set (write_from bytes p (take k given)) (p + n) x) size)

-- bytes of a block are bytes of the Space
pub slice-inner : (xs : List ℕ) (p n o k : ℕ) → o + k ≤ n → p + n ≤ length xs → slice_range (slice_range xs p (p + n)) o (o + k) ≡ slice_range xs (p + o) ((p + o) + k)
slice-inner xs p n o k h room =
    let all = slice_range xs p (p + n) in
    let size : length all ≡ n = omega (arith, length-slice xs p (p + n)) in
    let left : length (slice_range all o (o + k)) ≡ k = omega (arith, length-slice all o (o + k), size) in
    let right : length (slice_range xs (p + o) ((p + o) + k)) ≡ k = omega (arith, length-slice xs (p + o) ((p + o) + k)) in
    ext_get_or 0 (slice_range all o (o + k)) (slice_range xs (p + o) ((p + o) + k)) (left ∙ sym right)
    (λ i lt.
    let q : p + (o + i) ≡ (p + o) + i = omega arith in
    slice-at all o (o + k) i (omega arith) ∙ (slice-at xs p (p + n) (o + i) (omega arith) ∙ (ap (λ at. get_or xs at 0) q ∙ sym (slice-at xs (p + o) ((p + o) + k) i (omega arith)))))

-- ---- blocks

-- blocks in extents that are apart are apart
pub inner-apart : (b c x y : Block) → lies_in b x ≡ true → lies_in c y ≡ true → is_apart x y ≡ true → is_apart b c ≡ true
inner-apart b c x y h k a = grind (arith, nat_tests)

pub apart-flip : (b c : Block) → is_apart b c ≡ true → is_apart c b ≡ true
apart-flip b c h = grind (arith, nat_tests)
