-- What the nodes of a tree of runs say of its positions, and how a tree is made and changed.
use Rattle.std.proofs.Common.{ℕ, suc, ◌≡◌, ◌+◌, ◌-◌, ◌/◌, max, ◌^◌, ◌≤◌, ◌<◌, Bool, true, false, List, length, ap, sym, ◌∙◌, inl, inr, ◌⊎◌, arith}
use Rattle.std.proofs.lemmas.Bool.{cases_lt}
use Rattle.std.proofs.lemmas.Nat.{pow_pos}
use Rattle.std.proofs.lemmas.List.{get_or_past}
use Rattle.std.proofs.Math.Nat.{pow-suc}
use Rattle.std.proofs.Math.Pow.{pow_mono}
use Rattle.std.specs.Int.{IsNextPowerOfTwo}
use Rattle.space_core.specs.declared.tree.Summary.{Summary}
use Rattle.space_core.proofs.CellRuns.{length-put_run}
use Rattle.space_core.specs.Memory.{most_cells}
use Rattle.space_core.specs.Runs.{put_run}
use Rattle.space_core.specs.Summaries.{IsFree, IsLongest, SumsUp}
use Rattle.space_core.specs.Trees.{IsTree, Covers, Tells, node_at}

-- a free run ends within the row
free-within : (us : List Bool) (w c m : ℕ) → length us ≤ w → IsFree us c m → 0 < m → c + m ≤ w
free-within us w c m f h o = at (cases_lt w (c + m))
  where
    at : (w < c + m) ⊎ (c + m ≤ w) → c + m ≤ w
    at (inr s) = s
    at (inl s) = absurd (no (h (c + m - 1) (omega arith) (omega arith)) (get_or_past us (c + m - 1) true (omega arith)))
      where
        no : {b : Bool} → b ≡ false → b ≡ true → ⊥
        no x y = cc

-- the root sums up all
pub longest-root : (us : List Bool) (nodes : List Summary) → IsTree us nodes → IsLongest us (node_at us nodes 1).best
longest-root us nodes t =
    record { found = (r.best_found.0, r.best_found.3); most = λ c m h. at c m h (cases_lt 0 m) }
  where
    r : SumsUp us 0 (length nodes) (node_at us nodes 1)
    r = t.tells 1 0 (length nodes) (record { power = t.width.0; place = omega arith; within = omega arith })

    at : (c m : ℕ) → IsFree us c m → (0 < m) ⊎ (m ≤ 0) → m ≤ (node_at us nodes 1).best
    at c m h (inr s) = omega arith
    at c m h (inl s) = r.best_most c m (omega arith) (omega (arith, free-within us (length nodes) c m t.width.1 h s)) h

powers : (a b n : ℕ) → n ≤ 2 ^ a → 2 ^ b / 2 < max 1 n → b ≤ a
powers a b n h k = at (cases_lt a b)
  where
    at : (a < b) ⊎ (b ≤ a) → b ≤ a
    at (inr s) = s
    at (inl s) = absurd (omega (arith, pow-suc 2 a, pow_pos a, pow_mono {i = suc a} {j = b} s))

-- a row has one width
same_width : (n v w : ℕ) → IsNextPowerOfTwo n v → IsNextPowerOfTwo n w → v ≡ w
same_width n v w h k =
    let a : v ≡ 2 ^ h.0.0 = h.0.1 in
    let b : w ≡ 2 ^ k.0.0 = k.0.1 in
    let x = powers h.0.0 k.0.0 n (rw a at h.1) (rw b at k.2) in
    let y = powers k.0.0 h.0.0 n (rw b at k.1) (rw a at h.2) in
    let e : h.0.0 ≡ k.0.0 = omega arith in
    a ∙ ap (λ d. 2 ^ d) e ∙ sym b

pub covered : (us : List Bool) (nodes : List Summary) (i p n : ℕ) → IsTree us nodes → Covers us i p n → SumsUp us p n (node_at us nodes i)
covered us nodes i p n t h =
    let e : h.width ≡ length nodes = same_width (length us) h.width (length nodes) h.is_width t.width in
    t.tells i p n (rw (← e) h.is_node)

-- ---- a tree that is made, and one of which a run of positions is changed

pub tree-new : (us : List Bool) (nodes : List Summary) (n : ℕ) → n ≤ most_cells → length us ≡ n → IsNextPowerOfTwo n (length nodes) → ((i p m : ℕ) → Tells us nodes i p m) → IsTree us nodes
tree-new us nodes n l e w h = record { width = rw e w; most = omega (arith, w.2); tells = h }

pub tree-put : (us : List Bool) (old new : List Summary) (b : Bool) (c n : ℕ) → IsTree us old → length new ≡ length old → ((i p m : ℕ) → Tells (put_run b c n us) new i p m) → IsTree (put_run b c n us) new
tree-put us old new b c n t e h = record {
  width = rw (length-put_run b c n us, e) t.width;
  most = rw e t.most;
  tells = h;
}
