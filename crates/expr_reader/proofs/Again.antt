-- The canonical text of a buildable expression is accepted, as that expression in its places.
use Rattle.std.proofs.Common.{◌≡◌, refl, sym, ◌∙◌, ap, subst, ℕ, suc, ◌+◌, List, [], ◌∷◌, max, min, length, Option, None, arith}
use Rattle.expr_reader.specs.declared.signature.Signature.{Signature}
use Rattle.expr_reader.specs.declared.token.Name.{Name}
use Rattle.expr_reader.specs.declared.node.Head.TheVariants.{Number, Chosen}
use Rattle.expr_reader.specs.Signatures.{takes, inner, after_number, after_choice, after_layer}
use Rattle.expr_reader.specs.Tokens.{tokens}
use Rattle.expr_reader.specs.Trees.{Tree, leaf, node, Args, last, number, choice, layer}
use Rattle.expr_reader.specs.Grammar.{Fits, FitsIn, depth, greatest_depth}
use Rattle.expr_reader.specs.Flaws.{heads, alignment, least_alignment, word_alignment, needs, keeps_ranges, gives, starts}
use Rattle.expr_reader.specs.Canonical.{word_text, choice_text, numeral, canonical, in_place, args_in_place}
use Rattle.expr_reader.specs.Answers.{IsAccepted}
use Rattle.expr_reader.specs.Buildable.{ArePassed, KeepsRules, AllKeepRules, AllKeepRulesIn, IsBuildable}
use Rattle.expr_reader.proofs.Flawless.{keeps-flawless, accepted-buildable}
use Rattle.expr_reader.proofs.Texts.{canonical_spells}

-- where what stands between the parentheses begins
abbrev pub inside : (at : ℕ) → Name → ℕ
inside at k = at + length (word_text k) + 1

-- where the arguments behind the first begin
abbrev pub behind : (at : ℕ) → List ℕ → ℕ
behind at text = at + length text + 1

-- ---- places change nothing else

mutual
  in_place-fits : (e : Tree) (at : ℕ) → Fits e → Fits (in_place at e)
  in_place-fits (leaf old k) at f = f
  in_place-fits (node old k args) at f = in_place-fits_in args (inside at k) (inner (takes k)) f

  in_place-fits_in : (args : Args) (at : ℕ) (s : Option Signature) → FitsIn args s → FitsIn (args_in_place at args) s
  in_place-fits_in (last e) at s f = (f.0, in_place-fits e at f.1)
  in_place-fits_in (number n args) at s f = (f.0, in_place-fits_in args (at + length (numeral n)) (after_number s) f.1)
  in_place-fits_in (choice c args) at s f = in_place-fits_in args (behind at (choice_text c)) (after_choice c s) f
  in_place-fits_in (layer e args) at s f = (in_place-fits e at f.0, in_place-fits_in args (behind at (canonical e)) (after_layer s) f.1)

mutual
  in_place-depth : (e : Tree) (at : ℕ) → depth (in_place at e) ≡ depth e
  in_place-depth (leaf old k) at = refl
  in_place-depth (node old k args) at = ap (λ n. suc n) (in_place-depth_in args (inside at k))

  in_place-depth_in : (args : Args) (at : ℕ) → greatest_depth (args_in_place at args) ≡ greatest_depth args
  in_place-depth_in (last e) at = in_place-depth e at
  in_place-depth_in (number n args) at = in_place-depth_in args (at + length (numeral n))
  in_place-depth_in (choice c args) at = in_place-depth_in args (behind at (choice_text c))
  in_place-depth_in (layer e args) at = (λ i. max (in_place-depth e at i) (in_place-depth_in args (behind at (canonical e)) i))

pub in_place-heads : (args : Args) (at : ℕ) → heads (args_in_place at args) ≡ heads args
in_place-heads (last e) at = refl
in_place-heads (number n args) at = ap (λ hs. Number n ∷ hs) (in_place-heads args (at + length (numeral n)))
in_place-heads (choice c args) at = ap (λ hs. Chosen c ∷ hs) (in_place-heads args (behind at (choice_text c)))
in_place-heads (layer e args) at = in_place-heads args (behind at (canonical e))

mutual
  in_place-alignment : (e : Tree) (at : ℕ) → alignment (in_place at e) ≡ alignment e
  in_place-alignment (leaf old k) at = refl
  in_place-alignment (node old k args) at = (λ i. word_alignment k (in_place-heads args (inside at k) i) (in_place-alignment_in args (inside at k) i))

  in_place-alignment_in : (args : Args) (at : ℕ) → least_alignment (args_in_place at args) ≡ least_alignment args
  in_place-alignment_in (last e) at = in_place-alignment e at
  in_place-alignment_in (number n args) at = in_place-alignment_in args (at + length (numeral n))
  in_place-alignment_in (choice c args) at = in_place-alignment_in args (behind at (choice_text c))
  in_place-alignment_in (layer e args) at = (λ i. min (in_place-alignment e at i) (in_place-alignment_in args (behind at (canonical e)) i))

-- ---- nor what is kept

kept_again : (k : Name) (args : Args) (at : ℕ) (given : Option ℕ) → KeepsRules given k args → KeepsRules given k (args_in_place at args)
kept_again k args at given h =
    let same = in_place-heads args at in
    record {
      in_range = subst (λ hs. ArePassed (keeps_ranges k given hs)) (sym same) h.in_range;
      aligned = omega (arith, h.aligned, ap (λ hs. needs k hs) same, in_place-alignment_in args at);
    }

mutual
  in_place-keeps : (e : Tree) (at : ℕ) (given : Option ℕ) → AllKeepRules given e → AllKeepRules given (in_place at e)
  in_place-keeps (leaf old k) at given h = tt
  in_place-keeps (node old k args) at given h =
      let below = in_place-keeps_in args (inside at k) (gives k (heads args)) h.1 in
      (kept_again k args (inside at k) given h.0, subst (λ hs. AllKeepRulesIn (gives k hs) (args_in_place (inside at k) args)) (sym (in_place-heads args (inside at k))) below)

  in_place-keeps_in : (args : Args) (at : ℕ) (given : Option ℕ) → AllKeepRulesIn given args → AllKeepRulesIn given (args_in_place at args)
  in_place-keeps_in (last e) at given h = in_place-keeps e at given h
  in_place-keeps_in (number n args) at given h = in_place-keeps_in args (at + length (numeral n)) given h
  in_place-keeps_in (choice c args) at given h = in_place-keeps_in args (behind at (choice_text c)) given h
  in_place-keeps_in (layer e args) at given h = (in_place-keeps e at given h.0, in_place-keeps_in args (behind at (canonical e)) given h.1)

pub buildable_again : (e : Tree) → IsBuildable e → IsAccepted (canonical e) (in_place 0 e)
buildable_again e b =
    let spells = canonical_spells e b.fits (in_place 0 e) in
    record {
      reads = record { spelled = spells.1 refl; fits = in_place-fits e 0 b.fits; shallow = omega (arith, in_place-depth e 0, b.shallow) };
      flawless = keeps-flawless (in_place 0 e) None (starts (tokens (canonical e))) (in_place-keeps e 0 None b.keeps);
    }

pub accepted_again : (text : List ℕ) (e : Tree) → IsAccepted text e → IsAccepted (canonical e) (in_place 0 e)
accepted_again text e a = buildable_again e (accepted-buildable text e a)
