-- The texts of a form's parts are those of its arguments.
use Rattle.std.proofs.Common.{◌≡◌, ℕ, List, [], ◌∷◌, ◌++◌, refl, sym, ◌∙◌, ap, append_assoc}
use Rattle.expr_reader.specs.declared.token.Choice.TheVariants as choice
use Rattle.expr_reader.specs.declared.tree.Bounds.{Bounds}
use Rattle.expr_reader.specs.declared.tree.Bounds.TheVariants.{Any, Range}
use Rattle.expr_reader.specs.declared.tree.RoundKind.{RoundKind}
use Rattle.expr_reader.specs.declared.tree.RoundKind.TheVariants.{Pow2, Step}
use Rattle.expr_reader.specs.declared.tree.Form.TheBlock.{Row_of-Part, end_of-Part, more_of-Part, items-the_row-Part, items_shown-the_row-Part-0}
use Rattle.expr_reader.specs.declared.tree.Parts.{Parts, Parts', out-Parts}
use Rattle.std.specs.Prelude.{codes}
use Rattle.expr_reader.specs.declared.token.Name.TheVariants as name
use Rattle.expr_reader.specs.Trees.{Tree, Args, last, form_tree, members, members_of, bounds_args, kind_args}
use Rattle.expr_reader.specs.Canonical.{numeral, word_text, choice_text, canonical, args_text}
use Rattle.expr_reader.specs.Printing.{bounds_text, kind_text, parts_text, members_text}

regroup : (a b c d : List ℕ) → a ++ (b ++ 44 ∷ (c ++ d)) ≡ (a ++ (b ++ 44 ∷ c)) ++ d
regroup a b c d = sym (append_assoc a (b ++ 44 ∷ c) d ∙ ap (λ ts. a ++ ts) (append_assoc b (44 ∷ c) d))

row_text : (m : _) (row : Row_of-Part m) (args : Args) → args_text (members_of row args) ≡ parts_text (items-the_row-Part m row) ++ args_text args
row_text m end_of-Part args = refl
row_text m (more_of-Part {n = n} threshold below form rest) args =
    ap (λ ts. numeral threshold ++ (canonical (form_tree below form) ++ 44 ∷ ts)) (row_text n rest args) ∙ regroup (numeral threshold) (canonical (form_tree below form)) (parts_text (items-the_row-Part n rest)) (args_text args)

members-text : (p : Parts) (args : Args) → args_text (members p args) ≡ members_text p ++ args_text args
unfolding out-Parts denote.Hole.Carrier.out Rattle.expr_reader.specs.declared.tree.Form.TheBlock.shown-the_row-Part-0
members-text (Parts' m row) args = row_text _ row args ∙ ap (λ ps. parts_text ps ++ args_text args) (sym (items_shown-the_row-Part-0 m row))

pub bounds-text : (b : Bounds) (args : Args) → args_text (bounds_args b args) ≡ bounds_text b ++ args_text args
bounds-text Any args = sym (append_assoc (choice_text choice.Any) (44 ∷ []) (args_text args))
bounds-text (Range least greatest) args = sym (append_assoc (numeral least) (numeral greatest) (args_text args))

pub kind-text : (k : RoundKind) (args : Args) → args_text (kind_args k args) ≡ kind_text k ++ args_text args
kind-text Pow2 args = sym (append_assoc (choice_text choice.Pow2) (44 ∷ []) (args_text args))
kind-text (Step step) args = refl

-- a segregator's text, put part after part
pub segregate-text : (old word all : List ℕ) (p : Parts) (e : Tree) → word ≡ old ++ (word_text name.Segregate ++ codes "(") → all ≡ word ++ members_text p → all ++ (canonical e ++ codes ")") ≡ old ++ (word_text name.Segregate ++ 40 ∷ args_text (members p (last e)))
segregate-text old word all p e w a =
    ap (λ ts. ts ++ (canonical e ++ codes ")")) (a ∙ ap (λ ts. ts ++ members_text p) w) ∙ append_assoc (old ++ (word_text name.Segregate ++ codes "(")) (members_text p) (canonical e ++ codes ")")
    ∙ ap (λ ts. (old ++ (word_text name.Segregate ++ codes "(")) ++ ts) (sym (members-text p (last e))) ∙ append_assoc old (word_text name.Segregate ++ codes "(") (args_text (members p (last e)))
    ∙ ap (λ ts. old ++ ts) (append_assoc (word_text name.Segregate) (codes "(") (args_text (members p (last e))))

pub ruleset texts = (bounds-text, kind-text)
