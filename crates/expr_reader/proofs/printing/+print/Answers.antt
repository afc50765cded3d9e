use Rattle.std.proofs.Common.{◌≡◌, ◌++◌, ◌∷◌, sym, ◌∙◌, ap, append-nil}
use Rattle.std.specs.Prelude.{string_bytes}
use Rattle.std.proofs.lemmas.List.{drop_all}
use Rattle.std.proofs.lemmas.Result.{on_ok_weaker}
use Rattle.expr_reader.specs.declared.token.Name.TheVariants as name
use Rattle.expr_reader.specs.declared.tree.Expr.{Expr}
use Rattle.expr_reader.specs.declared.tree.Form.{Form}
use Rattle.expr_reader.specs.Trees.{last, form_tree, tree_of, members}
use Rattle.expr_reader.specs.Canonical.{word_text, canonical, args_text}
use Rattle.expr_reader.specs.Printing.{parts_text}
use Rattle.expr_reader.proofs.Printed.{segregate-text}
use Rattle.expr_reader.proofs.printing.+print.Goals as goal

pub put_members-returns : goal.put_members-returns
put_members-returns t c =
    let out = string_bytes c.loop-part.out in
    let old = string_bytes c.args.out.now in
    sym (append-nil out) ∙ ap (λ ps. out ++ parts_text ps) (sym (drop_all c.loop-part.part-index c.deref-part-items.result.now c.loop-part-test.false)) ∙ c.loop-part.invariant
    ∙ ap (λ ps. old ++ parts_text ps) c.deref-part-items.ensures.value

pub put-returns-in_ok-put_members-in-Segregate : goal.put-returns-in_ok-put_members-in-Segregate
put-returns-in_ok-put_members-in-Segregate t c =
    let old = string_bytes c.args.out.now in
    let parts = c.in-Segregate.parts in
    let is : canonical (tree_of c.args.expr.now) ≡ word_text name.Segregate ++ 40 ∷ args_text (members parts (last (tree_of c.in-Segregate.last.value))) = ap (λ (f : Form). canonical (form_tree c.args.expr.now.at f)) c.in-Segregate.is in
    let below : tree_of c.deref-in-Segregate.result.now ≡ tree_of c.in-Segregate.last.value = ap (λ (e : Expr). tree_of e) c.deref-in-Segregate.ensures in
    on_ok_weaker c.put_last-in-Segregate.result (λ h. h ∙ segregate-text old _ _ parts (tree_of c.deref-in-Segregate.result.now) c.in_ok-put_word-in-Segregate.ensures c.in_ok-put_members-in-Segregate.ensures
    ∙ ap (λ e. old ++ (word_text name.Segregate ++ 40 ∷ args_text (members parts (last e)))) below ∙ sym (ap (λ ts. old ++ ts) is)) c.put_last-in-Segregate.ensures
