use Rattle.std.proofs.Common.{◌+◌, ◌*◌}
use Rattle.expr_reader.proofs.forms.+forms.Given as goal

abbrev pub decreases-expr_of : goal.decreases-expr_of
decreases-expr_of l = 3 * l.left

abbrev pub decreases-parent : goal.decreases-parent
decreases-parent l = 3 * l.most + 1

abbrev pub decreases-layer_form : goal.decreases-layer_form
decreases-layer_form l = 3 * l.left + 2
