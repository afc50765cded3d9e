use Rattle.std.proofs.Common.{◌+◌, ◌*◌}
use Rattle.expr_reader.proofs.reading.+descent.Given as goal

-- a level is more than all arguments that a row may have
abbrev pub decreases-arguments : goal.decreases-arguments
decreases-arguments l = 73786976294838206464 * l.left + 2 * l.most + 2

abbrev pub decreases-layers : goal.decreases-layers
decreases-layers l = 73786976294838206464 * l.left + 2 * l.most + 3

abbrev pub decreases-layer : goal.decreases-layer
decreases-layer l = 73786976294838206464 * l.left

abbrev pub decreases-tree : goal.decreases-tree
decreases-tree l = 73786976294838206464 * l.left + 1

abbrev pub decreases-chosen : goal.decreases-chosen
decreases-chosen l = 73786976294838206464 * l.left + 2 * l.most + 3

abbrev pub decreases-numbered : goal.decreases-numbered
decreases-numbered l = 73786976294838206464 * l.left + 2 * l.most + 3
