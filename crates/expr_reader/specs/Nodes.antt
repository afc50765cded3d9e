-- What the reader makes, as plain data.
use Rattle.expr_reader.specs.declared.node.Node.{Node, Leaf, Inner}
use Rattle.expr_reader.specs.declared.node.Args.{Args, Last', Number', Chosen', Layer'}
use Rattle.expr_reader.specs.Trees.{Tree, leaf, node, last, number, choice, layer}
use Rattle.expr_reader.specs.Trees as tree

-- what the reader made, without where it lies in memory
abbrev mutual
  pub node_tree : Node → Tree
  node_tree (Leaf at k) = leaf at k
  node_tree (Inner at k args) = node at k (args_tree args)

  -- the same of arguments
  pub args_tree : Args → tree.Args
  args_tree (Last' box below) = last (node_tree below)
  args_tree (Number' value box rest) = number value (args_tree rest)
  args_tree (Chosen' c box rest) = choice c (args_tree rest)
  args_tree (Layer' box below box' rest) = layer (node_tree below) (args_tree rest)
