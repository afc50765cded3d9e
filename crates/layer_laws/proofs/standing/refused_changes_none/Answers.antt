use Rattle.layer_laws.proofs.FurtherLaws.{refused-expand, refused-reallocate}
use Rattle.layer_laws.proofs.standing.refused_changes_none.Goals as goal

pub returns-clause-expand : goal.returns-clause-expand
returns-clause-expand c = refused-expand

pub returns-clause-reallocate : goal.returns-clause-reallocate
returns-clause-reallocate c = refused-reallocate
