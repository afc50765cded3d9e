use Rattle.layer_laws.proofs.ReadingNoBytes.{holds-reads_no_bytes, route-reads_no_bytes, routed-reads_no_bytes, extent-reads_no_bytes, asked_along-reads_no_bytes, owns-reads_no_bytes, owns-changes_by_no_bytes}
use Rattle.layer_laws.proofs.rules.reads_no_bytes.Goals as goal

pub returns-clause-holds : goal.returns-clause-holds
returns-clause-holds c = holds-reads_no_bytes

pub returns-clause-route : goal.returns-clause-route
returns-clause-route c = route-reads_no_bytes

pub returns-clause-routed : goal.returns-clause-routed
returns-clause-routed c = routed-reads_no_bytes

pub returns-clause-extent : goal.returns-clause-extent
returns-clause-extent c = extent-reads_no_bytes

pub returns-clause-asked_along : goal.returns-clause-asked_along
returns-clause-asked_along c = asked_along-reads_no_bytes

pub returns-clause-owns : goal.returns-clause-owns
returns-clause-owns c = owns-reads_no_bytes

pub returns-clause-changes : goal.returns-clause-changes
returns-clause-changes c = owns-changes_by_no_bytes
