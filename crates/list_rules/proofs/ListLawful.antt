-- A list is lawful over members that are, each of which tells what it holds: its blocks are held by them.
use Rattle.layer_laws.proofs.HeldLawful.{held-lawful}
use Rattle.layer_laws.proofs.MembersLawful.{all-regular, all-lawful}
use Rattle.list_rules.proofs.ListEmptied.{AreListed}
use Rattle.list_rules.proofs.ListHeld.{list-held}
use Rattle.list_rules.proofs.ListRegular.{list-regular}
use Rattle.list_rules.specs.ListMeanings.{ListIsLawful}
use Rattle.list_rules.specs.ListRules.{list_rules}

pub list-lawful : ListIsLawful
list-lawful es own owns regular lawful =
    let w : AreListed es = record { own = own; owns = owns; regular = all-regular es regular; lawful = all-lawful es lawful } in
    held-lawful (list_rules es) es (list-held es w) own (list-regular es regular) regular lawful
