use Rattle.affix_layer.proofs.Bytes.{affixes-carried}
use Rattle.affix_layer.proofs.affixing.Affix.carry_affixes.Goals as goal

pub returns-clause-carried : goal.returns-clause-carried
returns-clause-carried g c =
    let l = c.args.self.now in
    let n = c.open_len-open.ensures in
    affixes-carried l.prefix l.suffix c.args.b c.args.c c.args.space.now.bytes c.copy.new.self.bytes c.copy-2.new.self.bytes c.requires.fits c.requires.new_fits c.requires.room c.requires.new_room c.requires.apart (rw n at c.copy.ensures.copied) c.copy-2.ensures.copied
