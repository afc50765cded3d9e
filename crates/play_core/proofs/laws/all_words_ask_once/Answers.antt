use Rattle.play_core.proofs.Asking.{all_words}
use Rattle.play_core.proofs.laws.all_words_ask_once.Goals as goal

pub returns : goal.returns
returns c = all_words c.each_text_is_read_once.ensures.once
