-- `put_word` has written the bytes of the word.
use Rattle.text.proofs.Puts.{word_put}
use Rattle.text.proofs.put.put_word.Goals as goal

pub returns-clause-written : goal.returns-clause-written
returns-clause-written c = word_put c.args.out.now c.args.word.now _ c.args.at c.requires c.copy_from_slice.ensures.after
