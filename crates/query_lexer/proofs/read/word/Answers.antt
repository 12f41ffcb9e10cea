use Rattle.query_lexer.proofs.Cut.{cut_word}
use Rattle.query_lexer.proofs.read.word.Goals as goal

pub split_at-requires : goal.split_at-requires
split_at-requires c = rw (c.word_len.ensures, c.as_bytes.ensures.value) (cut_word c.args.text.now c.utf8.text c.requires)
