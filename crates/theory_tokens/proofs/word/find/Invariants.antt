use Rattle.std.proofs.Common.{◌≡◌, drop}
use Rattle.theory_grammar.specs.Lexeme.{keyword_among}
use Rattle.theory_tokens.proofs.word.find.Given as goal

abbrev pub invariant-loop-keyword : goal.invariant-loop-keyword
invariant-loop-keyword l = keyword_among l.fn.word (drop l.keyword-index l.keywords) ≡ keyword_among l.fn.word l.keywords
