use Rattle.words.proofs.numeral.+put_numeral.Given as goal

abbrev pub decreases-put_numeral : goal.decreases-put_numeral
decreases-put_numeral g l = l.n
