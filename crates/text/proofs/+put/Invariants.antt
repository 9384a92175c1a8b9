-- `text::put` writes the digits before the last by itself: the measure is the number. Assumes nothing.
use Rattle.text.proofs.+put.Given as goal

abbrev pub decreases-put : goal.decreases-put
decreases-put l = l.n
