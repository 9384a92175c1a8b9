-- What an AT line is answered, by the line alone. Assumes nothing.
use Rattle.rules.specs.declared.Answer.{Answer}
use Rattle.rules.specs.Calls.{Line, nfm, nfm_start, intervals, query, bad, answer}

-- the bytes of the answer are 15 for the read, else 4
abbrev pub line_answer : Line → Answer
line_answer (nfm a) = answer 0 4
line_answer (nfm_start a s) = answer 0 4
line_answer (intervals l) = answer 0 4
line_answer query = answer 0 15
line_answer bad = answer 5 0
