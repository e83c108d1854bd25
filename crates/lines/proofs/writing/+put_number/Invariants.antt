use Rattle.lines.proofs.writing.+put_number.Given as goal

-- the number falls to its tenth
abbrev pub decreases-put_number : goal.decreases-put_number
decreases-put_number l = l.n
