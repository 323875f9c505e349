-- How large a problem may be. Each limit is a number of this project's own.
use Rattle.std.specs.Prelude.{ℕ}

-- the greatest variable
abbrev pub greatest_variable : ℕ
greatest_variable = 8388607

-- clauses of a text, and of a board
abbrev pub most_clauses : ℕ
most_clauses = 16777216

-- cubes of a text, and jobs of a board
abbrev pub most_jobs : ℕ
most_jobs = 1048576

-- literals of clauses and cubes together, each as often as it stands there
abbrev pub most_literals : ℕ
most_literals = 33554432

-- packets that are shared on a board
abbrev pub most_packets : ℕ
most_packets = 4194304
