use Rattle.std.proofs.Common.{◌∙◌, ◌≤◌, ℕ, Option, Some, None, codes}
use Rattle.std.specs.Prelude.{IfSome}
use Rattle.std.specs.Str.Parse.{ExplainsUnsignedError, HasUnsignedDigitsIfOk, ParsesUnsigned}
use Rattle.clap.specs.Matches.{found_of}
use Rattle.clap.specs.Walk.{one_of, rows_of}
use Rattle.clap.proofs.WalkLemmas.{first_value-rows}
use Rattle.words.proofs.Numbers.{IsNumberOf}
use Rattle.words.proofs.Options.{attempts_at, conflicts_at, sum_at, workers_at}
use Rattle.words.proofs.given.Given.new.Goals as goal

workers : (c : goal.After-get_str) → IsNumberOf (one_of (codes "workers") (rows_of (found_of
    c.args.matches.now))) 1 64 c.get_one.result
workers c = workers_at (λ bs r. ParsesUnsigned 32 10 bs r × ExplainsUnsignedError 10 bs r ×
    HasUnsignedDigitsIfOk bs r) c.requires.parse.0 c.args.matches.now c.requires.parse.1
    c.get_one.result (λ u x g. g.0)
    c.get_one.ensures.none c.get_one.ensures.value

conflicts : (c : goal.After-get_str) → IsNumberOf (one_of (codes "conflicts") (rows_of (found_of
    c.args.matches.now))) 1 18446744073709551615 c.get_one-2.result
conflicts c = conflicts_at (λ bs r. ParsesUnsigned 64 10 bs r × ExplainsUnsignedError 10 bs r ×
    HasUnsignedDigitsIfOk bs r) c.requires.parse.0 c.args.matches.now c.requires.parse.1
    c.get_one-2.result (λ u x g. g.0)
    c.get_one-2.ensures.none c.get_one-2.ensures.value

attempts : (c : goal.After-get_str) → IsNumberOf (one_of (codes "attempts") (rows_of (found_of
    c.args.matches.now))) 1 64 c.get_one-3.result
attempts c = attempts_at (λ bs r. ParsesUnsigned 32 10 bs r × ExplainsUnsignedError 10 bs r ×
    HasUnsignedDigitsIfOk bs r) c.requires.parse.0 c.args.matches.now c.requires.parse.1
    c.get_one-3.result (λ u x g. g.0)
    c.get_one-3.ensures.none c.get_one-3.ensures.value

sum : (c : goal.After-get_str) → IsNumberOf (one_of (codes "sum") (rows_of (found_of
    c.args.matches.now))) 0 18446744073709551615 c.get_one-4.result
sum c = sum_at (λ bs r. ParsesUnsigned 64 10 bs r × ExplainsUnsignedError 10 bs r ×
    HasUnsignedDigitsIfOk bs r) c.requires.parse.0 c.args.matches.now c.requires.parse.1
    c.get_one-4.result (λ u x g. g.0)
    c.get_one-4.ensures.none c.get_one-4.ensures.value

pub returns-clause-told : goal.returns-clause-told
returns-clause-told c = record {
  workers = (workers c).0;
  conflicts = (conflicts c).0;
  attempts = (attempts c).0;
  first = c.is_there.ensures;
  trace = c.is_there-2.ensures;
  sum = (sum c).0;
  file = c.get_str.ensures ∙ first_value-rows (found_of c.args.matches.now) (codes "file");
}

-- the upper end is the type's own
least : (low high : ℕ) (o : Option ℕ) → IfSome o (λ n. (low ≤ n) × (n ≤ high)) →
    IfSome o (λ n. low ≤ n)
least low high None h = tt
least low high (Some n) h = h.0

pub returns-clause-within : goal.returns-clause-within
returns-clause-within c = record {
  workers = (workers c).1;
  conflicts = least 1 18446744073709551615 c.get_one-2.result (conflicts c).1;
  attempts = (attempts c).1;
}
