use Rattle.std.proofs.Common.{drop}
use Rattle.session.specs.Searching.{IsSearching}
use Rattle.session.proofs.Loaded.{IsLoading}
use Rattle.session.proofs.inputs.push_clauses.Given as goal

abbrev pub invariant-loop-clause : goal.invariant-loop-clause
invariant-loop-clause l = IsSearching l.search
    × IsLoading l.fn.search l.search l.clauses (drop l.clause-index l.clauses) l.job
