-- The jobs of statements that come one after another.
use Rattle.std.proofs.Common.{◌≡◌, ◌∙◌, List, [], ◌∷◌, ◌++◌, ℕ, refl, ap}
use Rattle.icnf_text.specs.declared.statements.Statement.{Statement}
use Rattle.icnf_text.specs.declared.statements.Statement.TheVariants.{Clause, Cube}
use Rattle.icnf_text.specs.declared.statements.Numbered.{Numbered}
use Rattle.icnf_text.specs.Jobs.{Job, jobs_after, clauses_after}
use Rattle.tarmo_run.specs.Output.{unnumbered}

pub unnumbered-append : (first second : List Numbered) →
    unnumbered (first ++ second) ≡ unnumbered first ++ unnumbered second
unnumbered-append [] second = refl
unnumbered-append (numbered ∷ first) second =
    ap (λ (list : List Statement). numbered.statement ∷ list) (unnumbered-append first second)

jobs_after-append : (clauses : List (List ℕ)) (first second : List Statement) →
    jobs_after clauses (first ++ second) ≡ jobs_after clauses first
    ++ jobs_after (clauses_after clauses first) second
jobs_after-append clauses [] second = refl
jobs_after-append clauses (Clause clause ∷ first) second =
    jobs_after-append (clauses ++ clause ∷ []) first second
jobs_after-append clauses (Cube cube ∷ first) second =
    ap (λ (jobs : List Job). record { clauses = clauses; cube = cube } ∷ jobs)
    (jobs_after-append clauses first second)

clauses_after-append : (clauses : List (List ℕ)) (first second : List Statement) →
    clauses_after clauses (first ++ second) ≡ clauses_after (clauses_after clauses first) second
clauses_after-append clauses [] second = refl
clauses_after-append clauses (Clause clause ∷ first) second =
    clauses_after-append (clauses ++ clause ∷ []) first second
clauses_after-append clauses (Cube cube ∷ first) second = clauses_after-append clauses first second

-- the jobs of all statements are those of the first ones, and then those of the others
pub more_jobs : (clauses : List (List ℕ)) (first second : List Numbered) →
    jobs_after clauses (unnumbered (first ++ second)) ≡ jobs_after clauses (unnumbered first)
    ++ jobs_after (clauses_after clauses (unnumbered first)) (unnumbered second)
more_jobs clauses first second = ap (jobs_after clauses) (unnumbered-append first second)
    ∙ jobs_after-append clauses (unnumbered first) (unnumbered second)

pub more_clauses : (clauses : List (List ℕ)) (first second : List Numbered) →
    clauses_after clauses (unnumbered (first ++ second))
    ≡ clauses_after (clauses_after clauses (unnumbered first)) (unnumbered second)
more_clauses clauses first second = ap (clauses_after clauses) (unnumbered-append first second)
    ∙ clauses_after-append clauses (unnumbered first) (unnumbered second)
