use Rattle.std.proofs.Common.{◌≡◌, ◌∷◌, rules}
use Rattle.std.specs.Vec.Iter.{into_iter_items}
use Rattle.tarmo_run.proofs.Adding.{first_added, one_added}
use Rattle.tarmo_run.proofs.Boards.{jobs_on}
use Rattle.tarmo_run.proofs.client.Client.add_all.Goals as goal

pub loop-numbered-preserved : goal.loop-numbered-preserved
loop-numbered-preserved c =
    let next : into_iter_items c.loop-numbered.numbered-iterator
    ≡ c.in-Some.numbered ∷ into_iter_items c.next.new.self = search rules in
    record {
      can = tt;
      ends = tt;
      more = jobs_on _ _ _ c.loop-numbered.invariant.more c.add.ensures.more;
      adds = one_added _ _ _ _ _ _ _ _ _ c.in-Some.numbered next c.loop-numbered.invariant.adds
          c.in_ok-add.ensures.all;
    }

pub returns-in_err-add-clause-first : goal.returns-in_err-add-clause-first
returns-in_err-add-clause-first c =
    first_added _ _ _ _ _ _ _ c.loop-numbered.invariant.adds c.in_err-add.ensures.none

pub returns-in_err-add-clause-more : goal.returns-in_err-add-clause-more
returns-in_err-add-clause-more c =
    jobs_on _ _ _ c.loop-numbered.invariant.more c.in_err-add.ensures.more
