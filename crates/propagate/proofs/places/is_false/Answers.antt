use Rattle.propagate.proofs.places.is_false.Goals as goal

pub returns-in-True-clause-no : goal.returns-in-True-clause-no
returns-in-True-clause-no c = λ no is_false. c.in-True.ensures.trail.consistent c.args.lit c.in-True.ensures.value.stands is_false.stands
